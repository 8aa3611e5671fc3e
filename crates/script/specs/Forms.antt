-- The forms of lines, and what a line of each is: `#` stands for a number, `@` for a place, any other word for itself.
use Rattle.std.specs.Prelude.{ℕ, List, [], ◌∷◌, codes}
use Rattle.calls.specs.declared.kind.Kind.TheVariants as calls
use Rattle.script.specs.declared.page.Side.TheVariants.{Open, Closed}
use Rattle.script.specs.declared.forms.Kind.{Kind}
use Rattle.script.specs.declared.forms.Kind.TheVariants.{Call, HoldFrom, Interrupt, Limits, Write, Print}
use Rattle.script.specs.declared.forms.Form as code

-- a form: what its lines are, and its text
pub record Form : Type 0 where
  pub kind : Kind
  pub text : List ℕ

abbrev pub form : Kind → List ℕ → Form
form k t = record { kind = k; text = t }

-- what the code's forms mean
abbrev pub form_of : code.Form → Form
form_of f = form f.0 f.1.now

-- in the order in which they are tried
abbrev pub forms : List Form
forms =
    form (Call calls.HowMany) (codes "how many")
    ∷ (form (Call calls.NewCell) (codes "new cell # top #")
    ∷ (form (Call calls.NewThread) (codes "new thread # in # from #")
    ∷ (form (Call calls.NewTable) (codes "new table # in # at #")
    ∷ (form (Call calls.Hold) (codes "hold # in # at @")
    ∷ (form HoldFrom (codes "hold # in # at @ from #")
    ∷ (form (Call calls.Give) (codes "give # to #")
    ∷ (form (Call calls.Show) (codes "show # in # at @")
    ∷ (form (Call calls.Remove) (codes "remove #")
    ∷ (form (Call calls.Seal) (codes "seal #")
    ∷ (form (Call calls.Stop) (codes "stop #")
    ∷ (form (Call calls.Enter) (codes "enter # with # # #")
    ∷ (form (Call calls.Resume) (codes "resume #")
    ∷ (form (Call calls.Leave) (codes "leave #")
    ∷ (form Interrupt (codes "interrupt")
    ∷ (form (Call calls.Fault) (codes "fault #")
    ∷ (form (Call calls.Grow) (codes "grow # at @")
    ∷ (form (Call calls.Shrink) (codes "shrink # at @")
    ∷ (form (Call calls.Extend) (codes "extend # at #")
    ∷ (form (Call calls.Who) (codes "who")
    ∷ (form (Call calls.Draw) (codes "draw #")
    ∷ (form Limits (codes "limits # #")
    ∷ (form (Write Open) (codes "write open #")
    ∷ (form (Write Closed) (codes "write closed #")
    ∷ (form (Print Open) (codes "print open #")
    ∷ (form (Print Closed) (codes "print closed #")
    ∷ [])))))))))))))))))))))))))
