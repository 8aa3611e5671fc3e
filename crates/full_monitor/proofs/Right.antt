-- REFINEMENT: over what events made, the program does what the definitions say.
use Rattle.std.proofs.Common.{◌≡◌, ℕ, true, List, Result, refl, ◌∙◌, subst}
use Rattle.model.specs.Calls.{Call, by_system, by_cell, garbled}
use Rattle.model.specs.State.{Limits, State, Sized}
use Rattle.model.specs.Refusals.{checks, place}
use Rattle.model.specs.Monitor as model
use Rattle.model.specs.Monitor.{answer_or, edits_or, changed}
use Rattle.model.specs.Events.{Event, state, AllPaged}
use Rattle.model.proofs.EventsKeep.{events_invariant, events_blocks}
use Rattle.fields.specs.declared.values.Unwritten.{Unwritten}
use Rattle.pages.specs.Flat.{flat}
use Rattle.pages.specs.Layout.{encode}
use Rattle.lookups.proofs.Right.{Known}
use Rattle.full_monitor.specs.Program.{says, leaves, leaves_pages}
use Rattle.full_monitor.specs.Called.{Runs, Refines}
use Rattle.monitor.specs.Called.{Slices, Called}
use Rattle.monitor.specs.declared.values.Reply.{Reply}
use Rattle.full_monitor.proofs.RightSystem.{says_system, leaves_system, pages_system}
use Rattle.full_monitor.proofs.RightCell.{says_cell, leaves_cell, pages_cell}

pub known : (l : Limits) (es : List Event) → Sized l → AllPaged l es → Known l (state l es)
known l es z r = record { sized = z; invariant = events_invariant l es r; blocks = events_blocks l es z r }

module _ (l : Limits) (s : State) (k : Known l s) (can : (n : ℕ) → l.can n ≡ true) where
  pub says_right : (c : Call) → says (encode l s) (flat s.contents) (flat s.open_pages) c ≡ model.answer l s c
  unfolding says checks place answer_or
  says_right (by_system c) = says_system l s k can c
  says_right (by_cell c) = says_cell l s k can c
  says_right (garbled n) = refl

  pub leaves_right : (c : Call) → leaves (encode l s) (flat s.contents) (flat s.open_pages) c ≡ encode l (model.after l s c)
  unfolding leaves checks edits_or
  leaves_right (by_system c) = leaves_system l s k can c
  leaves_right (by_cell c) = leaves_cell l s k can c
  leaves_right (garbled n) = refl

  pub pages_right : (c : Call) →
      leaves_pages (encode l s) (flat s.contents) (flat s.open_pages) c ≡ flat (model.after l s c).contents
  unfolding leaves_pages checks edits_or
  pages_right (by_system c) = pages_system l s k can c
  pages_right (by_cell c) = pages_cell l s k can c
  pages_right (garbled n) = refl

over : {A : Type 0} (f : List ℕ → List ℕ → List ℕ → A) {m n cs ds os ps : List ℕ} → m ≡ n → cs ≡ ds → os ≡ ps → f m cs os ≡ f n ds ps
over f p q r = cc

-- A call that runs the program refines the definitions.
pub refined : (os : List ℕ) (c : Call) (before after : Slices) (r : Result Reply Unwritten) → Runs os c before after r →
    Refines os c before after r
refined os c before after r h l es w =
    let s : State = state l es in
    let k = known l es w.sized w.paged in
    subst (λ a. Called a (encode l (model.after l s c)) (flat (model.after l s c).contents) before after r)
    (over (λ m cs os. says m cs os c) w.memory w.closed w.opens ∙ says_right l s k w.can c)
    (subst (λ m. Called (says before.memory before.closed os c) m (flat (model.after l s c).contents) before after r)
    (over (λ m cs os. leaves m cs os c) w.memory w.closed w.opens ∙ leaves_right l s k w.can c)
    (subst (λ cs. Called (says before.memory before.closed os c) (leaves before.memory before.closed os c) cs before after r)
    (over (λ m cs os. leaves_pages m cs os c) w.memory w.closed w.opens ∙ pages_right l s k w.can c) h))
