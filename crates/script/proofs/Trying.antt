-- What a line is, by the forms that are tried.
use Rattle.std.proofs.Common.{◌≡◌, ℕ, ◌≤◌, true, false, List, ◌++◌, length, Some, None, Option, sym, refl, ap, ◌∙◌, subst, arith, length-append}
use Rattle.std.proofs.lemmas.List.{take-append-le}
use Rattle.std.specs.Option.{unwrap_or}
use Rattle.script.specs.Words.{words}
use Rattle.script.specs.Pages.{is_open}
use Rattle.script.specs.Forms.{forms}
use Rattle.script.specs.Lines.{first_form, skipped, line_of}
use Rattle.script.specs.Lines as line
use Rattle.script.specs.Said.{Said, Stands, Tried}
use Rattle.script.specs.declared.line.Line.{Line}
use Rattle.script.specs.declared.line.Line.TheVariants.{Skip, Limits, Call, Write, Print, Unreadable}
use Rattle.model.specs.Calls as model

-- a line that is not skipped is what its forms make of it
line_by_forms : (text : List ℕ) → skipped (words text) ≡ false → line_of text ≡ first_form forms (words text)
unfolding line_of
line_by_forms text e = rw e refl

pub line_skipped : (text : List ℕ) → skipped (words text) ≡ true → line_of text ≡ Some line.skip
unfolding line_of
line_skipped text e = rw e refl

-- what is said where no form may fit
tried_said : (o : Option line.Line) (r : Option Line) (bytes page : List ℕ) → Tried o r bytes page → Said o (unwrap_or r Unreadable) bytes page
tried_said o None bytes page h = h
tried_said o (Some l) bytes page h = h.0

line_tried : (text : List ℕ) (r : Option Line) (l : Line) (bytes page : List ℕ) → skipped (words text) ≡ false →
    l ≡ unwrap_or r Unreadable → Tried (first_form forms (words text)) r bytes page → Said (line_of text) l bytes page
line_tried text r l bytes page e is h =
    let P : Option line.Line → Type 0 = λ o. Said o l bytes page in
    let Q : Line → Type 0 = λ m. Said (first_form forms (words text)) m bytes page in
    subst P (sym (line_by_forms text e)) (subst Q (sym is) (tried_said (first_form forms (words text)) r bytes page h))

-- what stands at the front of bytes and of a page, with more behind them
stands_front : (c : model.Call) (n : ℕ) (bytes more : List ℕ) → Stands c n bytes → Stands c n (bytes ++ more)
stands_front c n bytes more s = record {
  within = simp length-append (omega (arith, s.within));
  front = take-append-le n bytes more s.within ∙ s.front;
}

said_front : (o : Option line.Line) (l : Line) (bytes page more others : List ℕ) → 1024 ≤ length page → Said o l bytes page →
    Said o l (bytes ++ more) (page ++ others)
said_front o Skip bytes page more others long s = s
said_front o (Limits c p) bytes page more others long s = s
said_front o (Call n) bytes page more others long s = (s.0, s.1, stands_front s.0 n bytes more s.2)
said_front o (Write p n) bytes page more others long s =
    let front = take-append-le n page others (omega (arith, s.1)) in
    (s.0 ∙ ap (λ ws. Some (line.write (is_open p.side) p.number ws)) (sym front), s.1)
said_front o (Print p) bytes page more others long s = s
said_front o Unreadable bytes page more others long s = s

pub line_said : (text : List ℕ) (r : Option Line) (l : Line) (bytes page more others : List ℕ) → skipped (words text) ≡ false →
    l ≡ unwrap_or r Unreadable → 1024 ≤ length page → Tried (first_form forms (words text)) r bytes page →
    Said (line_of text) l (bytes ++ more) (page ++ others)
line_said text r l bytes page more others e is long h =
    said_front (line_of text) l bytes page more others long (line_tried text r l bytes page e is h)
