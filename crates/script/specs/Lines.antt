-- What a line is. One that no form fits, or that has words left over, cannot be read.
use Rattle.std.specs.Prelude.{ℕ, ◌^◌, Bool, true, cond, List, [], ◌∷◌, length, Some, None, Option, ◌==◌, nat_le, nat_lt, slice_index}
use Rattle.std.specs.Option.{option_map}
use Rattle.model.specs.Calls as model
use Rattle.fields.specs.Shapes.{Body, place_of}
use Rattle.fields.specs.Tables.{find, made}
use Rattle.calls.specs.Kinds.{kind_number}
use Rattle.calls.specs.Table.{table}
use Rattle.script.specs.Words.{words}
use Rattle.script.specs.Numerals.{number_of}
use Rattle.script.specs.Taking.{and_then}
use Rattle.script.specs.Pages.{is_open}
use Rattle.script.specs.Forms.{Form, forms}
use Rattle.script.specs.Fitting.{nothing_taken, fit}
use Rattle.script.specs.declared.forms.Kind.{Kind}
use Rattle.script.specs.declared.forms.Kind.TheVariants.{Call, HoldFrom, Interrupt, Limits, Write, Print}
use Rattle.script.specs.declared.fitting.Taken.{Taken}

pub data Line : Type 0 where
  skip : Line
  limits : ℕ → ℕ → Line  -- how many closed pages there are, and how many open ones
  call : model.Call → Line
  write : Bool → ℕ → List ℕ → Line  -- whether an open page, which, and the words at its front
  print : Bool → ℕ → Line  -- whether an open page, and which

-- a number in front of others, if there are any
abbrev pub before : Option ℕ → Option (List ℕ) → Option (List ℕ)
before None o = None
before (Some n) o = option_map (λ ns. n ∷ ns) o

-- what each word is, if each is something
abbrev pub each : (List ℕ → Option ℕ) → List (List ℕ) → Option (List ℕ)
each f [] = Some []
each f (w ∷ ws) = before (f w) (each f ws)

-- if there are at most so many
abbrev pub at_most : ℕ → Option (List ℕ) → Option (List ℕ)
at_most most None = None
at_most most (Some ns) = cond (nat_le (length ns) most) (Some ns) None

-- if it is below a limit
abbrev pub below : ℕ → Option ℕ → Option ℕ
below limit None = None
below limit (Some n) = cond (nat_lt n limit) (Some n) None

-- a word of a page
unfoldable pub word_of : List ℕ → Option ℕ
word_of w = below (2 ^ 32) (number_of w)

-- the registers of an interrupt
abbrev pub registers : List (List ℕ) → Option (List ℕ)
registers ws = at_most 255 (each number_of ws)

-- what is written to a page
abbrev pub page_words : List (List ℕ) → Option (List ℕ)
page_words ws = at_most 1024 (each word_of ws)

-- the fields of a call, but for its list
abbrev pub taken_body : Taken → List ℕ → Body
taken_body t l = record { numbers = t.numbers; place = place_of t.place; list = l }

-- the call of a number
unfoldable pub call_with : ℕ → Body → model.Call
call_with n f = made (model.garbled 0) (find n table) f

-- what is so if no words are left
abbrev pub alone : Line → List (List ℕ) → Option Line
alone l [] = Some l
alone l (w ∷ ws) = None

-- a number of a line, counted from 0
abbrev pub nth_number : Taken → ℕ → ℕ
nth_number t k = slice_index t.numbers k

-- what a form makes of what it took, and of the words behind it
abbrev pub meant : Kind → Taken → List (List ℕ) → Option Line
meant (Call k) t ws = alone (call (call_with (kind_number k) (taken_body t []))) ws
meant HoldFrom t ws = alone (call (call_with 4 (taken_body t (nth_number t 2 ∷ [])))) ws
meant Interrupt t ws = option_map (λ ns. call (model.by_cell (model.interrupt ns))) (registers ws)
meant Limits t ws = alone (limits (nth_number t 0) (nth_number t 1)) ws
meant (Write side) t ws = option_map (λ ns. write (is_open side) (nth_number t 0) ns) (page_words ws)
meant (Print side) t ws = alone (print (is_open side) (nth_number t 0)) ws

-- a line as one form has it
unfoldable pub as_form : Form → List (List ℕ) → Option Line
as_form f ws = and_then (fit (words f.text) ws nothing_taken) (λ t rest. meant f.kind t rest)

-- the first of two that is something
abbrev pub or_else : Option Line → Option Line → Option Line
or_else (Some l) o = Some l
or_else None o = o

-- the first form of which a line is
abbrev pub first_form : List Form → List (List ℕ) → Option Line
first_form [] ws = None
first_form (f ∷ fs) ws = or_else (as_form f ws) (first_form fs ws)

-- no words, or a first one that begins with `#`
abbrev pub skipped : List (List ℕ) → Bool
skipped [] = true
skipped (w ∷ ws) = slice_index w 0 == 35

-- what a line is, if it can be read
unfoldable pub line_of : List ℕ → Option Line
line_of text = cond (skipped (words text)) (Some skip) (first_form forms (words text))
