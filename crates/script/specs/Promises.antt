-- What is promised of the text.
use Rattle.std.specs.Prelude.{◌≡◌, ℕ, ◌^◌, ◌<◌, List, Some, decimal}
use Rattle.model.specs.Calls.{Call}
use Rattle.calls.specs.Table.{Carried, read_call, write_call}
use Rattle.script.specs.Numerals.{number_of}
use Rattle.script.specs.Lines.{call, line_of}

pub record LinesStand : Type 0 where
  -- a number is read from what is printed of it, and from no other word
  pub numbers : (n : ℕ) → n < 2 ^ 64 → number_of (decimal n) ≡ Some n
  pub only : (w : List ℕ) (n : ℕ) → number_of w ≡ Some n → (w ≡ decimal n) × (n < 2 ^ 64)
  -- bytes can carry a call that a line is, so that it is read back from them
  pub carried : (text : List ℕ) (c : Call) → line_of text ≡ Some (call c) → Carried c
  pub back : (text : List ℕ) (c : Call) → line_of text ≡ Some (call c) → read_call (write_call c) ≡ c
