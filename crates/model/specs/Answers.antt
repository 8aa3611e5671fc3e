-- The answers: what the machine is told of a call, and what of this the system is told.
use Rattle.std.specs.Prelude.{ℕ, List, []}

-- Why a call is refused: its number in the list of refusals, and the place in the call's bytes, which is 0 but for bytes that are no call.
pub record Refusal : Type 0 where
  pub number : ℕ
  pub place : ℕ

pub data Answer : Type 0 where
  refused : Refusal → Answer
  done : Answer
  number : ℕ → Answer
  enters : ℕ → List ℕ → Answer  -- a cell is entered: its top table's page, and the registers
  told : ℕ → List ℕ → Answer  -- the cell goes on, told 0 or an error, and numbers
  left : ℕ → ℕ → Answer  -- back to the system: 0 the cell left, with a number; 1 it was interrupted; 2 a fault, of a kind

abbrev pub answer_number : Answer → ℕ
answer_number (refused r) = 0
answer_number done = 1
answer_number (number n) = 2
answer_number (enters t rs) = 3
answer_number (told e ns) = 4
answer_number (left j n) = 5

-- What the system is told: of a cell that is entered no registers, of one that goes on only that the call is done.
abbrev pub to_system : Answer → Answer
to_system (refused r) = refused r
to_system done = done
to_system (number n) = number n
to_system (enters t rs) = enters t []
to_system (told e ns) = done
to_system (left j n) = left j n
