-- What is entered, and what the ends of runs make of the memory.
use Rattle.std.specs.Prelude.{◌≡◌, ℕ, ◌%◌, Bool, List, [], ◌∷◌, ◌++◌, replicate, Some, None, Ok, Err, Option, Result}
use Rattle.answers.specs.Reasons.{number_of}
use Rattle.answers.specs.declared.reason.Reason.{Reason}
use Rattle.pages.specs.Rows.{thread_put, running_put, numbers_at, low_words}
use Rattle.model.specs.Refusals.{Check, failing}
use Rattle.lookups.specs.Lookups.{cell_of, thread_of, top_of}
use Rattle.lookups.specs.declared.Thread.{Thread}
use Rattle.running.specs.declared.Entry.{Entry}

-- the top table of a thread's cell, and where the thread starts
abbrev pub top_for : List ℕ → Option Thread → ℕ
top_for m None = 0
top_for m (Some x) = top_of (cell_of m x.cell)

abbrev pub start_of : Option Thread → ℕ
start_of None = 0
start_of (Some x) = x.start

-- the registers of a thread that starts with three numbers, and those that were kept
abbrev pub first_registers : List ℕ → ℕ → ℕ → ℕ → ℕ → List ℕ
first_registers m t x y z = x ∷ (y ∷ (z ∷ (replicate 12 0 ++ (start_of (thread_of m t) % 4294967296 ∷ (0 ∷ [])))))

abbrev pub kept_registers : List ℕ → ℕ → List ℕ
kept_registers m t = low_words (numbers_at m t 4 17)

-- a thread that is entered runs; its cell's top table and its registers are handed on
abbrev pub Entered : List Check → List ℕ → ℕ → List ℕ → List ℕ → Result Entry Reason → Type 0
Entered cs m t rs after (Ok e) =
    (failing cs ≡ None) × (after ≡ running_put m (Some t)) × (e.top ≡ top_for m (thread_of m t)) × (e.registers.words ≡ rs)
Entered cs m t rs after (Err r) = (failing cs ≡ Some (number_of r)) × (after ≡ m)

-- a thread's run ends: it is under way or not, with registers, and none runs
abbrev pub run_ended : List ℕ → ℕ → Bool → List ℕ → List ℕ
run_ended m t u rs = running_put (thread_put m t u rs) None
