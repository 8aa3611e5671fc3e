-- What a call of the monitor has done.
use Rattle.std.specs.Prelude.{◌≡◌, ℕ, ◌<◌, true, false, List, ◌++◌, length, drop, Ok, Err, Result, slice_index}
use Rattle.fields.specs.declared.values.Unwritten.{Unwritten}
use Rattle.fields.specs.declared.values.Unwritten.TheVariants.{TooMany, TooShort}
use Rattle.model.specs.Calls.{Call}
use Rattle.model.specs.Answers.{Answer, to_system}
use Rattle.answers.specs.Table.{write_answer}
use Rattle.answers.specs.Meaning.{answer_of, refusal_of}
use Rattle.answers.specs.declared.answer.Refusal.{Refusal}
use Rattle.pages.specs.Rows.{new_memory}
use Rattle.monitor.specs.Stage.{fitting, answer as stage_answer}
use Rattle.monitor.specs.declared.values.Reply.{Reply}

-- What is lent to the monitor and that it may write: its memory, the words of closed pages, and the slice for the system's bytes.
pub record Slices : Type 0 where
  pub memory : List ℕ
  pub closed : List ℕ
  pub told : List ℕ

-- The machine is answered a, and the memory and closed pages are m and cs; the bytes of what the system is told of a stand at the front of
-- the slice for them. A slice that is too short for any answer is refused, and nothing is changed.
abbrev pub Called : Answer → List ℕ → List ℕ → Slices → Slices → Result Reply Unwritten → Type 0
Called a m cs before after (Ok r) =
    (answer_of r.answer ≡ a) × (after.memory ≡ m) × (after.closed ≡ cs) × (r.told ≡ length (write_answer (to_system a)))
    × (after.told ≡ write_answer (to_system a) ++ drop r.told before.told)
Called a m cs before after (Err TooMany) = ⊥
Called a m cs before after (Err (TooShort needed)) = (needed ≡ 17) × (length before.told < 17) × (after ≡ before)

-- Limits and lengths that fit one another: the memory is that of an opened monitor. Any others are refused by 2, and nothing is changed.
abbrev pub Opened : ℕ → ℕ → ℕ → ℕ → List ℕ → List ℕ → Result (Unit {0}) Refusal → Type 0
Opened pages opens inside outside before after (Ok _) =
    (fitting pages opens (length before) inside outside ≡ true) × (after ≡ new_memory pages opens)
Opened pages opens inside outside before after (Err r) =
    (fitting pages opens (length before) inside outside ≡ false) × (refusal_of r ≡ record { number = 2; place = 0 }) × (after ≡ before)

-- The stage answers a call by the memory's number of pages, and leaves the memory and the closed pages as they were.
abbrev pub Staged : List ℕ → Call → Slices → Slices → Result Reply Unwritten → Type 0
Staged os c before after r = Called (stage_answer (slice_index before.memory 0) c) before.memory before.closed before after r
