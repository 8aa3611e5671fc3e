-- What is promised of the bytes of answers.
use Rattle.std.specs.Prelude.{◌≡◌, ℕ, ◌≤◌, true, List, length, Ok, Err}
use Rattle.fields.specs.Bytes.{Bytes}
use Rattle.fields.specs.Codec.{read_all, Ceases}
use Rattle.model.specs.Answers.{Answer, to_system}
use Rattle.answers.specs.Table.{answers, carried, Carried, write_answer}

pub record AnswersStand : Type 0 where
  -- what is written is read back
  pub back : (a : Answer) → Carried a → read_all answers (write_answer a) ≡ Ok a
  -- there is no second spelling
  pub only : (bs : List ℕ) (a : Answer) → Bytes bs → read_all answers bs ≡ Ok a → write_answer a ≡ bs
  -- where bytes cease to be an answer is the length of the longest beginning of them that some answer's bytes begin with
  pub place : (bs : List ℕ) (k : ℕ) → Bytes bs → read_all answers bs ≡ Err k → Ceases answers bs k
  -- what the system is told of any answer is carried, and seventeen bytes have room for it
  pub brief : (a : Answer) → (carried (to_system a) ≡ true) × (length (write_answer (to_system a)) ≤ 17)
