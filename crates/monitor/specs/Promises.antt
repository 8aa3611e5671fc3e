-- What is promised of this stage: it is the one of the definitions that has call 0 and no other.
use Rattle.std.specs.Prelude.{◌≡◌, ℕ, ◌==◌}
use Rattle.model.specs.Calls.{Call}
use Rattle.model.specs.State.{Limits, new_state}
use Rattle.model.specs.Monitor as model
use Rattle.monitor.specs.Stage.{answer}

-- With these limits every call is answered so, and leaves the state as it was at the start.
pub record StageStands : Type 0 where
  pub answers : (l : Limits) → ((k : ℕ) → l.can k ≡ (k == 0)) → (c : Call) → model.answer l (new_state l) c ≡ answer l.pages c
  pub keeps : (l : Limits) → ((k : ℕ) → l.can k ≡ (k == 0)) → (c : Call) → model.after l (new_state l) c ≡ new_state l
