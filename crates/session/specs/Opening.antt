-- Why a session does not open.
use Rattle.std.specs.Prelude.{◌≡◌, ℕ, true, false}
use Rattle.answers.specs.Meaning.{refusal_of}
use Rattle.monitor.specs.Stage.{good_limits}
use Rattle.session.specs.declared.errors.Unopened.{Unopened}
use Rattle.session.specs.declared.errors.Unopened.TheVariants.{Refused, NoMemory}

-- Limits out of range are refused by 2; for those in range there may be no memory.
abbrev pub Unopens : ℕ → ℕ → Unopened → Type 0
Unopens pages opens (Refused r) = (good_limits pages opens ≡ false) × (refusal_of r ≡ record { number = 2; place = 0 })
Unopens pages opens NoMemory = good_limits pages opens ≡ true
