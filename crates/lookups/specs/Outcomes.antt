-- What checks come to, and what a call leaves.
use Rattle.std.specs.Prelude.{◌≡◌, List, Some, None, Ok, Err, Result}
use Rattle.answers.specs.Reasons.{number_of}
use Rattle.answers.specs.declared.reason.Reason.{Reason}
use Rattle.model.specs.Refusals.{Check, failing}

-- All checks hold, and this of what they hand on; or the first that fails is the refusal.
abbrev pub Checked : {A : Type 0} → List Check → (A → Type 0) → Result A Reason → Type 0
Checked cs p (Ok x) = (failing cs ≡ None) × p x
Checked cs p (Err r) = failing cs ≡ Some (number_of r)

-- A call that is taken leaves what it made; one that is refused leaves everything as it was.
abbrev pub Taken : {A B : Type 0} → List Check → A → A → A → Result B Reason → Type 0
Taken cs before made after (Ok x) = (failing cs ≡ None) × (after ≡ made)
Taken cs before made after (Err r) = (failing cs ≡ Some (number_of r)) × (after ≡ before)
