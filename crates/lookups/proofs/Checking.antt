-- Checks that come to the same.
use Rattle.std.proofs.Common.{◌≡◌, ℕ, Bool, true, false, cond, Some, Option, refl}

-- one check that is the same, and then others, which may lean on it
pub check : (a b : Bool) (k : ℕ) (x y : Option ℕ) → a ≡ b → (b ≡ true → x ≡ y) → cond a x (Some k) ≡ cond b y (Some k)
check a true k x y e h = rw e (h refl)
check a false k x y e h = rw e refl
