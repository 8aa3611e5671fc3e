-- A store by what is seen there: it may be, or it is a fault and nothing is changed.
use Rattle.std.proofs.Common.{◌≡◌, ℕ, true, false, List, refl}
use borrow.Author.Tests.{clash}
use Rattle.model.specs.Pages.{Slot, nothing, closed, opened, writable}
use Rattle.model.specs.Calls.{fault}
use Rattle.model.specs.Processor.{stores, asks}
use Rattle.machine.specs.Instructions.{stored}
use Rattle.machine.specs.Lent.{closed_put, open_put, seen_by}

pub saves : (rs cs os : List ℕ) (a k v : ℕ) (z : Slot) → writable z ≡ true → stored rs a v (seen_by cs os k z) ≡ stores rs a v
unfolding writable
saves rs cs os a k v nothing h = absurd (clash h)
saves rs cs os a k v (closed p w x) h = rw h refl
saves rs cs os a k v (opened o w) h = rw h refl

pub refuses : (rs cs os : List ℕ) (a k v : ℕ) (z : Slot) → writable z ≡ false →
    (stored rs a v (seen_by cs os k z) ≡ asks rs (fault 3)) × (closed_put cs k v z ≡ cs) × (open_put os k v z ≡ os)
unfolding writable
refuses rs cs os a k v nothing h = (refl, refl, refl)
refuses rs cs os a k v (closed p w x) h = (rw h refl, rw h refl, refl)
refuses rs cs os a k v (opened o w) h = (rw h refl, refl, rw h refl)
