-- The call that ends a run is no interrupt but the one that steps used up make, with the registers that there are.
use Rattle.std.proofs.Common.{◌≡◌, ℕ, zero, suc, ◌+◌, true, false, eqb, List, get_or, set, refl}
use Rattle.model.specs.Calls.{CellCall}
use Rattle.model.specs.Machine.{ended_by}
use Rattle.model.specs.Processor.{Seen, unseen, seen, Step, moves, stores, asks, Memory, Came, then, steps}
use Rattle.machine.specs.Instructions.{decoded, register, low, address, asked, loaded, stored, executed, fetched, made_up}
use Rattle.machine.specs.declared.values.Instruction.{Instruction}
use Rattle.machine.specs.declared.values.Instruction.TheVariants.{Unknown, Set, High, Move, Add, Subtract, Load, Store, Compare, Jump, Go, Ask}
use Rattle.machine.proofs.GoodMade.{either}

abbrev Settled : Step → Type 0
Settled (moves rs) = Unit {0}
Settled (stores rs x v) = Unit {0}
Settled (asks rs c) = ended_by rs c ≡ c

asked_settled : (rs : List ℕ) (k chance : ℕ) → ended_by rs (asked k rs chance) ≡ asked k rs chance
unfolding ended_by
asked_settled rs k chance =
    let P : CellCall → Type 0 = λ c. ended_by rs c ≡ c in
    either P (eqb k 20) _ _ refl (either P (eqb k 22) _ _ refl (either P (eqb k 23) _ _ refl (either P (eqb k 24) _ _ refl
    (either P (eqb k 25) _ _ refl (either P (eqb k 26) _ _ refl (either P (eqb k 27) _ _ refl refl))))))

loaded_settled : (rs : List ℕ) (a : ℕ) (s : Seen) → Settled (loaded rs a s)
unfolding ended_by
loaded_settled rs a unseen = refl
loaded_settled rs a (seen w x v) = tt

stored_settled : (rs : List ℕ) (x v : ℕ) (s : Seen) → Settled (stored rs x v s)
unfolding ended_by
stored_settled rs x v unseen = refl
stored_settled rs x v (seen true y u) = tt
stored_settled rs x v (seen false y u) = refl

executed_settled : (i : Instruction) (rs : List ℕ) (look : ℕ → Seen) (chance : ℕ) → Settled (executed i rs look chance)
unfolding ended_by
executed_settled Unknown rs look chance = refl
executed_settled (Set a n) rs look chance = tt
executed_settled (High a n) rs look chance = tt
executed_settled (Move a b) rs look chance = tt
executed_settled (Add a b c) rs look chance = tt
executed_settled (Subtract a b c) rs look chance = tt
executed_settled (Load a b c) rs look chance = loaded_settled rs a _
executed_settled (Store a b c) rs look chance = stored_settled rs (address rs b c) (register rs a) (look (address rs b c))
executed_settled (Compare a b) rs look chance = tt
executed_settled (Jump w n) rs look chance = tt
executed_settled (Go a) rs look chance = tt
executed_settled (Ask k) rs look chance = asked_settled rs k chance

fetched_settled : (s : Seen) (rs : List ℕ) (look : ℕ → Seen) (chance : ℕ) → Settled (fetched s rs look chance)
unfolding ended_by
fetched_settled unseen rs look chance = refl
fetched_settled (seen w true v) rs look chance = executed_settled (decoded v) (set rs 15 (low (get_or rs 15 0 + 4))) look chance
fetched_settled (seen w false v) rs look chance = refl

by : {A : Type 0} (m : Memory A) (go : List ℕ → A → Came A)
    → ((qs : List ℕ) (b : A) → ended_by (go qs b).registers (go qs b).ends ≡ (go qs b).ends) →
    (a : A) (s : Step) → Settled s → ended_by (then m go a s).registers (then m go a s).ends ≡ (then m go a s).ends
unfolding then
by m go h a (moves qs) k = h qs a
by m go h a (stores qs x v) k = h qs (m.store a x v)
by m go h a (asks qs c) k = k

pub settled : {A : Type 0} (m : Memory A) (n chance : ℕ) (rs : List ℕ) (a : A) →
    ended_by (steps m made_up n chance rs a).registers (steps m made_up n chance rs a).ends ≡ (steps m made_up n chance rs a).ends
unfolding steps ended_by made_up
settled m zero chance rs a = refl
settled m (suc n) chance rs a =
    by m (steps m made_up n chance) (λ qs b. settled m n chance qs b) a _ (fetched_settled (m.look a (get_or rs 15 0)) rs (m.look a) chance)
