-- The made_up processor is a good one.
use Rattle.std.proofs.Common.{◌≡◌, ℕ, zero, suc, ◌+◌, ◌/◌, ◌%◌, Bool, true, false, cond, eqb, ltb, List, [], ◌∷◌, length, get_or, take, set, refl, ap, ◌∙◌, arith, length-set, lt-ltb}
use Rattle.std.proofs.lemmas.Bool.{and_parts, and_from}
use Rattle.model.specs.Calls.{CellCall}
use Rattle.model.specs.State.{word, all_words, seventeen}
use Rattle.model.specs.Refusals.{cell_fits}
use Rattle.model.specs.Machine.{ended_by}
use Rattle.model.specs.Processor.{Seen, unseen, seen, seen_word, GoodStep, GoodProcessor}
use Rattle.machine.specs.Instructions.{decoded, register, with_register, low, order, holds, asked, address, loaded}
use Rattle.machine.specs.Instructions.{stored, jumped, executed, fetched, made_up}
use Rattle.model.proofs.GoodProcessor.{processors_are_machines}
use Rattle.machine.specs.Came.{told_on, goes_on}
use Rattle.machine.specs.Promises.{GoodEverywhere}
use Rattle.machine.specs.declared.values.Instruction.{Instruction}
use Rattle.machine.specs.declared.values.Instruction.TheVariants.{Unknown, Jump}
use Rattle.machine.specs.declared.values.When.{When}
use Rattle.machine.specs.declared.values.When.TheVariants.{Always, Less, Equal, Greater, Unequal}

-- Words among seventeen.
all_set : (xs : List ℕ) (i v : ℕ) → all_words xs ≡ true → word v ≡ true → all_words (set xs i v) ≡ true
unfolding all_words
all_set [] i v h g = refl
all_set (x ∷ xs) zero v h g = and_from (word v) (all_words xs) g (and_parts (word x) (all_words xs) h).1
all_set (x ∷ xs) (suc i) v h g =
    let a = and_parts (word x) (all_words xs) h in and_from (word x) (all_words (set xs i v)) a.0 (all_set xs i v a.1 g)

all_nth : (xs : List ℕ) (i : ℕ) → all_words xs ≡ true → word (get_or xs i 0) ≡ true
unfolding all_words
all_nth [] i h = refl
all_nth (x ∷ xs) zero h = (and_parts (word x) (all_words xs) h).0
all_nth (x ∷ xs) (suc i) h = all_nth xs i (and_parts (word x) (all_words xs) h).1

pub set_good : (rs : List ℕ) (i v : ℕ) → seventeen rs ≡ true → word v ≡ true → seventeen (set rs i v) ≡ true
set_good rs i v h g =
    let a = and_parts (eqb (length rs) 17) (all_words rs) h in
    and_from (eqb (length (set rs i v)) 17) (all_words (set rs i v)) (ap (λ n. eqb n 17) (length-set rs i v) ∙ a.0) (all_set rs i v a.1 g)

pub nth_word : (rs : List ℕ) (i : ℕ) → seventeen rs ≡ true → word (get_or rs i 0) ≡ true
nth_word rs i h = all_nth rs i (and_parts (eqb (length rs) 17) (all_words rs) h).1

pub low_word : (n : ℕ) → word (low n) ≡ true
low_word n = lt-ltb (low n) 4294967296 (omega arith)

order_word : (a b : ℕ) → word (order a b) ≡ true
order_word a b = by (ltb a b) (eqb a b)
  where
    by : (x y : Bool) → word (cond x 0 (cond y 1 2)) ≡ true
    by true y = refl
    by false true = refl
    by false false = refl

-- What holds of both holds of either.
pub either : {A : Type 0} (P : A → Type 0) (b : Bool) (x y : A) → P x → P y → P (cond b x y)
either P true x y p q = p
either P false x y p q = q

module _ (rs : List ℕ) (h : seventeen rs ≡ true) (chance : ℕ) (drawn : word chance ≡ true) where
  abbrev Fine : CellCall → Type 0
  Fine c = cell_fits (ended_by rs c) ≡ true

  asked_good : (k : ℕ) → Fine (asked k rs chance)
  unfolding cell_fits ended_by
  asked_good k =
      either Fine (eqb k 20) _ _ (nth_word rs 0 h) (either Fine (eqb k 22) _ _ (nth_word rs 0 h) (either Fine (eqb k 23) _ _ refl
      (either Fine (eqb k 24) _ _ refl (either Fine (eqb k 25) _ _ refl (either Fine (eqb k 26) _ _ refl
      (either Fine (eqb k 27) _ _ drawn refl))))))

  module _ (look : ℕ → Seen) (words : (a : ℕ) → seen_word (look a) ≡ true) where
    abbrev Good : Instruction → Type 0
    Good i = GoodStep (executed i rs look chance)

    loaded_good : (a : ℕ) (s : Seen) → seen_word s ≡ true → GoodStep (loaded rs a s)
    unfolding GoodStep seen_word cell_fits ended_by
    loaded_good a unseen g = (h, refl)
    loaded_good a (seen w x v) g = set_good rs (a % 16) v h g

    stored_good : (x v : ℕ) → word v ≡ true → (s : Seen) → GoodStep (stored rs x v s)
    unfolding GoodStep cell_fits ended_by
    stored_good x v g unseen = (h, refl)
    stored_good x v g (seen true y u) = (h, g)
    stored_good x v g (seen false y u) = (h, refl)

    small : (n : ℕ) → word (n % 65536) ≡ true
    small n = lt-ltb (n % 65536) 4294967296 (omega arith)

    jump_good : (w : When) (n : ℕ) → Good (Jump w n)
    unfolding GoodStep
    jump_good w n = either (λ qs. seventeen qs ≡ true) (holds w (get_or rs 16 0)) (jumped rs n) rs (set_good rs 15 _ h (low_word _)) h

    unknown_good : Good Unknown
    unfolding GoodStep cell_fits ended_by
    unknown_good = (h, refl)

    decoded_good : (v : ℕ) → Good (decoded v)
    unfolding GoodStep
    decoded_good v =
        let k : ℕ = v / 16777216 in
        let a : ℕ = v / 65536 % 256 in
        let b : ℕ = v / 256 % 256 in
        let c : ℕ = v % 256 in
        let n : ℕ = v % 65536 in
        either Good (eqb k 1) _ _ (set_good rs _ _ h (small v))
        (either Good (eqb k 2) _ _ (set_good rs _ _ h (low_word _))
        (either Good (eqb k 3) _ _ (set_good rs _ _ h (nth_word rs _ h))
        (either Good (eqb k 4) _ _ (set_good rs _ _ h (low_word _))
        (either Good (eqb k 5) _ _ (set_good rs _ _ h (low_word _))
        (either Good (eqb k 6) _ _ (loaded_good a _ (words _))
        (either Good (eqb k 7) _ _ (stored_good (address rs b c) (register rs a) (nth_word rs _ h) (look (address rs b c)))
        (either Good (eqb k 8) _ _ (set_good rs 16 _ h (order_word (register rs a) (register rs b)))
        (either Good (eqb k 9) _ _
        (either Good (eqb a 0) _ _ (jump_good Always n)
        (either Good (eqb a 1) _ _ (jump_good Less n) (either Good (eqb a 2) _ _ (jump_good Equal n)
        (either Good (eqb a 3) _ _ (jump_good Greater n) (either Good (eqb a 4) _ _ (jump_good Unequal n) unknown_good)))))
        (either Good (eqb k 10) _ _ (set_good rs 15 _ h (nth_word rs _ h))
        (either Good (eqb k 11) _ _ (h, asked_good a) unknown_good))))))))))

pub made_up_good : GoodProcessor made_up
unfolding made_up GoodStep cell_fits ended_by
made_up_good rs look chance h words drawn = by (look (get_or rs 15 0))
  where
    by : (s : Seen) → GoodStep (fetched s rs look chance)
    by unseen = (h, refl)
    by (seen w true v) = decoded_good (set rs 15 (low (get_or rs 15 0 + 4))) (set_good rs 15 _ h (low_word _)) chance drawn look words v
    by (seen w false v) = (h, refl)

-- It goes on with seventeen words.
told_good : (i : ℕ) (ns rs : List ℕ) → seventeen rs ≡ true → seventeen (told_on i ns rs) ≡ true
unfolding told_on
told_good i [] rs h = h
told_good i (n ∷ ns) rs h = told_good (suc i) ns (with_register rs i (low n)) (set_good rs (i % 16) (low n) h (low_word n))

pub good_everywhere : GoodEverywhere
good_everywhere l = processors_are_machines l made_up goes_on made_up_good (λ rs e ns h. told_good 0 (e ∷ take 8 ns) rs h)
