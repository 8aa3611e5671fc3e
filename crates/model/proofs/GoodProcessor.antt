-- A good processor is a good machine.
use Rattle.std.proofs.Common.{◌≡◌, ℕ, zero, suc, Bool, true, false, cond, List, [], ◌∷◌, get_or, set, refl, ◌∙◌, arith, length-set}
use Rattle.std.proofs.lemmas.Bool.{and_parts, and_from, lt-ltb}
use Rattle.model.specs.Pages.{Slot, nothing, closed, opened, writable}
use Rattle.model.specs.State.{Limits, Page, word, all_words, seventeen}
use Rattle.model.specs.Refusals.{cell_fits}
use Rattle.model.specs.Machine.{Sight, ended_by, ViewWell}
use Rattle.model.specs.Processor.{seen_in, Step, moves, stores, asks, Processor, Came, then, steps, by_sight, table_number, slot_number}
use Rattle.model.specs.Processor.{word_number, patience, drawn, seen_word, GoodStep, GoodProcessor}
use Rattle.model.specs.Promises.{ProcessorsAreMachines}

set_words : (ws : List ℕ) (k v : ℕ) → all_words ws ≡ true → word v ≡ true → all_words (set ws k v) ≡ true
unfolding all_words
set_words [] k v h e = refl
set_words (x ∷ ws) zero v h e = and_from (word v) (all_words ws) e (and_parts (word x) (all_words ws) h).1
set_words (x ∷ ws) (suc k) v h e =
    let a = and_parts (word x) (all_words ws) h in and_from (word x) (all_words (set ws k v)) a.0 (set_words ws k v a.1 e)

get_word : (ws : List ℕ) (k : ℕ) → all_words ws ≡ true → word (get_or ws k 0) ≡ true
unfolding all_words
get_word [] k h = refl
get_word (x ∷ ws) zero h = (and_parts (word x) (all_words ws) h).0
get_word (x ∷ ws) (suc k) h = get_word ws k (and_parts (word x) (all_words ws) h).1

module _ (l : Limits) where
  set_page : (ws : List ℕ) (k v : ℕ) → word v ≡ true → Page l ws → Page l (set ws k v)
  set_page ws k v e h = (length-set ws k v ∙ h.0, set_words ws k v h.1 e)

  seen_good : (z : Slot) (ws : List ℕ) (k : ℕ) → ViewWell l z ws → seen_word (seen_in z ws k) ≡ true
  unfolding ViewWell seen_word seen_in
  seen_good nothing ws k h = refl
  seen_good (closed p w x) ws k h = get_word ws k h.1
  seen_good (opened o w) ws k h = get_word ws k h.1

  store_good : (t : Bool) (z : Slot) (ws : List ℕ) (k v : ℕ) → word v ≡ true → ViewWell l z ws → ViewWell l z (cond t (set ws k v) ws)
  unfolding ViewWell
  store_good t nothing ws k v e h = tt
  store_good true (closed p w x) ws k v e h = set_page ws k v e h
  store_good true (opened o w) ws k v e h = set_page ws k v e h
  store_good false (closed p w x) ws k v e h = h
  store_good false (opened o w) ws k v e h = h

  pub well_page : (z : Slot) (ws : List ℕ) → ViewWell l z ws → writable z ≡ true → Page l ws
  unfolding ViewWell writable
  well_page nothing ws h k = absurd (grind (arith, k))
  well_page (closed p w x) ws h k = h
  well_page (opened o w) ws h k = h

  -- From the sight v on: the same slots are seen, and what is seen are pages.
  abbrev WellFrom : Sight → Sight → Type 0
  WellFrom v u = (i j : ℕ) → ((u i j).slot ≡ (v i j).slot) × ViewWell l (u i j).slot (u i j).words

  record CameWell (v : Sight) (e : Came Sight) : Type 0 where
    memory : WellFrom v e.memory
    registers : seventeen e.registers ≡ true
    ends : cell_fits (ended_by e.registers e.ends) ≡ true

  module _ (f : Processor) (good : GoodProcessor f) (v : Sight) (chance : ℕ) (c : word chance ≡ true) where
    then_well : (go : List ℕ → Sight → Came Sight) (u : Sight) → WellFrom v u →
        ((rs : List ℕ) (t : Sight) → seventeen rs ≡ true → WellFrom v t → CameWell v (go rs t)) →
        (s : Step) → GoodStep s → CameWell v (then by_sight go u s)
    unfolding then GoodStep
    then_well go u h k (moves rs) g = k rs u g h
    then_well go u h k (stores rs x w) g =
        k rs (by_sight.store u x w) g.0
        (λ i j. ((h i j).0, store_good _ (u i j).slot (u i j).words (word_number x) w g.1 (h i j).1))
    then_well go u h k (asks rs d) g = record { memory = h; registers = g.0; ends = g.1 }

    steps_well : (n : ℕ) (rs : List ℕ) (u : Sight) → seventeen rs ≡ true → WellFrom v u → CameWell v (steps by_sight f n chance rs u)
    unfolding steps ended_by cell_fits
    steps_well zero rs u g h = record { memory = h; registers = g; ends = g }
    steps_well (suc n) rs u g h =
        then_well (steps by_sight f n chance) u h (λ qs t. steps_well n qs t) (f rs (by_sight.look u) chance)
        (good rs (by_sight.look u) chance g (λ a. seen_good _ _ (word_number a) (h (table_number a) (slot_number a)).1) c)

-- 10.
pub processors_are_machines : ProcessorsAreMachines
processors_are_machines l f g good on = record {
  good = seventeen;
  seventeen_are = λ rs h. h;
  goes_on_well = on;
  runs_well = λ rs v chance h k.
      let d : word (drawn chance) ≡ true = lt-ltb (drawn chance) 4294967296 (omega arith) in
      let e = steps_well l f good v (drawn chance) d (patience chance) rs v h (λ i j. (refl, k i j)) in
      record {
        pages_stay = λ i j w. well_page l (v i j).slot _ (rw (e.memory i j).0 at (e.memory i j).1) w;
        registers_stay = e.registers;
        ends_well = e.ends;
      };
}
