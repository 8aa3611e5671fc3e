-- Induction over what a cell writes in a run: in one state, and in two at once.
use Rattle.std.proofs.Common.{◌≡◌, ℕ, suc, ◌+◌, List, [], ◌∷◌, get_or, Some, None, Option, refl, arith}
use Rattle.model.specs.Pages.{Slot, nothing, slots_in, slot_in, cell_in, tables_by, table_at, Entries, at}
use Rattle.model.specs.State.{State, entry}
use Rattle.model.specs.Machine.{write_behind, write_slots, write_table, write_tables, written}

-- A relation of two states that is kept where the same words are written behind the same slot.
module _ (P : State → State → Type 0) (d e : Entries) (same : (q : ℕ) → slots_in (at d q) ≡ slots_in (at e q)) where
  abbrev Keeps : Slot → List ℕ → Type 0
  Keeps z ws = (s t : State) → P s t → P (write_behind z ws s) (write_behind z ws t)

  slots_both : (f : ℕ → List ℕ) (j : ℕ) (zs : List Slot) → ((n k : ℕ) → k ≡ n + j → Keeps (get_or zs n nothing) (f k)) → (s t : State) →
      P s t → P (write_slots f j zs s) (write_slots f j zs t)
  unfolding write_slots
  slots_both f j [] k s t h = h
  slots_both f j (z ∷ zs) k s t h =
      slots_both f (suc j) zs (λ n i g. k (suc n) i (omega arith)) (write_behind z (f j) s) (write_behind z (f j) t)
      (k 0 j (omega arith) s t h)

  table_both : (f : ℕ → List ℕ) (q : Option ℕ) → ((j : ℕ) → Keeps (slot_in d q j) (f j)) → (s t : State) →
      P s t → P (write_table d f q s) (write_table e f q t)
  unfolding write_table slot_in
  table_both f None k s t h = h
  table_both f (Some q) k s t h =
      rw (← same q) (slots_both f 0 (slots_in (at d q)) (λ n i g. let g' : i ≡ n = omega arith in rw g' (k n)) s t h)

  tables_both : (f : ℕ → ℕ → List ℕ) (i : ℕ) (ts : List (Option ℕ)) →
      ((n k : ℕ) → k ≡ n + i → (j : ℕ) → Keeps (slot_in d (get_or ts n None) j) (f k j)) → (s t : State) →
      P s t → P (write_tables d f i ts s) (write_tables e f i ts t)
  unfolding write_tables
  tables_both f i [] k s t h = h
  tables_both f i (q ∷ ts) k s t h =
      tables_both f (suc i) ts (λ n j g. k (suc n) j (omega arith)) (write_table d (f i) q s) (write_table e (f i) q t)
      (table_both (f i) q (k 0 i (omega arith)) s t h)

-- What is kept by each page that is written behind a slot of a table holds when all of them are written.
pub table_keeps : (P : State → Type 0) (d : Entries) (f : ℕ → List ℕ) (q : Option ℕ) (s : State) →
    ((j : ℕ) (t : State) → P t → P (write_behind (slot_in d q j) (f j) t)) → P s → P (write_table d f q s)
table_keeps P d f q s k h = table_both (λ t u. P t) d d (λ p. refl) f q (λ j t u. k j t) s s h

-- What holds of a state, and is kept by each word that the cell c writes at its places, holds when it has written.
pub written_keeps : (P : State → Type 0) (c : ℕ) (f : ℕ → ℕ → List ℕ) (s : State) →
    ((i j : ℕ) (t : State) → P t → P (write_behind (slot_in s.entries (table_at s.entries c i) j) (f i j) t)) →
    P s → P (written c f s)
written_keeps P c f s k h =
    tables_both (λ t u. P t) s.entries s.entries (λ q. refl) f 0 (tables_by s.entries (cell_in (entry s c)))
    (λ n i g j. let g' : i ≡ n = omega arith in rw g' (λ t u. k n j t)) s s h

-- The same of two states, in which it sees the same slots.
pub written_both : (P : State → State → Type 0) (c : ℕ) (f : ℕ → ℕ → List ℕ) (s t : State) →
    ((q : ℕ) → slots_in (entry s q) ≡ slots_in (entry t q)) →
    tables_by s.entries (cell_in (entry s c)) ≡ tables_by t.entries (cell_in (entry t c)) →
    ((z : Slot) (ws : List ℕ) (u v : State) → P u v → P (write_behind z ws u) (write_behind z ws v)) →
    P s t → P (written c f s) (written c f t)
written_both P c f s t e g k h =
    rw (← g) (tables_both P s.entries t.entries e f 0 (tables_by s.entries (cell_in (entry s c))) (λ n i a j. k _ _) s t h)
