-- What runs is a thread of a sealed cell: every call keeps this.
use Rattle.std.proofs.Common.{◌≡◌, ℕ, true, false, ◌≢◌, ◌⊎◌, set, is_some, Some, None, Option, refl, ◌∙◌, inl, inr, arith}
use Rattle.model.specs.Calls.{SystemCall, CellCall, how_many, new_cell, new_thread, new_table, hold, give, show, remove, seal, stop, enter}
use Rattle.model.specs.Calls.{resume, leave, interrupt, fault, grow, shrink, extend, who, draw}
use Rattle.model.specs.Pages.{Slot, sealed, Cell, Top, Table, Entry, free, thread_of, kind, kind_number, part_of, is_in, cell_in, cell_is}
use Rattle.model.specs.Pages.{in_top, in_table, Entries, at, changed_at, slot_put_in, table_put_by, is_spare, is_held}
use Rattle.model.specs.State.{Limits, State, entry, Caller, is_owner_in, run, apply, apply_all}
use Rattle.model.specs.Refusals.{thread_there, may_run, system_checks, cell_checks}
use Rattle.model.specs.Monitor.{system_edits, cell_edits}
use Rattle.model.proofs.Lists.{get_d_set}
use Rattle.model.proofs.Effects.{Pass}
use Rattle.model.proofs.InvSound.{kind_at}
use Rattle.model.proofs.InvCalls.{Runs, CallsNow}

-- The page q stays what it is, and if it is a sealed cell's first it stays that.
pub record Alike (q : ℕ) (d e : Entries) : Type 0 where
  pub kinds : kind_at e q ≡ kind_at d q
  pub seals : is_in sealed (at e q) ≡ is_in sealed (at d q)

then_alike : {q : ℕ} {d e f : Entries} → Alike q d e → Alike q e f → Alike q d f
then_alike a b = record { kinds = b.kinds ∙ a.kinds; seals = b.seals ∙ a.seals }

put_alike : (d : Entries) (p q : ℕ) (x : Entry) → p ≢ q → Alike q d (set d p x)
put_alike d p q x n =
    let e = get_d_set d p q x free in record { kinds = grind (arith, e); seals = grind (arith, e) }

table_alike : (d : Entries) (p q : ℕ) (f : Table → Table) → ((y : Table) → (f y).cell ≡ y.cell) →
    Alike q d (changed_at d p (in_table f))
unfolding in_table kind cell_in cell_is
table_alike d p q f h =
    let e = get_d_set d p q (in_table f (at d p)) free in record { kinds = grind (arith, e); seals = grind (arith, e) }

top_alike : (d : Entries) (p q : ℕ) (f : Top → Top) → ((y : Top) → (f y).cell ≡ y.cell) → Alike q d (changed_at d p (in_top f))
unfolding in_top kind cell_in cell_is
top_alike d p q f h =
    let e = get_d_set d p q (in_top f (at d p)) free in record { kinds = grind (arith, e); seals = grind (arith, e) }

pub slot_alike : (d : Entries) (o : Option ℕ) (j : ℕ) (z : Slot) (q : ℕ) → Alike q d (slot_put_in d o j z)
unfolding slot_put_in
slot_alike d None j z q = record { kinds = refl; seals = refl }
slot_alike d (Some p) j z q = table_alike d p q _ (λ y. refl)

place_alike : (d : Entries) (y : Option Cell) (i p q : ℕ) → Alike q d (table_put_by d y i p)
unfolding table_put_by
place_alike d None i p q = record { kinds = refl; seals = refl }
place_alike d (Some y) i p q = top_alike d y.top q _ (λ y. refl)

module _ (l : Limits) (s : State) where
  idle : (q : ℕ) → is_some s.running ≡ false → s.running ≢ Some q
  idle q h e = grind arith

  pub may_enter : (t : ℕ) → thread_there l s t ≡ true → may_run s t ≡ true →
      (c : ℕ) × (kind (entry s t) ≡ thread_of c) × (is_in sealed (entry s c) ≡ true)
  unfolding is_owner_in kind_number part_of
  may_enter t h k = go (part_of (kind (entry s t))) refl k
    where
      go : (o : Option ℕ) → part_of (kind (entry s t)) ≡ o → is_owner_in sealed s.entries o ≡ true →
          (c : ℕ) × (kind (entry s t) ≡ thread_of c) × (is_in sealed (entry s c) ≡ true)
      go None e z = absurd (grind (arith, z))
      go (Some c) e z = (c, grind arith, z)

  entered_runs : (t : ℕ) → thread_there l s t ≡ true → may_run s t ≡ true → Runs (apply s (run (Some t)))
  entered_runs t h k q e = let z : t ≡ q = cc in rw z at (may_enter t h k)

  pub system_runs : (c : SystemCall) → Pass (system_checks l s c) → is_some s.running ≡ false → Runs (apply_all s (system_edits l s c))
  unfolding system_edits system_checks
  system_runs how_many h i q e = absurd (idle q i e)
  system_runs (new_cell p t) h i q e = absurd (idle q i e)
  system_runs (new_thread p c a) h i q e = absurd (idle q i e)
  system_runs (new_table p c j) h i q e = absurd (idle q i e)
  system_runs (hold p c w o) h i q e = absurd (idle q i e)
  system_runs (give p c) h i q e = absurd (idle q i e)
  system_runs (show o c w) h i q e = absurd (idle q i e)
  system_runs (remove p) h i q e = absurd (idle q i e)
  system_runs (seal c) h i q e = absurd (idle q i e)
  system_runs (stop c) h i q e = absurd (idle q i e)
  system_runs (enter t x y z) h i q e = entered_runs t h.0 h.1.0 q e
  system_runs (resume t) h i q e = entered_runs t h.0 h.1.0 q e

  -- The cell that calls stays sealed, and its thread a thread, where only a page p is put that is neither.
  module _ (k : Caller) (R : CallsNow s k) where
    still : (p : ℕ) (d : Entries) → (is_spare (entry s p) ≡ true) ⊎ (is_held (entry s p) ≡ true) →
        ((r : ℕ) → p ≢ r → Alike r s.entries d) →
        (q : ℕ) → s.running ≡ Some q → (c : ℕ) × (kind_at d q ≡ thread_of c) × (is_in sealed (at d c) ≡ true)
    unfolding kind_number cell_in cell_is kind
    still p d h a q e =
        let t = a k.thread (λ z. grind (arith, R.its_thread)) in
        let c = a k.cell (λ z. grind (arith, R.is_sealed)) in
        let z : k.thread ≡ q = cc in
        (k.cell, rw (← z) (t.kinds ∙ R.its_thread), c.seals ∙ R.is_sealed)

    pub cell_runs : Runs s → (c : CellCall) → Pass (cell_checks l s k c) → Runs (apply_all s (cell_edits l k c))
    unfolding cell_edits cell_checks
    cell_runs r (leave n) h = λ q e. absurd (grind (arith, e))
    cell_runs r (interrupt rs) h = λ q e. absurd (grind (arith, e))
    cell_runs r (fault n) h = λ q e. absurd (grind (arith, e))
    cell_runs r (grow p w) h =
        still p _ (inl (grind (arith, h.0))) (λ q m. then_alike (put_alike _ p q _ m) (slot_alike _ _ w.slot _ q))
    cell_runs r (shrink p w) h =
        still p _ (inr (grind (arith, h.0))) (λ q m. then_alike (slot_alike _ _ w.slot _ q) (put_alike _ p q _ m))
    cell_runs r (extend p i) h =
        still p _ (inl (grind (arith, h.1.0))) (λ q m. then_alike (put_alike _ p q _ m) (place_alike _ _ i p q))
    cell_runs r who h = r
    cell_runs r (draw n) h = r
