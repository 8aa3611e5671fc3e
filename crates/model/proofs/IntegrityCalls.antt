-- The edits of the system's calls that do not concern a sealed cell, and those of other cells' calls, leave it untouched.
use Rattle.std.proofs.Common.{◌≡◌, ℕ, true, false, not, ◌&&◌, ◌≢◌, length, Some, sym, refl, ap, ◌∙◌, inl, inr, arith, get_or-set_other}
use borrow.Author.Tests.{eqb-false}
use Rattle.std.proofs.lemmas.Bool.Decides.{nat_tests}
use Rattle.model.specs.Calls.{Place, SystemCall, CellCall, how_many, new_cell, new_thread, new_table, hold, give, show, remove, seal, stop}
use Rattle.model.specs.Calls.{enter, resume, leave, interrupt, fault, grow, shrink, extend, who, draw}
use Rattle.model.specs.Pages.{◌is◌, Slot, nothing, building, sealed, phase_number, Cell, Entry, free, cell, held, held_by, kind}
use Rattle.model.specs.Pages.{kind_number, part_of, cell_in, cell_is, is_free, is_cell, is_spare, is_in, has_parts, table_at}
use Rattle.model.specs.State.{Limits, State, entry, Caller, is_owner_in, apply, put_entry, put_slot}
use Rattle.model.specs.Refusals.{system_checks, cell_checks, own_spare, may_go}
use Rattle.model.specs.Monitor.{system_edits, cell_edits}
use Rattle.model.specs.Changes.{concerns}
use Rattle.model.proofs.Lists.{get_d_set}
use Rattle.model.proofs.Effects.{Pass}
use Rattle.model.proofs.InvSound.{top_in, Sound}
use Rattle.model.proofs.InvCalls.{sealed_alive, CallsNow, no_part, the_held, the_spare}
use Rattle.model.proofs.InvRuns.{slot_alike}
use Rattle.model.proofs.IntegrityEdits.{NotOf, AllApart}

-- The cells c and o are two, if one of them is not as the other.
free_apart : (x : Entry) → is_free x ≡ true → is_in sealed x ≢ true
unfolding kind kind_number cell_in cell_is
free_apart x h k = grind arith

building_apart : (x : Entry) → is_in building x ≡ true → is_in sealed x ≢ true
unfolding cell_is phase_number
building_apart x h k = grind arith

-- What is free belongs to no cell, what is another's not to this one.
not_of : {o p : ℕ} {x : Entry} → is_free x ≡ true → NotOf o p x
unfolding kind kind_number part_of ◌is◌
not_of h = record { not_its = grind arith }

other_of : {o p : ℕ} {x : Entry} (c : ℕ) → part_of (kind x) ≡ Some c → c ≢ o → NotOf o p x
unfolding kind kind_number part_of ◌is◌
other_of c h n = record { not_its = grind (arith, nat_tests) }

first_of : {o p : ℕ} {x : Cell} → p ≢ o → NotOf o p (cell x)
unfolding kind kind_number ◌is◌
first_of n = record { not_its = grind (arith, nat_tests) }

module _ (o : ℕ) (s : State) where
  -- A page that was no held page of the cell o becomes one that another holds: it is none of o's when it is written.
  held_apart : (p c : ℕ) (w : Place) (z : Slot) → kind (entry s p) ≢ held_by o → c ≢ o →
      kind (entry (apply (apply s (put_entry p (held (record { cell = c })))) (put_slot c w z)) p) ≢ held_by o
  unfolding kind
  held_apart p c w z n m h =
      let t : State = apply s (put_entry p (held (record { cell = c }))) in
      let k : kind (entry t p) ≡ held_by o = sym (slot_alike t.entries (table_at t.entries c w.table) w.slot z p).kinds ∙ h in
      elim (get_d_set s.entries p p (held (record { cell = c })) free) [
        | inl e ↦ n (sym (ap kind e) ∙ k)
        | inr e ↦ m (grind (arith, sym (ap kind e.1) ∙ k))
      ]

  module _ (l : Limits) (S : Sound s.entries) (long : length s.entries ≡ l.pages) (sealed-o : is_in sealed (entry s o) ≡ true) where
    not_o : (c : ℕ) → is_in sealed (entry s c) ≢ true → c ≢ o
    not_o c h e = h (rw e sealed-o)

    free_not : (p : ℕ) → is_free (entry s p) ≡ true → p ≢ o
    free_not p h = not_o p (free_apart (entry s p) h)

    building_not : (c : ℕ) → is_in building (entry s c) ≡ true → c ≢ o
    building_not c h = not_o c (building_apart (entry s c) h)

    open_not : (c : ℕ) → not (is_in sealed (entry s c)) ≡ true → c ≢ o
    open_not c h = not_o c (λ k. grind arith)

    free_held : (p : ℕ) → is_free (entry s p) ≡ true → kind (entry s p) ≢ held_by o
    unfolding kind_number
    free_held p h k = grind arith

    remove_apart : (p : ℕ) → not (is_cell (entry s p) && has_parts s.entries p) ≡ true → may_go s p ≡ true →
        (is_spare (entry s p) && (part_of (kind (entry s p)) is o)) ≡ false → NotOf o p (entry s p)
    unfolding kind_number part_of ◌is◌ is_owner_in cell_is phase_number
    remove_apart p h g c =
        let t = S.has_top o (sealed_alive (entry s o) sealed-o) in
        let n : p ≢ o = λ e. no_part l s S long p h (top_in (entry s o)) (ap part_of t ∙ ap Some (sym e)) in
        record { not_its = grind (arith, nat_tests) }

    pub system_apart : (c : SystemCall) → Pass (system_checks l s c) → concerns s o c ≡ false → AllApart o s (system_edits l s c)
    unfolding system_edits system_checks concerns kind kind_number part_of
    system_apart how_many h n = tt
    system_apart (new_cell p t) h n =
        let f : is_free (entry s p) ≡ true = grind (arith, h.1.0) in
        let g : is_free (entry s t) ≡ true = grind (arith, h.1.0) in
        let m : t ≢ p = λ e. eqb-false p t (grind (arith, h.0)) (sym e) in (
          (not_of f, first_of (free_not p f)),
          ((rw (get_or-set_other s.entries p t _ free m) (not_of g), other_of p refl (free_not p f)), tt),
        )
    system_apart (new_thread p c a) h n =
        let m = open_not c h.1.1.1.1.0 in ((not_of h.1.1.0, other_of c refl m), (m, tt))
    system_apart (new_table p c i) h n =
        let m = open_not c h.1.1.1.1.1.1.0 in ((not_of h.1.1.1.1.1.0, other_of c refl m), (m, tt))
    system_apart (hold p c w x) h n =
        let m = building_not c h.1.0 in
        let f = h.1.1.1.1.1.0 in
        ((not_of f, other_of c refl m), (m, (held_apart p c w _ (free_held p f) m, (m, tt))))
    system_apart (give p c) h n = ((not_of h.1.1.0, other_of c refl (eqb-false c o n)), tt)
    system_apart (show x c w) h n = (building_not c h.1.0, tt)
    system_apart (remove p) h n = ((remove_apart p h.1.0 h.1.1.0 n, not_of refl), tt)
    system_apart (seal c) h n = (building_not c h.1.0, tt)
    system_apart (stop c) h n = (eqb-false c o n, tt)
    system_apart (enter t x y z) h n = (tt, tt)
    system_apart (resume t) h n = (tt, tt)

  -- Calls of another cell.
  module _ (l : Limits) (k : Caller) (R : CallsNow s k) (m : k.cell ≢ o) where
    own_apart : (p : ℕ) → own_spare l s k p ≡ true → NotOf o p (entry s p) × (kind (entry s p) ≢ held_by o)
    unfolding part_of
    own_apart p h =
        let e = the_spare (entry s p) k.cell (grind arith) (grind arith) in
        (other_of k.cell (ap part_of e) m, λ z. grind arith)

    thread_apart : NotOf o k.thread (entry s k.thread)
    unfolding part_of
    thread_apart = other_of k.cell (ap part_of R.its_thread) m

    pub cell_apart : (c : CellCall) → Pass (cell_checks l s k c) → AllApart o s (cell_edits l k c)
    unfolding cell_edits cell_checks kind part_of
    cell_apart (leave n) h = (thread_apart, (tt, tt))
    cell_apart (interrupt rs) h = (thread_apart, (tt, tt))
    cell_apart (fault n) h = (thread_apart, (tt, tt))
    cell_apart (grow p w) h =
        let a = own_apart p h.0 in ((a.0, other_of k.cell refl m), (m, (held_apart p k.cell w _ a.1 m, tt)))
    cell_apart (shrink p w) h =
        let e = the_held (entry s p) k.cell (grind (arith, h.0)) (grind (arith, h.0)) in
        let t = slot_alike s.entries (table_at s.entries k.cell w.table) w.slot nothing p in
        (m, ((other_of k.cell (ap part_of (t.kinds ∙ e)) m, other_of k.cell refl m), tt))
    cell_apart (extend p i) h = (((own_apart p h.1.0).0, other_of k.cell refl m), (m, tt))
    cell_apart who h = tt
    cell_apart (draw n) h = tt
