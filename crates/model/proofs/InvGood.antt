-- Which edits keep it who has which page: what is asked of each, where it is made.
use Rattle.std.proofs.Common.{◌≡◌, ℕ, ◌<◌, false, ◌≢◌, ◌⊎◌, List, [], ◌∷◌, length, get_or, replicate, Some, None, Option, sym, refl, ap, ◌∙◌, arith}
use Rattle.model.specs.Pages.{Slot, stopped, Cell, Entry, free, cell, top, first_page, table_of, kind, is_in, cell_in, tables_by, table_at}
use Rattle.model.specs.Pages.{slot_put_in, table_put_by, Entries, at}
use Rattle.model.specs.State.{State, entry, apply, apply_all, Edit, put_entry, put_slot, put_table, measure, set_phase, set_thread}
use Rattle.model.specs.State.{write_page, run}
use Rattle.model.proofs.InvSound.{kind_at, top_by, top_in, table_on, top_at, Alive, Sound, MayBeSeen, Turns, turned}
use Rattle.model.proofs.InvTurns.{measured_sound, phase_sound, thread_sound, slot_sound, table_sound}
use Rattle.model.proofs.InvNewCell.{cell_made}

pub table_is : (d : Entries) (x : Entry) (i : ℕ) → kind x ≡ first_page →
    get_or (tables_by d (cell_in x)) i None ≡ table_on (at d (top_in x)) i
unfolding kind cell_in tables_by
table_is d x i h = grind arith

pub table_its : (d : Entries) (S : Sound d) (c i q : ℕ) → Alive (at d c) → table_at d c i ≡ Some q → kind_at d q ≡ table_of c
table_its d S c i q a h = S.has_table c i q a (sym (table_is d (at d c) i a.0) ∙ h)

abbrev pub Good : State → Edit → Type 0
Good s (put_entry p x) = Turns s.entries p x 0
Good s (put_slot c w z) = Alive (entry s c) × MayBeSeen s.entries c z
Good s (put_table c i p) =
    Alive (entry s c) × (kind (entry s p) ≡ table_of c) × ((j : ℕ) → table_on (top_at s.entries c) j ≢ Some p)
Good s (measure c m) = Unit {0}
Good s (set_phase c f) = (f ≡ stopped) ⊎ (is_in stopped (entry s c) ≡ false)
Good s (set_thread t u rs) = Unit {0}
Good s (write_page p ws) = Unit {0}
Good s (run r) = Unit {0}

-- Two pages that are there are free, and become a cell's first page and its top table.
pub record Makes (s : State) (p t : ℕ) (x : Cell) : Type 0 where
  pub was_first : entry s p ≡ free
  pub was_top : entry s t ≡ free
  pub apart : p ≢ t
  pub low_first : p < length s.entries
  pub low_top : t < length s.entries
  pub its_top : x.top ≡ t

-- Edits, one after the other, each of them good where it is made; or the two that make a cell.
pub data AllGood : State → List Edit → Type 0 where
  none : (s : State) → AllGood s []
  then : (s : State) (e : Edit) (es : List Edit) → Good s e → AllGood (apply s e) es → AllGood s (e ∷ es)
  makes : (s : State) (p t n : ℕ) (x : Cell) → Makes s p t x →
      AllGood s (put_entry p (cell x) ∷ put_entry t (top (record { cell = p; tables = replicate n None })) ∷ [])

module _ (d : Entries) (S : Sound d) (c : ℕ) (a : Alive (at d c)) where
  slot_good : (i j : ℕ) (z : Slot) → MayBeSeen d c z → (o : Option ℕ) → table_at d c i ≡ o → Sound (slot_put_in d o j z)
  unfolding slot_put_in
  slot_good i j z m None e = S
  slot_good i j z m (Some q) e = slot_sound d S c q j z _ (table_its d S c i q a e) m (λ y. refl) (λ y. refl)

  table_good : (i p : ℕ) → kind_at d p ≡ table_of c → ((j : ℕ) → table_on (top_at d c) j ≢ Some p) →
      (y : Option Cell) → cell_in (at d c) ≡ y → Sound (table_put_by d y i p)
  unfolding table_put_by
  table_good i p k n None e = S
  table_good i p k n (Some y) e =
      let t : top_in (at d c) ≡ y.top = ap top_by e in
      table_sound d S c y.top i p _ (rw t at (S.has_top c a)) k (rw t at n) (λ y. refl) (λ y. refl)

pub good_sound : (s : State) (e : Edit) → Sound s.entries → Good s e → Sound (apply s e).entries
good_sound s (put_entry p x) S g = turned s.entries p x 0 S g
good_sound s (put_slot c w z) S g = slot_good s.entries S c g.0 w.table w.slot z g.1 _ refl
good_sound s (put_table c i p) S g = table_good s.entries S c g.0 i p g.1 g.2 _ refl
good_sound s (measure c m) S g = measured_sound s.entries S c m
good_sound s (set_phase c f) S g = phase_sound s.entries S c f g
good_sound s (set_thread t u rs) S g = thread_sound s.entries S t _ (λ x. refl)
good_sound s (write_page p ws) S g = S
good_sound s (run r) S g = S

pub all_sound : (s : State) (es : List Edit) → Sound s.entries → AllGood s es → Sound (apply_all s es).entries
all_sound s es S (none _) = S
all_sound s es S (then _ e rest g h) = all_sound (apply s e) rest (good_sound s e S g) h
all_sound s es S (makes _ p t n x m) =
    cell_made s.entries S p t n x m.was_first m.was_top m.apart m.low_first m.low_top m.its_top
