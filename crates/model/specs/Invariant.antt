-- What is always true of the monitor's state: sizes, whose each page is, and that a cell sees only what it holds.
use Rattle.std.specs.Prelude.{◌≡◌, ℕ, ◌<◌, Bool, true, false, [], length, Some, None, slice_index_or}
use Rattle.model.specs.Pages.{Slot, nothing, closed, opened, sealed, stopped, Cell, Entry, free, cell, thread, top, table, held, spare}
use Rattle.model.specs.Pages.{first_page, thread_of, top_of, table_of, held_by, kind, part_of, is_cell, is_in, slots_in, table_at}
use Rattle.model.specs.State.{Limits, State, entry, word, seventeen, Page}

-- A cell that is not stopped. The tables of one that is may be taken apart, and their pages be another's.
abbrev pub Live : State → ℕ → Type 0
Live s c = (is_cell (entry s c) ≡ true) × (is_in stopped (entry s c) ≡ false)

-- The numbers in a slot, and in an entry, are in range, and lists are as long as they should be.
unfoldable pub SlotFits : Limits → Slot → Type 0
SlotFits l nothing = Unit {0}
SlotFits l (closed p w x) = p < l.pages
SlotFits l (opened o w) = o < l.opens

unfoldable pub EntryFits : Limits → Entry → Type 0
EntryFits l free = Unit {0}
EntryFits l (cell x) = x.top < l.pages
EntryFits l (thread x) = (word x.start ≡ true) × (seventeen x.registers ≡ true)
EntryFits l (top x) = (length x.tables ≡ l.places) × ((i q : ℕ) → slice_index_or x.tables i None ≡ Some q → q < l.pages)
EntryFits l (table x) = (length x.slots ≡ l.slots) × ((j : ℕ) → SlotFits l (slice_index_or x.slots j nothing))
EntryFits l (held x) = Unit {0}
EntryFits l (spare x) = Unit {0}

-- What is in a slot of the table on the page q.
abbrev pub slot_of : State → ℕ → ℕ → Slot
slot_of s q j = slice_index_or (slots_in (entry s q)) j nothing

pub record Invariant (l : Limits) (s : State) : Type 0 where
  pub entries_long : length s.entries ≡ l.pages
  pub contents_long : length s.contents ≡ l.pages
  pub opens_long : length s.open_pages ≡ l.opens
  pub contents_fit : (p : ℕ) → p < l.pages → Page l (slice_index_or s.contents p [])
  pub opens_fit : (o : ℕ) → o < l.opens → Page l (slice_index_or s.open_pages o [])
  pub entries_fit : (p : ℕ) → EntryFits l (entry s p)
  pub owned : (p c : ℕ) → part_of (kind (entry s p)) ≡ Some c → kind (entry s c) ≡ first_page
  pub has_top : (c : ℕ) (x : Cell) → Live s c → entry s c ≡ cell x → kind (entry s x.top) ≡ top_of c
  pub has_table : (c i q : ℕ) → Live s c → table_at s.entries c i ≡ Some q → kind (entry s q) ≡ table_of c
  pub one_table :
      (c i j q : ℕ) → Live s c → table_at s.entries c i ≡ Some q → table_at s.entries c j ≡ Some q → i ≡ j
  pub sees_held :
      (c q j p : ℕ) (a b : Bool) → Live s c → kind (entry s q) ≡ table_of c → slot_of s q j ≡ closed p a b →
      kind (entry s p) ≡ held_by c
  pub one_place :
      (c q j r k p : ℕ) (a b d e : Bool) → Live s c → kind (entry s q) ≡ table_of c → kind (entry s r) ≡ table_of c →
      slot_of s q j ≡ closed p a b → slot_of s r k ≡ closed p d e → (q ≡ r) × (j ≡ k)
  pub sealed_runs : (t : ℕ) → s.running ≡ Some t → (c : ℕ) × (kind (entry s t) ≡ thread_of c) × (is_in sealed (entry s c) ≡ true)
