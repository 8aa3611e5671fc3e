-- What edits leave of the cell whose first page is o: a property of what that page has as a cell is kept, if each edit keeps it.
use Rattle.std.proofs.Common.{◌≡◌, ℕ, ◌≢◌, ◌⊎◌, List, [], ◌∷◌, set, Some, None, Option, inl, inr, arith}
use Rattle.std.specs.Option.{option_map}
use Rattle.model.specs.Calls.{CellCall, leave, interrupt, fault, grow, shrink, extend, who, draw}
use Rattle.model.specs.Measured.{Part, more}
use Rattle.model.specs.Pages.{Slot, Phase, Cell, Thread, Top, Table, Entry, free, cell_in, in_cell, in_thread, in_top, in_table}
use Rattle.model.specs.Pages.{Entries, at, table_at, changed_at, slot_put_in, table_put_by}
use Rattle.model.specs.State.{Limits, State, entry, Caller, apply, apply_all}
use Rattle.model.specs.State.{Edit, put_entry, put_slot, put_table, measure, set_phase, set_thread, write_page, run}
use Rattle.model.specs.Monitor.{cell_edits}
use Rattle.model.proofs.Lists.{get_d_set}

table_cell : (f : Table → Table) (e : Entry) → cell_in (in_table f e) ≡ cell_in e
unfolding cell_in in_table
table_cell f e = grind arith

top_cell : (f : Top → Top) (e : Entry) → cell_in (in_top f e) ≡ cell_in e
unfolding cell_in in_top
top_cell f e = grind arith

thread_cell : (f : Thread → Thread) (e : Entry) → cell_in (in_thread f e) ≡ cell_in e
unfolding cell_in in_thread
thread_cell f e = grind arith

pub cell_cell : (f : Cell → Cell) (e : Entry) → cell_in (in_cell f e) ≡ option_map f (cell_in e)
unfolding cell_in in_cell
cell_cell f e = grind arith

-- A cell of which more was measured, and one in another phase.
abbrev pub measured_on : Part → Cell → Cell
measured_on m y = record { top = y.top; phase = y.phase; measured = more y.measured m }

abbrev pub in_phase : Phase → Cell → Cell
in_phase f y = record { top = y.top; phase = f; measured = y.measured }

module _ (Q : Option Cell → Type 0) (q-none : Q None) (o : ℕ) where
  -- What is asked of an edit.
  abbrev pub Ok : Edit → Type 0
  Ok (put_entry p z) = (p ≢ o) ⊎ Q (cell_in z)
  Ok (put_slot c w z) = Unit {0}
  Ok (put_table c i p) = Unit {0}
  Ok (measure c m) = (c ≢ o) ⊎ ((y : Cell) → Q (Some y) → Q (Some (measured_on m y)))
  Ok (set_phase c f) = (c ≢ o) ⊎ ((y : Cell) → Q (Some y) → Q (Some (in_phase f y)))
  Ok (set_thread t u rs) = Unit {0}
  Ok (write_page p ws) = Unit {0}
  Ok (run r) = Unit {0}

  abbrev pub AllOk : List Edit → Type 0
  AllOk [] = Unit {0}
  AllOk (e ∷ es) = Ok e × AllOk es

  pub q_set : (d : Entries) (p : ℕ) (z : Entry) → Q (cell_in (at d o)) → (p ≡ o → Q (cell_in z)) → Q (cell_in (at (set d p z) o))
  q_set d p z h g = elim (get_d_set d p o z free) [ inl e ↦ rw e h | inr e ↦ rw e.1 (g e.0) ]

  q_same : (d : Entries) (p : ℕ) (f : Entry → Entry) → Q (cell_in (at d o)) → ((e : Entry) → cell_in (f e) ≡ cell_in e) →
      Q (cell_in (at (changed_at d p f) o))
  q_same d p f h g = q_set d p (f (at d p)) h (λ e. rw (g (at d p), e) h)

  q_slot : (d : Entries) (q : Option ℕ) (j : ℕ) (z : Slot) → Q (cell_in (at d o)) → Q (cell_in (at (slot_put_in d q j z) o))
  unfolding slot_put_in
  q_slot d None j z h = h
  q_slot d (Some q) j z h = q_same d q _ h (table_cell _)

  q_top : (d : Entries) (y : Option Cell) (i p : ℕ) → Q (cell_in (at d o)) → Q (cell_in (at (table_put_by d y i p) o))
  unfolding table_put_by
  q_top d None i p h = h
  q_top d (Some y) i p h = q_same d y.top _ h (top_cell _)

  q_mapped : (f : Cell → Cell) (x : Option Cell) → Q x → ((y : Cell) → Q (Some y) → Q (Some (f y))) → Q (option_map f x)
  q_mapped f None h g = h
  q_mapped f (Some y) h g = g y h

  q_cell : (d : Entries) (c : ℕ) (f : Cell → Cell) → Q (cell_in (at d o)) → (c ≢ o) ⊎ ((y : Cell) → Q (Some y) → Q (Some (f y))) →
      Q (cell_in (at (changed_at d c (in_cell f)) o))
  q_cell d c f h k =
      q_set d c (in_cell f (at d c)) h
      (λ e. elim k [ inl n ↦ absurd (n e) | inr g ↦ rw (cell_cell f (at d c), e) (q_mapped f (cell_in (at d o)) h g) ])

  ok_keeps : (s : State) (e : Edit) → Q (cell_in (entry s o)) → Ok e → Q (cell_in (entry (apply s e) o))
  ok_keeps s (put_entry p z) h k = q_set s.entries p z h (λ e. elim k [ inl n ↦ absurd (n e) | inr n ↦ n ])
  ok_keeps s (put_slot c w z) h k = q_slot s.entries (table_at s.entries c w.table) w.slot z h
  ok_keeps s (put_table c i p) h k = q_top s.entries (cell_in (at s.entries c)) i p h
  ok_keeps s (measure c m) h k = q_cell s.entries c (measured_on m) h k
  ok_keeps s (set_phase c f) h k = q_cell s.entries c (in_phase f) h k
  ok_keeps s (set_thread t u rs) h k = q_same s.entries t _ h (thread_cell _)
  ok_keeps s (write_page p ws) h k = h
  ok_keeps s (run r) h k = h

  pub all_keep : (s : State) (es : List Edit) → Q (cell_in (entry s o)) → AllOk es → Q (cell_in (entry (apply_all s es) o))
  all_keep s [] h k = h
  all_keep s (e ∷ es) h k = all_keep (apply s e) es (ok_keeps s e h k.0) k.1

  -- What a cell asks for makes or measures no cell.
  pub cell_ok : (l : Limits) (k : Caller) (c : CellCall) → AllOk (cell_edits l k c)
  unfolding cell_edits cell_in
  cell_ok l k (leave m) = (tt, (tt, tt))
  cell_ok l k (interrupt rs) = (tt, (tt, tt))
  cell_ok l k (fault m) = (tt, (tt, tt))
  cell_ok l k (grow p w) = (inr q-none, (tt, (tt, tt)))
  cell_ok l k (shrink p w) = (tt, (inr q-none, tt))
  cell_ok l k (extend p i) = (inr q-none, (tt, tt))
  cell_ok l k who = tt
  cell_ok l k (draw m) = tt
