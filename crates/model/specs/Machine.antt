-- The machine: what a cell that runs sees, what it comes to, and what it writes. It is any function, as long as it is good.
use Rattle.std.specs.Prelude.{◌≡◌, ℕ, suc, Bool, true, cond, List, [], ◌∷◌, Some, None, Option, slice_index_or, slice_set}
use Rattle.model.specs.Calls.{CellCall, leave, interrupt, fault, grow, shrink, extend, who, draw}
use Rattle.model.specs.Pages.{Slot, nothing, closed, opened, writable, cell_in, tables_by, table_at, slot_in, slots_in, Entries, at}
use Rattle.model.specs.State.{Limits, State, Page, seventeen, with_contents, with_open_pages}
use Rattle.model.specs.Refusals.{cell_fits}

-- What is seen at a place: the slot, which says which page is behind it and what may be done there, and the words of that page.
pub record View : Type 0 where
  pub slot : Slot
  pub words : List ℕ

-- What a cell sees: at each table's number, and each slot's, a view.
abbrev pub Sight : Type 0
Sight = ℕ → ℕ → View

-- What a run came to: the registers; what is at each place now, which counts where the cell may write; the call that ended it.
pub record Ran : Type 0 where
  pub registers : List ℕ
  pub words : ℕ → ℕ → List ℕ
  pub ends : CellCall

-- A machine: what a cell comes to, from its registers, what it sees, and a number that stands for chance; and the registers
-- with which it goes on when it is told an error or 0, and numbers.
pub record Machine : Type 0 where
  pub runs : List ℕ → Sight → ℕ → Ran
  pub goes_on : List ℕ → ℕ → List ℕ → List ℕ

-- The words of the page behind a slot.
unfoldable pub words_behind : State → Slot → List ℕ
words_behind s nothing = []
words_behind s (closed p w x) = slice_index_or s.contents p []
words_behind s (opened o w) = slice_index_or s.open_pages o []

abbrev pub view : State → Slot → View
view s z = record { slot = z; words = words_behind s z }

-- What a cell sees by its tables.
abbrev pub sight : State → ℕ → Sight
sight s c i j = view s (slot_in s.entries (table_at s.entries c i) j)

-- Words are written where a slot lets the cell write.
unfoldable pub write_behind : Slot → List ℕ → State → State
write_behind nothing ws s = s
write_behind (closed p w x) ws s = cond w (with_contents s (slice_set s.contents p ws)) s
write_behind (opened o w) ws s = cond w (with_open_pages s (slice_set s.open_pages o ws)) s

-- At each slot from j on, of the table i; at each table from i on. The tables are those from before the run.
unfoldable pub write_slots : (ℕ → List ℕ) → ℕ → List Slot → State → State
write_slots f j [] s = s
write_slots f j (z ∷ zs) s = write_slots f (suc j) zs (write_behind z (f j) s)

unfoldable pub write_table : Entries → (ℕ → List ℕ) → Option ℕ → State → State
write_table d f None s = s
write_table d f (Some q) s = write_slots f 0 (slots_in (at d q)) s

unfoldable pub write_tables : Entries → (ℕ → ℕ → List ℕ) → ℕ → List (Option ℕ) → State → State
write_tables d f i [] s = s
write_tables d f i (t ∷ ts) s = write_tables d f (suc i) ts (write_table d (f i) t s)

-- What a cell wrote at its places.
abbrev pub written : ℕ → (ℕ → ℕ → List ℕ) → State → State
written c f s = write_tables s.entries f 0 (tables_by s.entries (cell_in (at s.entries c))) s

-- The call that ends a run; an interrupt has the registers that there were.
unfoldable pub ended_by : List ℕ → CellCall → CellCall
ended_by rs (leave n) = leave n
ended_by rs (interrupt qs) = interrupt rs
ended_by rs (fault n) = fault n
ended_by rs (grow p w) = grow p w
ended_by rs (shrink p w) = shrink p w
ended_by rs (extend p i) = extend p i
ended_by rs who = who
ended_by rs (draw n) = draw n

-- What is asked of a run from good registers: pages that it may write stay pages, it has seventeen registers, each a word, and the
-- numbers of the call that ends it are words.
pub record GoodRun (l : Limits) (v : Sight) (r : Ran) : Type 0 where
  pub pages_stay : (i j : ℕ) → writable (v i j).slot ≡ true → Page l (r.words i j)
  pub registers_stay : seventeen r.registers ≡ true
  pub ends_well : cell_fits (ended_by r.registers r.ends) ≡ true

-- What a cell can see: where something is seen, a page.
unfoldable pub ViewWell : Limits → Slot → List ℕ → Type 0
ViewWell l nothing ws = Unit {0}
ViewWell l (closed p w x) ws = Page l ws
ViewWell l (opened o w) ws = Page l ws

-- What is asked of a machine, and only for what it can meet: it may have registers of its own that are good, with seventeen
-- words among them, where it goes on after a call.
pub record GoodMachine (l : Limits) (m : Machine) : Type 0 where
  pub good : List ℕ → Bool
  pub seventeen_are : (rs : List ℕ) → seventeen rs ≡ true → good rs ≡ true
  pub runs_well :
      (rs : List ℕ) (v : Sight) (chance : ℕ) → good rs ≡ true → ((i j : ℕ) → ViewWell l (v i j).slot (v i j).words) →
      GoodRun l v (m.runs rs v chance)
  pub goes_on_well : (rs : List ℕ) (e : ℕ) (ns : List ℕ) → seventeen rs ≡ true → good (m.goes_on rs e ns) ≡ true
