-- Closed pages, what each of them is, and the tables by which cells see pages.
use Rattle.std.specs.Prelude.{ℕ, Bool, true, false, cond, ◌||◌, List, [], ◌∷◌, Some, None, Option, ◌==◌, slice_index_or, slice_set}
use Rattle.model.specs.Calls.{Place}
use Rattle.model.specs.Measured.{Measured, Part, more}

infix 68 ◌is◌
-- Whether there is a number, and it is this one.
unfoldable pub ◌is◌ : Option ℕ → ℕ → Bool
None is n = false
Some x is n = x == n

-- What a slot of a table has. Open pages are the system's own; what a cell sees there is never run.
pub data Slot : Type 0 where
  nothing : Slot
  closed : ℕ → Bool → Bool → Slot  -- a closed page, whether it may be written, and run
  opened : ℕ → Bool → Slot  -- an open page, whether it may be written

-- How far a cell is.
pub data Phase : Type 0 where
  building : Phase  -- pages are put into it, and measured
  sealed : Phase  -- it is built, and its threads may run
  stopped : Phase  -- it runs no more, and may be taken apart

unfoldable pub phase_number : Phase → ℕ
phase_number building = 0
phase_number sealed = 1
phase_number stopped = 2

-- What a page of each kind has. A cell is what one party runs: it is named by its first page.
pub record Cell : Type 0 where
  pub top : ℕ  -- its top table's page
  pub phase : Phase
  pub measured : Measured

pub record Thread : Type 0 where
  pub cell : ℕ
  pub start : ℕ  -- the address where it starts
  pub under_way : Bool  -- it was interrupted, and may be resumed
  pub registers : List ℕ  -- as they were then

pub record Top : Type 0 where
  pub cell : ℕ
  pub tables : List (Option ℕ)  -- for each place a table's page, or none

pub record Table : Type 0 where
  pub cell : ℕ
  pub slots : List Slot

-- A held page has contents, which its cell sees.
pub record Held : Type 0 where
  pub cell : ℕ

-- A spare page is a cell's, for the cell to use as it likes.
pub record Spare : Type 0 where
  pub cell : ℕ

-- What a closed page is.
pub data Entry : Type 0 where
  free : Entry
  cell : Cell → Entry  -- a cell's first page
  thread : Thread → Entry
  top : Top → Entry
  table : Table → Entry
  held : Held → Entry
  spare : Spare → Entry

-- What a page is, without what it has: whose it is, and for what.
pub data Kind : Type 0 where
  unused : Kind
  first_page : Kind
  thread_of : ℕ → Kind
  top_of : ℕ → Kind
  table_of : ℕ → Kind
  held_by : ℕ → Kind
  spare_of : ℕ → Kind

unfoldable pub kind : Entry → Kind
kind free = unused
kind (cell x) = first_page
kind (thread x) = thread_of x.cell
kind (top x) = top_of x.cell
kind (table x) = table_of x.cell
kind (held x) = held_by x.cell
kind (spare x) = spare_of x.cell

unfoldable pub kind_number : Kind → ℕ
kind_number unused = 0
kind_number first_page = 1
kind_number (thread_of c) = 2
kind_number (top_of c) = 3
kind_number (table_of c) = 4
kind_number (held_by c) = 5
kind_number (spare_of c) = 6

-- The cell that a page is a part of; a first page is the cell, and no part of one.
unfoldable pub part_of : Kind → Option ℕ
part_of unused = None
part_of first_page = None
part_of (thread_of c) = Some c
part_of (top_of c) = Some c
part_of (table_of c) = Some c
part_of (held_by c) = Some c
part_of (spare_of c) = Some c

abbrev pub is_free : Entry → Bool
is_free x = kind_number (kind x) == 0

abbrev pub is_cell : Entry → Bool
is_cell x = kind_number (kind x) == 1

abbrev pub is_thread : Entry → Bool
is_thread x = kind_number (kind x) == 2

abbrev pub is_held : Entry → Bool
is_held x = kind_number (kind x) == 5

abbrev pub is_spare : Entry → Bool
is_spare x = kind_number (kind x) == 6

-- The cell that the page p belongs to, a first page to itself.
abbrev pub cell_of : ℕ → Entry → Option ℕ
cell_of p x = cond (is_cell x) (Some p) (part_of (kind x))

-- What a page has, if it is of that kind.
unfoldable pub cell_in : Entry → Option Cell
cell_in free = None
cell_in (cell x) = Some x
cell_in (thread x) = None
cell_in (top x) = None
cell_in (table x) = None
cell_in (held x) = None
cell_in (spare x) = None

unfoldable pub thread_in : Entry → Option Thread
thread_in free = None
thread_in (cell x) = None
thread_in (thread x) = Some x
thread_in (top x) = None
thread_in (table x) = None
thread_in (held x) = None
thread_in (spare x) = None

unfoldable pub tables_in : Entry → List (Option ℕ)
tables_in free = []
tables_in (cell x) = []
tables_in (thread x) = []
tables_in (top x) = x.tables
tables_in (table x) = []
tables_in (held x) = []
tables_in (spare x) = []

unfoldable pub slots_in : Entry → List Slot
slots_in free = []
slots_in (cell x) = []
slots_in (thread x) = []
slots_in (top x) = []
slots_in (table x) = x.slots
slots_in (held x) = []
slots_in (spare x) = []

-- Whether it is a cell in that phase.
unfoldable pub cell_is : Phase → Option Cell → Bool
cell_is f None = false
cell_is f (Some x) = phase_number x.phase == phase_number f

abbrev pub is_in : Phase → Entry → Bool
is_in f x = cell_is f (cell_in x)

-- Whether it is a thread that is under way.
unfoldable pub thread_goes : Option Thread → Bool
thread_goes None = false
thread_goes (Some x) = x.under_way

abbrev pub is_under_way : Entry → Bool
is_under_way x = thread_goes (thread_in x)

-- All closed pages, what each is.
abbrev pub Entries : Type 0
Entries = List Entry

abbrev pub at : Entries → ℕ → Entry
at d p = slice_index_or d p free

-- Whether a cell has pages besides its first.
unfoldable pub has_parts : Entries → ℕ → Bool
has_parts [] c = false
has_parts (x ∷ xs) c = (part_of (kind x) is c) || has_parts xs c

-- The tables of a cell, one of them, and what is in a slot of one.
unfoldable pub tables_by : Entries → Option Cell → List (Option ℕ)
tables_by d None = []
tables_by d (Some x) = tables_in (at d x.top)

abbrev pub table_at : Entries → ℕ → ℕ → Option ℕ
table_at d c i = slice_index_or (tables_by d (cell_in (at d c))) i None

unfoldable pub slot_in : Entries → Option ℕ → ℕ → Slot
slot_in d None j = nothing
slot_in d (Some q) j = slice_index_or (slots_in (at d q)) j nothing

abbrev pub slot_at : Entries → ℕ → Place → Slot
slot_at d c w = slot_in d (table_at d c w.table) w.slot

unfoldable pub is_nothing : Slot → Bool
is_nothing nothing = true
is_nothing (closed p w x) = false
is_nothing (opened o w) = false

-- The closed page in a slot, if there is one.
unfoldable pub closed_in : Slot → Option ℕ
closed_in nothing = None
closed_in (closed p w x) = Some p
closed_in (opened o w) = None

-- Whether a cell may write where the slot is seen.
unfoldable pub writable : Slot → Bool
writable nothing = false
writable (closed p w x) = w
writable (opened o w) = w

-- An entry in which what a page of one kind has is changed; of another kind it stays.
unfoldable pub in_cell : (Cell → Cell) → Entry → Entry
in_cell f free = free
in_cell f (cell x) = cell (f x)
in_cell f (thread x) = thread x
in_cell f (top x) = top x
in_cell f (table x) = table x
in_cell f (held x) = held x
in_cell f (spare x) = spare x

unfoldable pub in_thread : (Thread → Thread) → Entry → Entry
in_thread f free = free
in_thread f (cell x) = cell x
in_thread f (thread x) = thread (f x)
in_thread f (top x) = top x
in_thread f (table x) = table x
in_thread f (held x) = held x
in_thread f (spare x) = spare x

unfoldable pub in_top : (Top → Top) → Entry → Entry
in_top f free = free
in_top f (cell x) = cell x
in_top f (thread x) = thread x
in_top f (top x) = top (f x)
in_top f (table x) = table x
in_top f (held x) = held x
in_top f (spare x) = spare x

unfoldable pub in_table : (Table → Table) → Entry → Entry
in_table f free = free
in_table f (cell x) = cell x
in_table f (thread x) = thread x
in_table f (top x) = top x
in_table f (table x) = table (f x)
in_table f (held x) = held x
in_table f (spare x) = spare x

-- The edits of pages. One page is changed:
abbrev pub changed_at : Entries → ℕ → (Entry → Entry) → Entries
changed_at d p f = slice_set d p (f (at d p))

-- a slot of a table, where a cell has that table;
unfoldable pub slot_put_in : Entries → Option ℕ → ℕ → Slot → Entries
slot_put_in d None j z = d
slot_put_in d (Some q) j z = changed_at d q (in_table (λ x. record { cell = x.cell; slots = slice_set x.slots j z }))

abbrev pub slot_put : Entries → ℕ → Place → Slot → Entries
slot_put d c w z = slot_put_in d (table_at d c w.table) w.slot z

-- a place of a cell's top table;
unfoldable pub table_put_by : Entries → Option Cell → ℕ → ℕ → Entries
table_put_by d None i p = d
table_put_by d (Some y) i p = changed_at d y.top (in_top (λ x. record { cell = x.cell; tables = slice_set x.tables i (Some p) }))

abbrev pub table_put : Entries → ℕ → ℕ → ℕ → Entries
table_put d c i p = table_put_by d (cell_in (at d c)) i p

-- what was measured of a cell, to which a part comes;
abbrev pub measured_more : Entries → ℕ → Part → Entries
measured_more d c m = changed_at d c (in_cell (λ x. record { top = x.top; phase = x.phase; measured = more x.measured m }))

-- how far a cell is;
abbrev pub phase_put : Entries → ℕ → Phase → Entries
phase_put d c f = changed_at d c (in_cell (λ x. record { top = x.top; phase = f; measured = x.measured }))

-- and whether a thread is under way, with its registers.
abbrev pub thread_put : Entries → ℕ → Bool → List ℕ → Entries
thread_put d t u rs = changed_at d t (in_thread (λ x. record { cell = x.cell; start = x.start; under_way = u; registers = rs }))
