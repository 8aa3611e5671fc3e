-- What the memory says of the pages that a call names. Any number may be asked for: a page that is not there counts as free, and a number
-- in the memory is used only where such a page is there.
use Rattle.std.specs.Prelude.{ℕ, zero, suc, ◌<◌, Bool, true, false, cond, ◌||◌, List, Some, None, Option, ◌==◌, nat_lt, slice_index}
use Rattle.model.specs.Calls.{Place}
use Rattle.model.specs.Pages.{◌is◌, is_nothing, closed_in}
use Rattle.pages.specs.Rows.{slot_in, table_in, running_in}
use Rattle.pages.specs.Meaning.{record_in}
use Rattle.pages.specs.declared.values.Phase.{Phase}
use Rattle.pages.specs.declared.values.Phase.TheVariants.{Building, Sealed, Stopped}
use Rattle.pages.specs.declared.values.Record.{Record}
use Rattle.pages.specs.declared.values.Record.TheVariants.{Free, Cell as CellRecord, Thread as ThreadRecord, Top, Table, Held, Spare}
use Rattle.lookups.specs.declared.Cell.{Cell}
use Rattle.lookups.specs.declared.Thread.{Thread}
use Rattle.lookups.specs.declared.Caller.{Caller}

-- whether a closed page is there, and an open one
abbrev pub there : List ℕ → ℕ → Bool
there m p = nat_lt p (slice_index m 0)

abbrev pub open_there : List ℕ → ℕ → Bool
open_there m o = nat_lt o (slice_index m 1)

-- a page's number, if the page is there
abbrev pub if_there : List ℕ → Option ℕ → Option ℕ
if_there m None = None
if_there m (Some p) = cond (there m p) (Some p) None

abbrev pub record_of : List ℕ → ℕ → Record
record_of m p = cond (there m p) (record_in m p) Free

abbrev pub is_free : Record → Bool
is_free Free = true
is_free (CellRecord t f) = false
is_free (ThreadRecord c a u) = false
is_free (Top c) = false
is_free (Table c) = false
is_free (Held c) = false
is_free (Spare c) = false

abbrev pub is_first : Record → Bool
is_first Free = false
is_first (CellRecord t f) = true
is_first (ThreadRecord c a u) = false
is_first (Top c) = false
is_first (Table c) = false
is_first (Held c) = false
is_first (Spare c) = false

-- the cell that a page is a part of
abbrev pub part_of : Record → Option ℕ
part_of Free = None
part_of (CellRecord t f) = None
part_of (ThreadRecord c a u) = Some c
part_of (Top c) = Some c
part_of (Table c) = Some c
part_of (Held c) = Some c
part_of (Spare c) = Some c

-- the cell that has a spare page, and the one that holds a page
abbrev pub spare_in : Record → Option ℕ
spare_in Free = None
spare_in (CellRecord t f) = None
spare_in (ThreadRecord c a u) = None
spare_in (Top c) = None
spare_in (Table c) = None
spare_in (Held c) = None
spare_in (Spare c) = Some c

abbrev pub held_in : Record → Option ℕ
held_in Free = None
held_in (CellRecord t f) = None
held_in (ThreadRecord c a u) = None
held_in (Top c) = None
held_in (Table c) = None
held_in (Held c) = Some c
held_in (Spare c) = None

-- what a first page has, and a thread's page
abbrev pub cell_in : List ℕ → Record → Option Cell
cell_in m Free = None
cell_in m (CellRecord t f) = cond (there m t) (Some (record { top = t; phase = f })) None
cell_in m (ThreadRecord c a u) = None
cell_in m (Top c) = None
cell_in m (Table c) = None
cell_in m (Held c) = None
cell_in m (Spare c) = None

abbrev pub thread_in : Record → Option Thread
thread_in Free = None
thread_in (CellRecord t f) = None
thread_in (ThreadRecord c a u) = Some (record { cell = c; start = a; under_way = u })
thread_in (Top c) = None
thread_in (Table c) = None
thread_in (Held c) = None
thread_in (Spare c) = None

abbrev pub cell_of : List ℕ → ℕ → Option Cell
cell_of m c = cell_in m (record_of m c)

abbrev pub thread_of : List ℕ → ℕ → Option Thread
thread_of m t = thread_in (record_of m t)

-- how far a cell is, if it is one
abbrev pub building : Phase → Bool
building Building = true
building Sealed = false
building Stopped = false

abbrev pub sealed : Phase → Bool
sealed Building = false
sealed Sealed = true
sealed Stopped = false

abbrev pub stopped : Phase → Bool
stopped Building = false
stopped Sealed = false
stopped Stopped = true

abbrev pub is_building : Option Cell → Bool
is_building None = false
is_building (Some x) = building x.phase

abbrev pub is_sealed : Option Cell → Bool
is_sealed None = false
is_sealed (Some x) = sealed x.phase

abbrev pub is_stopped : Option Cell → Bool
is_stopped None = false
is_stopped (Some x) = stopped x.phase

-- a cell's top table
abbrev pub top_of : Option Cell → ℕ
top_of None = 0
top_of (Some x) = x.top

-- a table of the cell whose top table is on the page t
abbrev pub table_of : List ℕ → ℕ → ℕ → Option ℕ
table_of m t i = if_there m (table_in m t i)

abbrev pub table_by : List ℕ → Option Cell → ℕ → Option ℕ
table_by m None i = None
table_by m (Some x) i = table_of m x.top i

-- the table of a place, if the slot there has nothing; and if it shows the closed page p
abbrev pub empty_in : List ℕ → ℕ → Option ℕ → Option ℕ
empty_in m j None = None
empty_in m j (Some q) = cond (is_nothing (slot_in m q j)) (Some q) None

abbrev pub vacant : List ℕ → ℕ → Place → Option ℕ
vacant m t w = empty_in m w.slot (table_of m t w.table)

abbrev pub vacant_by : List ℕ → Option Cell → Place → Option ℕ
vacant_by m None w = None
vacant_by m (Some x) w = vacant m x.top w

abbrev pub showing_in : List ℕ → ℕ → ℕ → Option ℕ → Option ℕ
showing_in m p j None = None
showing_in m p j (Some q) = cond (closed_in (slot_in m q j) is p) (Some q) None

abbrev pub showing : List ℕ → ℕ → Place → ℕ → Option ℕ
showing m t w p = showing_in m p w.slot (table_of m t w.table)

-- the thread that runs, with its cell
abbrev pub caller_in : ℕ → ℕ → Option Cell → Option Caller
caller_in t c None = None
caller_in t c (Some x) = Some (record { thread = t; cell = c; top = x.top })

abbrev pub caller_by : List ℕ → ℕ → Option ℕ → Option Caller
caller_by m t None = None
caller_by m t (Some c) = caller_in t c (cell_of m c)

abbrev pub caller_of : List ℕ → Option ℕ → Option Caller
caller_of m None = None
caller_of m (Some t) = caller_by m t (part_of (record_of m t))

abbrev pub caller : List ℕ → Option Caller
caller m = caller_of m (running_in m)

-- the pages of one who calls are there
pub record IsThere (m : List ℕ) (k : Caller) : Type 0 where
  pub thread : k.thread < slice_index m 0
  pub cell : k.cell < slice_index m 0
  pub top : k.top < slice_index m 0

-- whether one of the first n pages is a part of a cell
abbrev pub is_part : Option ℕ → ℕ → Bool
is_part None c = false
is_part (Some x) c = x == c

unfoldable pub has_parts : ℕ → List ℕ → ℕ → Bool
has_parts zero m c = false
has_parts (suc n) m c = has_parts n m c || is_part (part_of (record_of m n)) c
