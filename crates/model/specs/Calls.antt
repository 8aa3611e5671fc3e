-- The calls: what the system, and a cell that runs, ask of the monitor. Pages and cells are named by numbers, a cell by
-- its first page.
use Rattle.std.specs.Prelude.{ℕ, Bool, List, Option}

-- Where a cell sees a page: in which of its tables, in which slot of that, and whether it may write there, and run what is there.
pub record Place : Type 0 where
  pub table : ℕ
  pub slot : ℕ
  pub write : Bool
  pub run : Bool

-- By the system. Closed pages are those that cells are made of; open pages are the system's own, which cells may be shown.
pub data SystemCall : Type 0 where
  how_many : SystemCall  -- how many closed pages are there?
  new_cell : ℕ → ℕ → SystemCall  -- its first page, its top table's page
  new_thread : ℕ → ℕ → ℕ → SystemCall  -- page, cell, the address where it starts
  new_table : ℕ → ℕ → ℕ → SystemCall  -- page, cell, which place of the top table
  hold : ℕ → ℕ → Place → Option ℕ → SystemCall  -- page, cell, where it is seen, the open page to copy or none
  give : ℕ → ℕ → SystemCall  -- a spare page, to a cell
  show : ℕ → ℕ → Place → SystemCall  -- open page, cell, where it is seen
  remove : ℕ → SystemCall  -- a page
  seal : ℕ → SystemCall  -- a cell is built, and may run
  stop : ℕ → SystemCall  -- a cell runs no more, and may be taken apart
  enter : ℕ → ℕ → ℕ → ℕ → SystemCall  -- a thread, with three numbers
  resume : ℕ → SystemCall  -- a thread that was interrupted

-- By the cell that runs, or by the machine when it ends the cell's run.
pub data CellCall : Type 0 where
  leave : ℕ → CellCall  -- back to the system, with a number
  interrupt : List ℕ → CellCall  -- the registers, as they were
  fault : ℕ → CellCall  -- its kind
  grow : ℕ → Place → CellCall  -- a spare page of the cell becomes a held one, with zeros
  shrink : ℕ → Place → CellCall  -- and the other way
  extend : ℕ → ℕ → CellCall  -- a spare page becomes a table, at which place of the top table
  who : CellCall  -- who am I?
  draw : ℕ → CellCall  -- a number that the machine drew

-- Everything that can be asked: bytes that are no call too, with the place where they cease to be one.
pub data Call : Type 0 where
  by_system : SystemCall → Call
  by_cell : CellCall → Call
  garbled : ℕ → Call

abbrev pub system_number : SystemCall → ℕ
system_number how_many = 0
system_number (new_cell p t) = 1
system_number (new_thread p c a) = 2
system_number (new_table p c i) = 3
system_number (hold p c w o) = 4
system_number (give p c) = 5
system_number (show o c w) = 6
system_number (remove p) = 7
system_number (seal c) = 8
system_number (stop c) = 9
system_number (enter t x y z) = 10
system_number (resume t) = 11

abbrev pub cell_number : CellCall → ℕ
cell_number (leave n) = 20
cell_number (interrupt rs) = 21
cell_number (fault k) = 22
cell_number (grow p w) = 23
cell_number (shrink p w) = 24
cell_number (extend p i) = 25
cell_number who = 26
cell_number (draw n) = 27
