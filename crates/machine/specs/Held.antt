-- What is lent, as the code holds it.
use Rattle.std.specs.Prelude.{◌≡◌, ℕ, ◌*◌, length, slice_index}
use Rattle.model.specs.Pages.{Slot}
use Rattle.model.specs.Processor.{Seen}
use Rattle.machine.specs.Lent.{Fit, slot_for, looked, Words}
use Rattle.machine.specs.declared.seeing.Lent.{Lent}

abbrev pub words_of : Lent → Words
words_of l = record { closed_pages = l.closed.now; open_pages = l.«open».now }

abbrev pub slot_at : Lent → ℕ → Slot
slot_at l a = slot_for l.memory.now l.top a

abbrev pub sees : Lent → ℕ → Seen
sees l a = looked l.memory.now l.top l.closed.now l.«open».now a

-- the memory has its records, and one for the top table, and each page its words
pub record Whole (l : Lent) : Type 0 where
  pub fit : Fit l.memory.now l.top
  pub closed_long : length l.closed.now ≡ slice_index l.memory.now 0 * 1024
  pub open_long : length l.«open».now ≡ slice_index l.memory.now 1 * 1024

-- it is the same memory and top table, and the same slices, as long as before
pub record Kept (before after : Lent) : Type 0 where
  pub memory : after.memory.now ≡ before.memory.now
  pub top : after.top ≡ before.top
  pub same_closed : after.closed.ghost_name ≡ before.closed.ghost_name
  pub same_open : after.«open».ghost_name ≡ before.«open».ghost_name
  pub closed_long : length after.closed.now ≡ length before.closed.now
  pub open_long : length after.«open».now ≡ length before.«open».now
