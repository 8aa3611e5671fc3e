-- What the monitor's code meets: calls that bytes can carry, and pages that were written. A state that these make.
use Rattle.std.specs.Prelude.{◌≡◌, ℕ, ◌<◌, Bool, true, ◌&&◌, List, [], ◌∷◌, length, Some, None, Option, nat_le, nat_lt, slice_set}
use Rattle.model.specs.Calls.{Place, SystemCall, CellCall, Call, by_system, by_cell, garbled}
use Rattle.model.specs.Calls.{how_many, new_cell, new_thread, new_table, hold, give, show, remove, seal, stop, enter, resume}
use Rattle.model.specs.Calls.{leave, interrupt, fault, grow, shrink, extend, who, draw}
use Rattle.model.specs.State.{Limits, State, new_state, Page, with_contents, with_open_pages}
use Rattle.model.specs.Monitor.{after}

-- What happens to the state: a call; a closed page is written, by the cell that sees it; an open one is.
pub data Event : Type 0 where
  called : Call → Event
  wrote : ℕ → List ℕ → Event
  wrote_open : ℕ → List ℕ → Event

unfoldable pub event : Limits → State → Event → State
event l s (called c) = after l s c
event l s (wrote p ws) = with_contents s (slice_set s.contents p ws)
event l s (wrote_open o ws) = with_open_pages s (slice_set s.open_pages o ws)

-- The state that events make, the last one first.
unfoldable pub state : Limits → List Event → State
state l [] = new_state l
state l (e ∷ es) = event l (state l es) e

-- What is written is a page, and there is such a page.
unfoldable pub Paged : Limits → Event → Type 0
Paged l (called c) = Unit {0}
Paged l (wrote p ws) = (p < l.pages) × Page l ws
Paged l (wrote_open o ws) = (o < l.opens) × Page l ws

abbrev pub AllPaged : Limits → List Event → Type 0
AllPaged l [] = Unit {0}
AllPaged l (e ∷ es) = Paged l e × AllPaged l es

-- Numbers are carried in eight bytes, and how many registers there are in one.
abbrev pub carried : ℕ → Bool
carried n = nat_lt n 18446744073709551616

unfoldable pub all_carried : List ℕ → Bool
all_carried [] = true
all_carried (x ∷ xs) = carried x && all_carried xs

unfoldable pub option_carried : Option ℕ → Bool
option_carried None = true
option_carried (Some x) = carried x

abbrev pub place_carried : Place → Bool
place_carried w = carried w.table && carried w.slot

unfoldable pub system_carried : SystemCall → Bool
system_carried how_many = true
system_carried (new_cell p t) = carried p && carried t
system_carried (new_thread p c a) = carried p && (carried c && carried a)
system_carried (new_table p c i) = carried p && (carried c && carried i)
system_carried (hold p c w o) = (carried p && carried c) && (place_carried w && option_carried o)
system_carried (give p c) = carried p && carried c
system_carried (show o c w) = carried o && (carried c && place_carried w)
system_carried (remove p) = carried p
system_carried (seal c) = carried c
system_carried (stop c) = carried c
system_carried (enter t x y z) = (carried t && carried x) && (carried y && carried z)
system_carried (resume t) = carried t

unfoldable pub cell_carried : CellCall → Bool
cell_carried (leave n) = carried n
cell_carried (interrupt rs) = nat_le (length rs) 255 && all_carried rs
cell_carried (fault n) = carried n
cell_carried (grow p w) = carried p && place_carried w
cell_carried (shrink p w) = carried p && place_carried w
cell_carried (extend p i) = carried p && carried i
cell_carried who = true
cell_carried (draw n) = carried n

unfoldable pub call_carried : Call → Bool
call_carried (by_system c) = system_carried c
call_carried (by_cell c) = cell_carried c
call_carried (garbled n) = carried n

-- An event that the code can meet.
unfoldable pub Readable : Limits → Event → Type 0
Readable l (called c) = call_carried c ≡ true
Readable l (wrote p ws) = (p < l.pages) × Page l ws
Readable l (wrote_open o ws) = (o < l.opens) × Page l ws

abbrev pub AllReadable : Limits → List Event → Type 0
AllReadable l [] = Unit {0}
AllReadable l (e ∷ es) = Readable l e × AllReadable l es
