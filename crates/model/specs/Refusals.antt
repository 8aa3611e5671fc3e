-- Why a call is refused, and which error a cell is told. Each call has its checks in a list, and the first that fails is named.
--
--  1 bytes that are no call               8 a place without a table, with something there, or beyond the top table
--  2 out of range, or not in this stage   9 a place of the top table in use
--  3 a page that is not there            10 a page of a cell that is not stopped
--  4 a page in use                       11 to be entered, and under way
--  5 not a cell                          12 to be resumed, and not under way
--  6 a cell sealed or stopped already    13 a cell that is stopped
--  7 a thread of a cell not sealed       14 a call by the system while a cell runs, or by a cell when none does
use Rattle.std.specs.Prelude.{ℕ, Bool, true, false, cond, not, ◌&&◌, ◌||◌, List, [], ◌∷◌, is_some, Some, None, Option, ◌==◌, nat_lt}
use Rattle.std.specs.Option.{unwrap_or, option_map}
use Rattle.model.specs.Calls.{Place, SystemCall, CellCall, Call, by_system, by_cell, garbled, system_number, cell_number}
use Rattle.model.specs.Calls.{how_many, new_cell, new_thread, new_table, hold, give, show, remove, seal, stop, enter, resume}
use Rattle.model.specs.Calls.{leave, interrupt, fault, grow, shrink, extend, who, draw}
use Rattle.model.specs.Answers.{Refusal}
use Rattle.model.specs.Pages.{building, sealed, stopped, kind, part_of, ◌is◌, is_free, is_cell, is_thread, is_held, is_spare, is_in}
use Rattle.model.specs.Pages.{is_under_way, has_parts, table_at, slot_at, is_nothing, closed_in}
use Rattle.model.specs.State.{Limits, State, entry, word, seventeen, Caller, caller, is_owner_in}

infix 68 ◌else◌
-- A check: what must hold, and the number that is answered otherwise.
pub record Check : Type 0 where
  pub holds : Bool
  pub otherwise : ℕ

abbrev pub ◌else◌ : Bool → ℕ → Check
b else k = record { holds = b; otherwise = k }

-- The number of the first check that fails.
abbrev pub failing : List Check → Option ℕ
failing [] = None
failing (c ∷ cs) = cond c.holds (failing cs) (Some c.otherwise)

-- Whether a page is there; a cell; a thread.
abbrev pub there : Limits → ℕ → Bool
there l p = nat_lt p l.pages

abbrev pub cell_there : Limits → State → ℕ → Bool
cell_there l s c = there l c && is_cell (entry s c)

abbrev pub thread_there : Limits → State → ℕ → Bool
thread_there l s t = there l t && is_thread (entry s t)

-- Whether an open page is there, or none is asked for.
unfoldable pub open_there : Limits → Option ℕ → Bool
open_there l None = true
open_there l (Some o) = nat_lt o l.opens

-- Whether a page may be seen there: there is a table, and nothing in its slot.
abbrev pub vacant : State → ℕ → Place → Bool
vacant s c w = is_some (table_at s.entries c w.table) && is_nothing (slot_at s.entries c w)

abbrev pub has_table : State → ℕ → ℕ → Bool
has_table s c i = is_some (table_at s.entries c i)

-- Whether a thread's cell is sealed.
abbrev pub may_run : State → ℕ → Bool
may_run s t = is_owner_in sealed s.entries (part_of (kind (entry s t)))

-- Whether a page may be taken from its cell: that is stopped, or sealed, and the page is spare. A page that is no part of a cell may.
abbrev pub may_go : State → ℕ → Bool
may_go s p =
    let c : Option ℕ = part_of (kind (entry s p)) in
    not (is_some c) || (is_owner_in stopped s.entries c || (is_owner_in sealed s.entries c && is_spare (entry s p)))

-- The checks of a call by the system, in order.
unfoldable pub system_checks : Limits → State → SystemCall → List Check
system_checks l s how_many = []
system_checks l s (new_cell p t) =
    ((there l p && there l t) && not (p == t)) else 3 ∷ (is_free (entry s p) && is_free (entry s t)) else 4 ∷ []
system_checks l s (new_thread p c a) =
    cell_there l s c else 5 ∷ there l p else 3 ∷ is_free (entry s p) else 4 ∷ not (is_in stopped (entry s c)) else 13
    ∷ not (is_in sealed (entry s c)) else 6 ∷ []
system_checks l s (new_table p c i) =
    nat_lt i l.places else 8 ∷ cell_there l s c else 5 ∷ not (is_in stopped (entry s c)) else 13 ∷ not (has_table s c i) else 9
    ∷ there l p else 3 ∷ is_free (entry s p) else 4 ∷ not (is_in sealed (entry s c)) else 6 ∷ []
system_checks l s (hold p c w o) =
    cell_there l s c else 5 ∷ is_in building (entry s c) else 6 ∷ vacant s c w else 8 ∷ open_there l o else 3
    ∷ there l p else 3 ∷ is_free (entry s p) else 4 ∷ []
system_checks l s (give p c) =
    cell_there l s c else 5 ∷ there l p else 3 ∷ is_free (entry s p) else 4 ∷ not (is_in stopped (entry s c)) else 13 ∷ []
system_checks l s (show o c w) =
    cell_there l s c else 5 ∷ is_in building (entry s c) else 6 ∷ vacant s c w else 8 ∷ open_there l (Some o) else 3 ∷ []
system_checks l s (remove p) =
    there l p else 3 ∷ not (is_cell (entry s p) && has_parts s.entries p) else 4 ∷ may_go s p else 10 ∷ []
system_checks l s (seal c) = cell_there l s c else 5 ∷ is_in building (entry s c) else 6 ∷ []
system_checks l s (stop c) = cell_there l s c else 5 ∷ []
system_checks l s (enter t x y z) = thread_there l s t else 3 ∷ may_run s t else 7 ∷ not (is_under_way (entry s t)) else 11 ∷ []
system_checks l s (resume t) = thread_there l s t else 3 ∷ may_run s t else 7 ∷ is_under_way (entry s t) else 12 ∷ []

-- Whether a page is the caller's, and spare; and held.
abbrev pub own_spare : Limits → State → Caller → ℕ → Bool
own_spare l s k p = (there l p && is_spare (entry s p)) && (part_of (kind (entry s p)) is k.cell)

abbrev pub own_held : Limits → State → Caller → ℕ → Bool
own_held l s k p = (there l p && is_held (entry s p)) && (part_of (kind (entry s p)) is k.cell)

-- Whether a place is one of a cell's tables.
abbrev pub in_range : Limits → Place → Bool
in_range l w = nat_lt w.table l.places && nat_lt w.slot l.slots

-- The checks of a call by a cell, in order. What they answer is an error, which the cell is told.
unfoldable pub cell_checks : Limits → State → Caller → CellCall → List Check
cell_checks l s k (leave n) = []
cell_checks l s k (interrupt rs) = []
cell_checks l s k (fault n) = []
cell_checks l s k (grow p w) = own_spare l s k p else 3 ∷ (in_range l w && vacant s k.cell w) else 8 ∷ []
cell_checks l s k (shrink p w) = own_held l s k p else 3 ∷ (closed_in (slot_at s.entries k.cell w) is p) else 8 ∷ []
cell_checks l s k (extend p i) =
    nat_lt i l.places else 8 ∷ own_spare l s k p else 3 ∷ not (has_table s k.cell i) else 9 ∷ []
cell_checks l s k who = []
cell_checks l s k (draw n) = []

-- The error that a cell is told, or 0.
abbrev pub error : Limits → State → Caller → CellCall → ℕ
error l s k c = unwrap_or (failing (cell_checks l s k c)) 0

-- Whether the numbers of a call are in range.
unfoldable pub system_fits : Limits → SystemCall → Bool
system_fits l how_many = true
system_fits l (new_cell p t) = true
system_fits l (new_thread p c a) = word a
system_fits l (new_table p c i) = true
system_fits l (hold p c w o) = in_range l w
system_fits l (give p c) = true
system_fits l (show o c w) = in_range l w
system_fits l (remove p) = true
system_fits l (seal c) = true
system_fits l (stop c) = true
system_fits l (enter t x y z) = word x && (word y && word z)
system_fits l (resume t) = true

unfoldable pub cell_fits : CellCall → Bool
cell_fits (leave n) = word n
cell_fits (interrupt rs) = seventeen rs
cell_fits (fault n) = word n
cell_fits (grow p w) = true
cell_fits (shrink p w) = true
cell_fits (extend p i) = true
cell_fits who = true
cell_fits (draw n) = word n

-- The checks of any call, but for bytes that are none: first the range, then whether the caller may call now.
unfoldable pub checks : Limits → State → Call → List Check
checks l s (by_system c) = (l.can (system_number c) && system_fits l c) else 2 ∷ not (is_some s.running) else 14 ∷ system_checks l s c
checks l s (by_cell c) = (l.can (cell_number c) && cell_fits c) else 2 ∷ is_some (caller s) else 14 ∷ []
checks l s (garbled n) = false else 1 ∷ []

-- Where a refusal points in the call's bytes.
unfoldable pub place : Call → ℕ
place (by_system c) = 0
place (by_cell c) = 0
place (garbled n) = n

-- Why a call is refused, if it is.
abbrev pub refusal : Limits → State → Call → Option Refusal
refusal l s c = option_map (λ k. record { number = k; place = place c }) (failing (checks l s c))
