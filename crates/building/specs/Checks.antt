-- The checks of the calls that build a cell, over the memory, in their order.
use Rattle.std.specs.Prelude.{ℕ, Bool, true, not, ◌&&◌, List, [], ◌∷◌, is_some, Some, None, Option, ◌==◌, nat_lt}
use Rattle.model.specs.Calls.{Place}
use Rattle.model.specs.Refusals.{Check, ◌else◌}
use Rattle.lookups.specs.Lookups.{there, open_there, record_of, is_free, cell_of, is_building, is_sealed, is_stopped, table_by, vacant_by}

-- a page that is there, and free
abbrev pub free_checks : List ℕ → ℕ → List Check
free_checks m p = there m p else 3 ∷ is_free (record_of m p) else 4 ∷ []

-- a new cell: its first page, and its top table's
abbrev pub make_checks : List ℕ → ℕ → ℕ → List Check
make_checks m p t =
    ((there m p && there m t) && not (p == t)) else 3 ∷ (is_free (record_of m p) && is_free (record_of m t)) else 4 ∷ []

-- a new thread in a cell
abbrev pub start_checks : List ℕ → ℕ → ℕ → List Check
start_checks m p c =
    is_some (cell_of m c) else 5 ∷ there m p else 3 ∷ is_free (record_of m p) else 4 ∷ not (is_stopped (cell_of m c)) else 13
    ∷ not (is_sealed (cell_of m c)) else 6 ∷ []

-- a new table in a cell, at a place of its top table
abbrev pub add_checks : List ℕ → ℕ → ℕ → ℕ → List Check
add_checks m p c i =
    nat_lt i 256 else 8 ∷ is_some (cell_of m c) else 5 ∷ not (is_stopped (cell_of m c)) else 13
    ∷ not (is_some (table_by m (cell_of m c) i)) else 9 ∷ there m p else 3 ∷ is_free (record_of m p) else 4
    ∷ not (is_sealed (cell_of m c)) else 6 ∷ []

-- whether an open page is there, or none is asked for
abbrev pub source_there : List ℕ → Option ℕ → Bool
source_there m None = true
source_there m (Some o) = open_there m o

-- a page that a cell holds
abbrev pub hold_checks : List ℕ → ℕ → ℕ → Place → Option ℕ → List Check
hold_checks m p c w o =
    is_some (cell_of m c) else 5 ∷ is_building (cell_of m c) else 6 ∷ is_some (vacant_by m (cell_of m c) w) else 8
    ∷ source_there m o else 3 ∷ there m p else 3 ∷ is_free (record_of m p) else 4 ∷ []

-- a spare page for a cell
abbrev pub give_checks : List ℕ → ℕ → ℕ → List Check
give_checks m p c =
    is_some (cell_of m c) else 5 ∷ there m p else 3 ∷ is_free (record_of m p) else 4 ∷ not (is_stopped (cell_of m c)) else 13 ∷ []

-- an open page that a cell is shown
abbrev pub show_checks : List ℕ → ℕ → ℕ → Place → List Check
show_checks m o c w =
    is_some (cell_of m c) else 5 ∷ is_building (cell_of m c) else 6 ∷ is_some (vacant_by m (cell_of m c) w) else 8
    ∷ open_there m o else 3 ∷ []
