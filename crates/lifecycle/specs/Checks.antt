-- The checks of the calls that remove pages, and seal and stop cells, over the memory, in their order.
use Rattle.std.specs.Prelude.{ℕ, Bool, true, not, ◌&&◌, ◌||◌, List, [], ◌∷◌, is_some, Some, None, Option, slice_index}
use Rattle.model.specs.Refusals.{Check, ◌else◌}
use Rattle.lookups.specs.Lookups.{there, record_of, is_first, part_of, spare_in, cell_of, is_building, is_sealed, is_stopped, has_parts}

-- whether a page may be taken from the cell that it is a part of: that is stopped, or sealed, and the page is spare
abbrev pub may_go : List ℕ → ℕ → Option ℕ → Bool
may_go m p None = true
may_go m p (Some c) = is_stopped (cell_of m c) || (is_sealed (cell_of m c) && is_some (spare_in (record_of m p)))

abbrev pub remove_checks : List ℕ → ℕ → List Check
remove_checks m p =
    there m p else 3 ∷ not (is_first (record_of m p) && has_parts (slice_index m 0) m p) else 4 ∷ may_go m p (part_of (record_of m p))
    else 10 ∷ []

abbrev pub seal_checks : List ℕ → ℕ → List Check
seal_checks m c = is_some (cell_of m c) else 5 ∷ is_building (cell_of m c) else 6 ∷ []

abbrev pub stop_checks : List ℕ → ℕ → List Check
stop_checks m c = is_some (cell_of m c) else 5 ∷ []
