-- The checks of the calls by which a cell grows and shrinks, over the memory, in their order. What they answer is an error, which the cell
-- is told.
use Rattle.std.specs.Prelude.{ℕ, Bool, not, ◌&&◌, List, [], ◌∷◌, is_some, nat_lt}
use Rattle.model.specs.Calls.{Place}
use Rattle.model.specs.Refusals.{Check, ◌else◌}
use Rattle.lookups.specs.Lookups.{record_of, spare_in, held_in, is_part, table_of, vacant, showing}
use Rattle.lookups.specs.declared.Caller.{Caller}

-- whether a page is the caller's, and spare; and held
abbrev pub own_spare : List ℕ → Caller → ℕ → Bool
own_spare m k p = is_part (spare_in (record_of m p)) k.cell

abbrev pub own_held : List ℕ → Caller → ℕ → Bool
own_held m k p = is_part (held_in (record_of m p)) k.cell

-- whether a place is one of a cell's tables
abbrev pub in_range : Place → Bool
in_range w = nat_lt w.table 256 && nat_lt w.slot 1024

abbrev pub grow_checks : List ℕ → Caller → ℕ → Place → List Check
grow_checks m k p w = own_spare m k p else 3 ∷ (in_range w && is_some (vacant m k.top w)) else 8 ∷ []

abbrev pub shrink_checks : List ℕ → Caller → ℕ → Place → List Check
shrink_checks m k p w = own_held m k p else 3 ∷ (in_range w && is_some (showing m k.top w p)) else 8 ∷ []

abbrev pub extend_checks : List ℕ → Caller → ℕ → ℕ → List Check
extend_checks m k p i = nat_lt i 256 else 8 ∷ own_spare m k p else 3 ∷ not (is_some (table_of m k.top i)) else 9 ∷ []
