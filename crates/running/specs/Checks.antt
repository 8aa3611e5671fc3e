-- The checks of entering and resuming a thread, over the memory, in their order.
use Rattle.std.specs.Prelude.{ℕ, Bool, false, not, List, [], ◌∷◌, is_some, Some, None, Option}
use Rattle.model.specs.Refusals.{Check, ◌else◌}
use Rattle.lookups.specs.Lookups.{cell_of, thread_of, is_sealed}
use Rattle.lookups.specs.declared.Thread.{Thread}

-- whether a thread's cell is sealed
abbrev pub may_run : List ℕ → Option Thread → Bool
may_run m None = false
may_run m (Some x) = is_sealed (cell_of m x.cell)

abbrev pub goes : Option Thread → Bool
goes None = false
goes (Some x) = x.under_way

abbrev pub enter_checks : List ℕ → ℕ → List Check
enter_checks m t = is_some (thread_of m t) else 3 ∷ may_run m (thread_of m t) else 7 ∷ not (goes (thread_of m t)) else 11 ∷ []

abbrev pub resume_checks : List ℕ → ℕ → List Check
resume_checks m t = is_some (thread_of m t) else 3 ∷ may_run m (thread_of m t) else 7 ∷ goes (thread_of m t) else 12 ∷ []
