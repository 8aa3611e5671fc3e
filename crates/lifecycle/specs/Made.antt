-- What they make of the memory, where they are taken.
use Rattle.std.specs.Prelude.{ℕ, List}
use Rattle.model.specs.Pages.{Phase, phase_number}
use Rattle.pages.specs.Rows.{number_put}

abbrev pub in_phase : List ℕ → ℕ → Phase → List ℕ
in_phase m c f = number_put m c 3 (phase_number f)
