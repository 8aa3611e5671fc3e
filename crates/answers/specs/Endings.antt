-- How cells come back to the system, as numbers.
use Rattle.std.specs.Prelude.{ℕ}
use Rattle.answers.specs.declared.ending.Ending.{Ending}
use Rattle.answers.specs.declared.ending.Ending.TheVariants.{Left, Interrupted, Faulted}

-- 0 it left, 1 it was interrupted, 2 it had a fault
abbrev pub how_of : Ending → ℕ
how_of (Left n) = 0
how_of Interrupted = 1
how_of (Faulted n) = 2

-- the number that it left with, or the kind of the fault
abbrev pub told_of : Ending → ℕ
told_of (Left n) = n
told_of Interrupted = 0
told_of (Faulted n) = n
