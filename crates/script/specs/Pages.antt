-- Pages, by whose they are.
use Rattle.std.specs.Prelude.{Bool, true, false}
use Rattle.script.specs.declared.page.Side.{Side}
use Rattle.script.specs.declared.page.Side.TheVariants.{Open, Closed}

-- whether a page is an open one
abbrev pub is_open : Side → Bool
is_open Open = true
is_open Closed = false
