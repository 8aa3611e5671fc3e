use Rattle.std.proofs.Common.{◌≡◌, false}
use Rattle.lookups.specs.Lookups.{has_parts}
use Rattle.lookups.proofs.memory.Memory.has_parts.Given as goal

abbrev pub invariant-pages : goal.invariant-pages
invariant-pages l = (has_parts l.page l.self l.cell ≡ false) × (l.found ≡ false)
