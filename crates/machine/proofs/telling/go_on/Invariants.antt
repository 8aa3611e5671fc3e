use Rattle.std.proofs.Common.{◌≡◌, ◌-◌, ◌≤◌, take}
use Rattle.std.specs.Iterator.Adapters.{zip_first, zip_second}
use Rattle.fields.specs.Shapes.{numbers_of}
use Rattle.machine.specs.Came.{told_on, goes_on}
use Rattle.machine.proofs.telling.go_on.Given as goal

abbrev pub invariant-loop-index : goal.invariant-loop-index
invariant-loop-index l =
    let at = zip_first l.index-iterator in
    let rest = zip_second l.index-iterator in
    (at.«end» ≡ 9) × (1 ≤ at.start) × (at.start ≤ 9)
    × (goes_on l.fn.registers.words l.fn.error (numbers_of l.fn.numbers) ≡ told_on at.start (take (9 - at.start) rest) l.registers.words)
