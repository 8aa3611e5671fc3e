use Rattle.std.proofs.Common.{◌≡◌, ℕ, List, ◌++◌}
use Rattle.std.specs.Fmt.{HasWritten, IsPlainFormatter}
use Rattle.fields.specs.Shapes.{numbers_of}
use Rattle.script.specs.Shown.{spaced}
use Rattle.script.proofs.showing.SpacedDisplay.fmt.Given as goal

abbrev pub invariant-loop-number : goal.invariant-loop-number
invariant-loop-number g l =
    IsPlainFormatter l.initial.f →
    (done : List ℕ) × HasWritten g.W.Write.write_str_gives l.initial.f done l.f
    × (done ++ spaced l.number-iterator ≡ spaced (numbers_of l.fn.self.0))
