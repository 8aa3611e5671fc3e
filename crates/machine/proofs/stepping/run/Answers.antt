use Rattle.std.proofs.Common.{rules, arith}
use Rattle.machine.proofs.Right.{refined}
use Rattle.machine.proofs.Steps.{left_in}
use Rattle.machine.proofs.stepping.run.Goals as goal

pub returns-clause-runs : goal.returns-clause-runs
returns-clause-runs c = left_in _ _ _ _ _ c.go.new.lent _ _ _ _ (search rules) (search rules) c.go.ensures.runs

pub returns-clause-refines : goal.returns-clause-refines
returns-clause-refines c =
    refined _ _ _ _ _ _ _ c.go.result (omega (arith, c.ranges.chance.fits))
    (left_in _ _ _ _ _ c.go.new.lent _ _ _ _ (search rules) (search rules) c.go.ensures.runs)
