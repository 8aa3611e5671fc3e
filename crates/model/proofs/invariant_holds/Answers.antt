use Rattle.model.proofs.invariant_holds.Goals as goal
use Rattle.model.proofs.InvHolds.{invariant_holds, registers_good}

pub returns : goal.returns
returns c = (invariant_holds, registers_good)
