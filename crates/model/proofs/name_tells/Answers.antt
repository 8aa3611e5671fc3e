use Rattle.model.proofs.Built.{measured_is_built}
use Rattle.model.proofs.InvHolds.{invariant_holds}
use Rattle.model.proofs.SameBuilt.{same_measured_same_built}
use Rattle.model.proofs.name_tells.Goals as goal

pub returns : goal.returns
returns c = (measured_is_built, same_measured_same_built invariant_holds)
