use Rattle.model.proofs.sealed_stays.Goals as goal
use Rattle.model.proofs.SealedStays.{sealed_stays}

pub returns : goal.returns
returns c = sealed_stays
