use Rattle.model.proofs.processors_are_machines.Goals as goal
use Rattle.model.proofs.GoodProcessor.{processors_are_machines}
use Rattle.model.proofs.InPlace.{plays_in_place}

pub returns : goal.returns
returns c = (processors_are_machines, plays_in_place)
