use Rattle.model.proofs.pages_get.Goals as goal
use Rattle.model.proofs.Answered.{held_gets_zeros, held_gets_open, grown_gets}
use Rattle.model.proofs.Contents.{others_keep}

pub returns : goal.returns
returns c = (held_gets_zeros, (held_gets_open, (grown_gets, others_keep)))
