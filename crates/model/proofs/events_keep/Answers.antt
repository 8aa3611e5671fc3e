use Rattle.model.proofs.EventsKeep.{events_invariant, events_blocks}
use Rattle.model.proofs.events_keep.Goals as goal

pub returns : goal.returns
returns c = (events_invariant, events_blocks)
