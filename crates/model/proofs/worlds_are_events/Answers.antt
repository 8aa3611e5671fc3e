use Rattle.model.proofs.EventsMade.{worlds_are_events}
use Rattle.model.proofs.InvHolds.{invariant_holds, registers_good}
use Rattle.model.proofs.worlds_are_events.Goals as goal

pub returns : goal.returns
returns c = worlds_are_events invariant_holds registers_good
