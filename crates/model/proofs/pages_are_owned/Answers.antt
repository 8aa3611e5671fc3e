use Rattle.model.proofs.pages_are_owned.Goals as goal
use Rattle.model.proofs.InvHolds.{of_one_cell, sees_its_own, at_one_place, sealed_runs}

pub returns : goal.returns
returns c = (of_one_cell, (sees_its_own, (at_one_place, sealed_runs)))
