use Rattle.model.proofs.one_cell_plays.Goals as goal
use Rattle.model.proofs.Table.{one_cell_plays, one_name_plays, refusals_play}

pub returns : goal.returns
returns c = (one_cell_plays, (one_name_plays, refusals_play))
