use Rattle.model.proofs.calls_keep.Goals as goal
use Rattle.model.proofs.Edits.{open_pages_stay}
use Rattle.model.proofs.Answered.{refused_keeps, error_keeps}

pub returns : goal.returns
returns c = (open_pages_stay, (refused_keeps, error_keeps))
