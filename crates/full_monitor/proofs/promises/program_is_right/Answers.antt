use Rattle.full_monitor.proofs.Keeping.{right, refusal_keeps, error_keeps, enough_memory}
use Rattle.full_monitor.proofs.GoingOn.{goes_on}
use Rattle.full_monitor.proofs.promises.program_is_right.Goals as goal

pub returns : goal.returns
returns c = (right, (refusal_keeps, (error_keeps, (enough_memory, goes_on))))
