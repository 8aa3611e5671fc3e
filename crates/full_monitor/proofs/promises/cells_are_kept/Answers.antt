use Rattle.full_monitor.proofs.Staying.{cells_are_kept, cells_are_kept_over_runs}
use Rattle.full_monitor.proofs.promises.cells_are_kept.Goals as goal

pub returns : goal.returns
returns c = (cells_are_kept, cells_are_kept_over_runs)
