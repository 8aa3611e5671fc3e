use Rattle.model.proofs.nothing_gets_in.Goals as goal
use Rattle.model.proofs.Integrity.{integrity_of_calls, integrity_of_runs, integrity_over_runs}

pub returns : goal.returns
returns c = (integrity_of_calls, (integrity_of_runs, integrity_over_runs))
