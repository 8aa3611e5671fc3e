use Rattle.full_monitor.proofs.Telling.{tells_no_secrets, tells_no_secrets_over_runs}
use Rattle.full_monitor.proofs.promises.tells_no_secrets.Goals as goal

pub returns : goal.returns
returns c = (tells_no_secrets, tells_no_secrets_over_runs)
