use Rattle.monitor.proofs.Staged.{stage}
use Rattle.monitor.proofs.stage_stands.Goals as goal

pub returns : goal.returns
returns c = record { answers = λ l h x. (stage l h x).0; keeps = λ l h x. (stage l h x).1 }
