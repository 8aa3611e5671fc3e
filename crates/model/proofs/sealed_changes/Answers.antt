use Rattle.model.proofs.sealed_changes.Goals as goal
use Rattle.model.proofs.Becoming.{giving, taking_back, stopping, writing}

pub returns : goal.returns
returns c = (giving, (taking_back, (stopping, writing)))
