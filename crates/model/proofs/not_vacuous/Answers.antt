use Rattle.model.proofs.not_vacuous.Goals as goal
use Rattle.model.proofs.Secret.{not_vacuous}

pub returns : goal.returns
returns c = not_vacuous
