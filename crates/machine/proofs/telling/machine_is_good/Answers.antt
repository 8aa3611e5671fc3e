use Rattle.machine.proofs.GoodMade.{good_everywhere}
use Rattle.machine.proofs.telling.machine_is_good.Goals as goal

pub returns : goal.returns
returns c = good_everywhere
