use Rattle.sha256.proofs.Bitwise.{maj_is}
use Rattle.sha256.proofs.functions.majority.Goals as goal

pub returns : goal.returns
returns c = maj_is c.args.x c.args.y c.args.z
