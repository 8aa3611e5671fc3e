use Rattle.std.proofs.Common.{arith}
use Rattle.sha256.proofs.Bitwise.{ch_is}
use Rattle.sha256.proofs.functions.choose.Goals as goal

pub returns : goal.returns
returns c = ch_is c.args.x c.args.y c.args.z (omega arith) (omega arith) (omega arith)
