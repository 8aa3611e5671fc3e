use Rattle.std.proofs.Common.{◌≡◌, length, arith}
use Rattle.sha256.proofs.Elements.{four}
use Rattle.sha256.proofs.functions.rotate_right.Goals as goal

pub returns : goal.returns
returns c = let h : length c.args.x ≡ 4 = omega arith in rw (four c.args.x h)
