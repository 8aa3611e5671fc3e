use Rattle.std.proofs.Common.{◌≡◌, length, arith}
use Rattle.sha256.proofs.Elements.{four}
use Rattle.sha256.proofs.functions.small_sigma.Goals as goal

pub returns : goal.returns
returns g c =
    let h : length c.args.x ≡ 4 = omega arith in
    rw (c.rotate_right.ensures, c.rotate_right-2.ensures, four c.args.x h)
