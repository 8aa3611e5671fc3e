use Rattle.std.proofs.Common.{arith}
use Rattle.script.proofs.Standing.{interrupt_stands}
use Rattle.script.proofs.lists.put_interrupt.Goals as goal

pub returns : goal.returns
returns c =
    let w = c.in_ok-count.ensures in
    (w.0, w.1, interrupt_stands c.args.bytes.now _ w.0 _ w.2 w.3 (omega arith) w.4)
