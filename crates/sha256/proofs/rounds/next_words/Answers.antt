use Rattle.std.proofs.Common.{arith}
use Rattle.sha256.proofs.Lanes.{next_is}
use Rattle.sha256.proofs.rounds.next_words.Goals as goal

pub returns : goal.returns
returns c =
    let w = c.args.w in
    next_is w.w0 w.w4 w.w8 w.w12 _ _ _ (omega arith) (omega arith) (omega arith) (omega arith)
    c.small_sigma.ensures c.small_sigma-2.ensures c.small_sigma-3.ensures
