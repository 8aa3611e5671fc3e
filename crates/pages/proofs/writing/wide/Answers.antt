use Rattle.std.proofs.Common.{get_or, sym, ◌∙◌, arith, length-set}
use Rattle.std.proofs.lemmas.List.{take_all, take_more_set, take_more}
use Rattle.pages.proofs.writing.wide.Goals as goal

pub loop-i-preserved : goal.loop-i-preserved
loop-i-preserved c =
    let e = take_more_set c.loop-i.numbers c.loop-i.i (get_or c.args.registers.words c.loop-i.i 0) (omega arith) in
    let f = take_more c.args.registers.words c.loop-i.i 0 (omega arith) in
    (cc, simp length-set c.loop-i.invariant.1)

pub returns : goal.returns
returns c =
    sym (take_all c.loop-i.i c.loop-i.numbers (omega arith)) ∙ c.loop-i.invariant.0
    ∙ take_all c.loop-i.i c.args.registers.words (omega arith)
