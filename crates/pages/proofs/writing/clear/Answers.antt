use Rattle.std.proofs.Common.{◌+◌, ◌*◌, replicate, sym, ap, ◌∙◌, add-zero, arith}
use Rattle.pages.specs.Flat.{list_put}
use Rattle.pages.proofs.Lists.{part_zeros}
use Rattle.pages.proofs.writing.clear.Goals as goal

pub returns : goal.returns
returns c =
    part_zeros c.start_of-start.result c.args.count c.args.memory.now c.fill.new.self (omega arith) (c.fill.ensures.after (λ y h. h))
    ∙ ap (λ i. list_put c.args.memory.now i (replicate c.args.count 0))
    (c.start_of-start.ensures ∙ sym (add-zero (256 + c.args.page * 2048)))
