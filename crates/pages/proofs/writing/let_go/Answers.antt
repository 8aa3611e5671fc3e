use Rattle.std.proofs.Common.{◌+◌, ◌*◌, replicate, ap, ◌∙◌, add-zero}
use Rattle.pages.specs.Flat.{list_put}
use Rattle.pages.specs.Rows.{row_put}
use Rattle.pages.proofs.Records.{zeros_free}
use Rattle.pages.proofs.writing.let_go.Goals as goal

pub returns : goal.returns
returns c =
    c.clear.ensures ∙ ap (λ i. list_put c.args.memory.now i (replicate 2048 0)) (add-zero (256 + c.args.page * 2048))
    ∙ ap (row_put c.args.memory.now c.args.page) zeros_free
