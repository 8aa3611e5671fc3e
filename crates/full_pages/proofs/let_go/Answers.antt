use Rattle.std.proofs.Common.{replicate, ap, ◌∙◌, arith}
use Rattle.pages.specs.Rows.{numbers_put}
use Rattle.full_pages.specs.Meaning.{used}
use Rattle.full_pages.proofs.Records.{used_few}
use Rattle.full_pages.proofs.let_go.Goals as goal

pub clear-requires : goal.clear-requires
clear-requires c = (c.requires, omega (arith, c.used-count.ensures, used_few c.record_at.result))

pub returns : goal.returns
returns c =
    c.clear.ensures
    ∙ ap (λ n. numbers_put c.args.memory.now c.args.page 0 (replicate n 0)) (c.used-count.ensures ∙ ap used c.record_at.ensures)
