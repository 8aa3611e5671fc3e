use Rattle.std.proofs.Common.{◌+◌, ◌*◌, sym, ap, ◌∙◌, arith, le-leb}
use Rattle.fields.specs.Shapes.{numbers_of}
use Rattle.fields.proofs.Puts.{length_list}
use Rattle.fields.proofs.writing.list_size.Goals as goal

pub returns : goal.returns
returns c =
    rw c.in-Some.is (
      le-leb _ _ (omega (arith, c.len-count.ensures)),
      ap (λ n. 1 + 8 * n) c.len-count.ensures ∙ sym (length_list c.in-Some.most (numbers_of c.args.list)),
      omega arith,
    )
