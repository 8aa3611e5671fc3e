use Rattle.std.proofs.Common.{◌/◌, length, sym, ap, ◌∙◌}
use Rattle.fields.specs.Shapes.{numbers_of}
use Rattle.fields.proofs.Pieces.{length_numbers_in}
use Rattle.fields.proofs.values.Numbers.len.Goals as goal

pub returns-in-Lent : goal.returns-in-Lent
returns-in-Lent c =
    sym (ap (λ n. length (numbers_of n)) c.in-Lent.is ∙ length_numbers_in (length c.in-Lent.bytes.now / 8)
    c.in-Lent.bytes.now)
