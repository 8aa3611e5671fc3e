use Rattle.std.proofs.Common.{◌/◌, length, arith}
use Rattle.std.proofs.lemmas.Option.{gets}
use Rattle.fields.proofs.Fronts.{number_of_chunks}
use Rattle.fields.proofs.numbers.lent_at.Goals as goal

pub returns : goal.returns
returns c =
    let n = number_of_chunks (length c.args.bytes.now / 8) c.args.index c.args.bytes.now in
    grind (arith, gets, n, c.as_chunks.ensures.front, c.get.ensures.lookup, c.map.ensures.cases)
