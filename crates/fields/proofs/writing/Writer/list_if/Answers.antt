use Rattle.std.proofs.Common.{arith, leb-true}
use Rattle.fields.specs.Shapes.{numbers_of}
use Rattle.fields.proofs.Puts.{length_list, put_none}
use Rattle.fields.proofs.writing.Writer.list_if.Goals as goal

pub list-requires : goal.list-requires
list-requires c =
    let p = rw c.in-Some.is at c.requires in
    (omega (arith, length_list c.in-Some._most (numbers_of c.args.list), p.0), omega (arith, leb-true _ _ p.1))

pub returns-in-None : goal.returns-in-None
returns-in-None c = rw c.in-None.is (put_none c.args.self.now)
