use Rattle.std.proofs.Common.{arith}
use Rattle.fields.specs.Bytes.{numbers_bytes}
use Rattle.fields.proofs.Puts.{put_more}
use Rattle.fields.proofs.writing.Writer.place.Goals as goal

pub byte-requires : goal.byte-requires
unfolding numbers_bytes
byte-requires c = omega (arith, c.numbers.ensures.wrote.ends, c.numbers.ensures.wrote.long)

pub returns : goal.returns
unfolding numbers_bytes
returns c =
    put_more c.args.self.now c.numbers.new.self c.byte.new.self _ _ c.numbers.ensures
    (rw c.rights_of.ensures at c.byte.ensures) (omega arith)
