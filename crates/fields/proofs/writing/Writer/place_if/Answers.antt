use Rattle.std.proofs.Common.{arith}
use Rattle.fields.specs.Shapes.{place_of}
use Rattle.fields.proofs.Puts.{length_place, put_none}
use Rattle.fields.proofs.writing.Writer.place_if.Goals as goal

pub place-requires : goal.place-requires
place-requires c = omega (arith, length_place (place_of c.args.place), rw c.if-there.true at c.requires)

pub returns-then-there : goal.returns-then-there
returns-then-there c = rw c.if-there.true c.place.ensures

pub returns-else-there : goal.returns-else-there
returns-else-there c = rw c.if-there.false (put_none c.args.self.now)
