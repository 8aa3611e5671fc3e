use Rattle.std.proofs.Common.{◌≡◌, take, arith}
use Rattle.std.proofs.lemmas.List.{take_all}
use Rattle.fields.specs.Bytes.{numbers_bytes}
use Rattle.fields.proofs.Puts.{put_none, put_next, room_next}
use Rattle.fields.proofs.writing.Writer.numbers.Goals as goal

pub loop-number-init : goal.loop-number-init
unfolding numbers_bytes
loop-number-init c = put_none c.args.self.now

pub number-requires : goal.number-requires
number-requires c =
    room_next c.args.self.now c.loop-number.self c.args.numbers.now c.loop-number.number-index (omega arith) (omega arith)
    c.loop-number.invariant

pub loop-number-preserved : goal.loop-number-preserved
loop-number-preserved c =
    put_next c.args.self.now c.loop-number.self _ c.args.numbers.now c.loop-number.number-index (omega arith) (omega arith)
    c.loop-number.invariant c.number.ensures

pub returns : goal.returns
returns c =
    let e : take c.loop-number.number-index c.args.numbers.now ≡ c.args.numbers.now = take_all _ _ (omega arith) in
    rw e at c.loop-number.invariant
