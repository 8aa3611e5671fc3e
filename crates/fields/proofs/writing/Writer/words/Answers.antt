use Rattle.std.proofs.Common.{◌≡◌, take, arith}
use Rattle.std.proofs.lemmas.List.{take_all}
use Rattle.fields.specs.Bytes.{numbers_bytes}
use Rattle.fields.proofs.Puts.{put_none, put_next, room_next}
use Rattle.fields.proofs.writing.Writer.words.Goals as goal

pub loop-word-init : goal.loop-word-init
unfolding numbers_bytes
loop-word-init c = put_none c.args.self.now

pub number-requires : goal.number-requires
number-requires c =
    room_next c.args.self.now c.loop-word.self c.args.words.now c.loop-word.word-index (omega arith) (omega arith)
    c.loop-word.invariant

pub loop-word-preserved : goal.loop-word-preserved
loop-word-preserved c =
    put_next c.args.self.now c.loop-word.self _ c.args.words.now c.loop-word.word-index (omega arith) (omega arith)
    c.loop-word.invariant (rw c.from.ensures at c.number.ensures)

pub returns : goal.returns
returns c =
    let e : take c.loop-word.word-index c.args.words.now ≡ c.args.words.now = take_all _ _ (omega arith) in
    rw e at c.loop-word.invariant
