use Rattle.std.proofs.Common.{arith}
use Rattle.fields.specs.Shapes.{body_of}
use Rattle.calls.specs.Kinds.{kind_number}
use Rattle.calls.specs.Meaning.{call_of}
use Rattle.script.specs.Lines.{call_with}
use Rattle.script.proofs.Standing.{put_fields, put_fails}
use Rattle.script.proofs.calling.put_call.Goals as goal

pub unreachable-requires : goal.unreachable-requires
unfolding call_with
unreachable-requires c =
    put_fails (call_of c.from.result) (kind_number c.args.kind) (body_of c.args.fields) c.args.bytes.now c.write.new.out
    c.in-Err.field-0
    c.from.ensures c.requires (omega arith) c.in-Err.ensures

pub returns : goal.returns
unfolding call_with
returns c =
    put_fields (call_of c.from.result) _ c.in-Ok.length c.args.bytes.now c.write.new.out c.from.ensures
    c.in-Ok.ensures
