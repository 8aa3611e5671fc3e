use Rattle.std.proofs.Common.{arith}
use Rattle.fields.specs.Steps.{parts_of}
use Rattle.fields.proofs.Rows.{messages_read}
use Rattle.model.specs.Calls.{garbled}
use Rattle.calls.specs.Kinds.{kind_number}
use Rattle.calls.specs.Table.{calls, table, parts}
use Rattle.calls.specs.Meaning.{call_of}
use Rattle.calls.proofs.Stand.{lawful_calls}
use Rattle.calls.proofs.read.Goals as goal

pub returns : goal.returns
unfolding calls
returns c =
    messages_read parts (garbled 0) table call_of lawful_calls c.args.bytes.now (λ i. omega (arith, c.type_inv.bytes i))
    (parts_of kind_number) c.read_message.result c.map.result c.read_message.ensures (grind (arith, c.map.ensures.cases))
