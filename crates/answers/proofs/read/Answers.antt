use Rattle.std.proofs.Common.{arith}
use Rattle.fields.specs.Steps.{parts_of}
use Rattle.fields.proofs.Rows.{messages_read}
use Rattle.model.specs.Answers.{done}
use Rattle.answers.specs.Kinds.{kind_number}
use Rattle.answers.specs.Table.{answers, table, parts}
use Rattle.answers.specs.Meaning.{answer_of}
use Rattle.answers.proofs.Stand.{lawful_answers}
use Rattle.answers.proofs.read.Goals as goal

pub returns : goal.returns
unfolding answers
returns c =
    messages_read parts done table answer_of lawful_answers c.args.bytes.now (λ i. omega (arith, c.type_inv.bytes i))
    (parts_of kind_number) c.read_message.result c.map.result c.read_message.ensures (grind (arith, c.map.ensures.cases))
