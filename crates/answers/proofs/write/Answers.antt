use Rattle.answers.specs.Table.{answers, carried, write_answer}
use Rattle.answers.proofs.write.Goals as goal

pub returns : goal.returns
unfolding carried write_answer answers
returns c = rw c.from.ensures c.write_message.ensures
