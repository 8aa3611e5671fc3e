use Rattle.calls.specs.Table.{calls, carried, write_call}
use Rattle.calls.proofs.write.Goals as goal

pub returns : goal.returns
unfolding carried write_call calls
returns c = rw c.from.ensures c.write_message.ensures
