use Rattle.full_monitor.proofs.Right.{refined}
use Rattle.full_monitor.proofs.call.Goals as goal

pub returns-clause-refines : goal.returns-clause-refines
returns-clause-refines c = refined _ _ _ _ c.reply.result c.reply.ensures
