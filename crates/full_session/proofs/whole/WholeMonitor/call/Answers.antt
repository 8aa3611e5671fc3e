use Rattle.full_session.proofs.Lent.{lent}
use Rattle.full_session.proofs.whole.WholeMonitor.call.Goals as goal

pub call-requires : goal.call-requires
call-requires c = lent _ _ _ c.requires
