use mathlib.Core.Logic.{∥∥₁_elim}
use denote.Struct.Props.{props}
use Rattle.session.proofs.stage.StageMonitor.call.Goals as goal

pub call-requires : goal.call-requires
call-requires c = ∥∥₁_elim c.requires (hlevel props) (λ x. x.2)
