use Rattle.model.proofs.Confidentiality.{confidentiality, confidentiality_over_runs}
use Rattle.model.proofs.InvHolds.{invariant_holds, registers_good}
use Rattle.model.proofs.nothing_gets_out.Goals as goal

pub returns : goal.returns
returns c = (confidentiality invariant_holds registers_good, confidentiality_over_runs invariant_holds registers_good)
