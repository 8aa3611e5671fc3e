use Rattle.pages.proofs.Seen.{packing_inverse}
use Rattle.pages.proofs.packing_stands.Goals as goal

pub returns : goal.returns
returns c = packing_inverse
