use Rattle.pages.proofs.Seen.{reads_right}
use Rattle.pages.proofs.reads_stand.Goals as goal

pub returns : goal.returns
returns c = reads_right
