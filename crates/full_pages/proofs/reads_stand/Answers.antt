use Rattle.full_pages.proofs.Seen.{reads_right}
use Rattle.full_pages.proofs.reads_stand.Goals as goal

pub returns : goal.returns
returns c = reads_right
