use Rattle.pages.proofs.Edits.{edits_written}
use Rattle.pages.proofs.edits_stand.Goals as goal

pub returns : goal.returns
returns c = edits_written
