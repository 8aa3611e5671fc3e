use Rattle.pages.proofs.Flats.{pages_written}
use Rattle.pages.proofs.pages_stand.Goals as goal

pub returns : goal.returns
returns c = pages_written
