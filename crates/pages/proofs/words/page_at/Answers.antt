use Rattle.pages.proofs.Lists.{width}
use Rattle.pages.proofs.words.page_at.Goals as goal

pub returns : goal.returns
returns c = simp (c.words_of.ensures, width)
