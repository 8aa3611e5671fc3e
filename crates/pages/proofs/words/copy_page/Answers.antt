use Rattle.std.proofs.Common.{sym, ◌∙◌}
use Rattle.pages.proofs.Lists.{length_page, width}
use Rattle.pages.proofs.words.copy_page.Goals as goal

pub copy_from_slice-requires : goal.copy_from_slice-requires
copy_from_slice-requires c =
    simp (c.words_of.ensures, width, c.page_at.ensures)
    (length_page c.args.closed.now c.args.page c.requires.0 ∙ sym (length_page c.args.«open».now c.args.source c.requires.1))
