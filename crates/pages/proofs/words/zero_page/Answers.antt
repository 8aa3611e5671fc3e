use Rattle.std.proofs.Common.{◌*◌}
use Rattle.pages.proofs.Lists.{part_zeros}
use Rattle.pages.proofs.words.zero_page.Goals as goal

pub returns : goal.returns
returns c =
    simp c.words_of.ensures
    (part_zeros (c.args.page * 1024) 1024 c.args.closed.now c.fill.new.self c.requires
    (simp c.words_of.ensures at c.fill.ensures.after (λ y h. h)))
