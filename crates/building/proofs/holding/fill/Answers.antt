use Rattle.std.proofs.Common.{sym, ap, ◌∙◌}
use Rattle.pages.specs.Flat.{page_put}
use Rattle.building.specs.Made.{source_words}
use Rattle.building.proofs.holding.fill.Goals as goal

pub returns-in-None : goal.returns-in-None
returns-in-None c =
    c.zero_page.ensures
    ∙ ap (λ o. page_put c.args.closed.now c.args.page (source_words c.args.open.now o)) (sym c.in-None.is)
