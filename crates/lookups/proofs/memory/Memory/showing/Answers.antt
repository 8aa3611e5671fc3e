use Rattle.fields.specs.Shapes.{place_of}
use Rattle.lookups.proofs.Slots.{not_closed, shows_another, shows}
use Rattle.lookups.proofs.memory.Memory.showing.Goals as goal

pub returns-in_default : goal.returns-in_default
returns-in_default c =
    let seen = c.in_ok-table.ensures in record {
      value = not_closed c.args.self.now c.args.top (place_of c.args.at.place) _ _ seen.0 seen.1 c.args.page c.in_default.not-Closed;
      there = tt;
    }

pub returns-then-shown-page-clause-value : goal.returns-then-shown-page-clause-value
returns-then-shown-page-clause-value c =
    let seen = c.in_ok-table.ensures in
    shows_another c.args.self.now c.args.top (place_of c.args.at.place) _ _ seen.0 seen.1 c.args.page _ _ _ c.in-Closed.is
    c.if-shown-page.true

pub returns-clause-value : goal.returns-clause-value
returns-clause-value c =
    let seen = c.in_ok-table.ensures in
    shows c.args.self.now c.args.top (place_of c.args.at.place) _ _ seen.0 seen.1 c.args.page _ _ _ c.in-Closed.is
    c.if-shown-page.false
