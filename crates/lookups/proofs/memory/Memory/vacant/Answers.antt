use Rattle.fields.specs.Shapes.{place_of}
use Rattle.lookups.proofs.Slots.{in_use, empty}
use Rattle.lookups.proofs.memory.Memory.vacant.Goals as goal

pub returns-in_default : goal.returns-in_default
returns-in_default c =
    let seen = c.in_ok-table.ensures in record {
      value = in_use c.args.self.now c.args.top (place_of c.args.at.place) _ _ seen.0 seen.1 c.in_default.not-Nothing;
      there = tt;
    }

pub returns-clause-value : goal.returns-clause-value
returns-clause-value c =
    let seen = c.in_ok-table.ensures in
    empty c.args.self.now c.args.top (place_of c.args.at.place) _ _ seen.0 seen.1 c.in-Nothing.is
