use Rattle.std.proofs.Common.{is_ok, arith}
use mathlib.Core.Logic.{∥∥₁_map}
use Rattle.session.proofs.Kept.{closed_written}
use Rattle.session.proofs.state.Session.write_closed.Goals as goal

pub returns-clause-events : goal.returns-clause-events
returns-clause-events g c l es h =
    closed_written g.M.Monitor.holds c.args.self.now.closed c.args.page c.args.words.now (λ i. omega (arith, c.type_inv.words i))
    (is_ok c.write.result) _ c.write.new.all c.as_mut_slice.ensures.value c.write.auto.all c.write.ensures.done c.write.ensures.after
    g.met.M.Monitor.writes_hold l es _ _ h

pub invariant_of-self : goal.invariant_of-self
invariant_of-self g c = record {
  made = ∥∥₁_map c.args.self.now.made (λ y. (
    y.0,
    _,
    closed_written g.M.Monitor.holds c.args.self.now.closed c.args.page c.args.words.now (λ i. omega (arith, c.type_inv.words i))
        (is_ok c.write.result) _ c.write.new.all c.as_mut_slice.ensures.value c.write.auto.all c.write.ensures.done c.write.ensures.after
        g.met.M.Monitor.writes_hold y.0 y.1 _ _ y.2,
  ));
}
