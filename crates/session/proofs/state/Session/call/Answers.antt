use mathlib.Core.Logic.{∥∥₁_map}
use Rattle.session.proofs.Kept.{call_kept}
use Rattle.session.proofs.state.Session.call.Goals as goal

pub call-requires : goal.call-requires
call-requires g c = rw (c.as_mut_slice.ensures.value, c.as_mut_slice-2.ensures.value, c.as_slice.ensures.value) c.args.self.now.made

pub returns-clause-events : goal.returns-clause-events
returns-clause-events g c l es h =
    call_kept g.M.Monitor.holds g.M.Monitor.does c.args.self.now.memory c.args.self.now.closed _ _ _ _ c.call.new.memory c.call.new.closed
    _ c.call.new.told _ c.call.result c.as_mut_slice.ensures.value c.as_mut_slice-2.ensures.value c.as_slice.ensures.value
    c.call.auto.memory c.call.auto.closed c.call.ensures g.met.M.Monitor.calls_hold l es h

pub invariant_of-self : goal.invariant_of-self
invariant_of-self g c = record {
  made = ∥∥₁_map c.args.self.now.made (λ y. (
    y.0,
    _,
    call_kept g.M.Monitor.holds g.M.Monitor.does c.args.self.now.memory c.args.self.now.closed _ _ _ _ c.call.new.memory c.call.new.closed
        _ c.call.new.told _ c.call.result c.as_mut_slice.ensures.value c.as_mut_slice-2.ensures.value c.as_slice.ensures.value
        c.call.auto.memory c.call.auto.closed c.call.ensures g.met.M.Monitor.calls_hold y.0 y.1 y.2,
  ));
}
