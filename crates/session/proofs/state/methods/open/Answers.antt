use Rattle.std.proofs.Common.{[], sym, ◌∙◌}
use Rattle.session.specs.Holding.{limits_of}
use Rattle.session.proofs.Refilled.{refilled_with}
use Rattle.session.proofs.state.methods.open.Goals as goal

pub invariant_of-result : goal.invariant_of-result
invariant_of-result g c =
    let p = c.args.limits.closed in
    let o = c.args.limits.open in
    record {
      made = ∣ (
        limits_of p o,
        [],
        rw (
          refilled_with c.in_ok-memory.memory c.open.new.memory _ c.open.auto.memory c.as_mut_slice.ensures.value
              ∙ c.in_ok-open-2.ensures.1,
          c.in_ok-closed.ensures.items_if_clones_equal (λ y h. h),
          c.in_ok-open.ensures.items_if_clones_equal (λ y h. h),
        ) (g.met.M.Monitor.at_first p o (sym c.if-not-in_range.ensures)),
      ) ∣₁;
    }
