use Rattle.std.proofs.Common.{◌≡◌, ◌-◌, sym, ap, ◌∙◌, arith}
use Rattle.model.specs.Calls.{by_cell}
use Rattle.model.specs.Processor.{steps}
use Rattle.machine.specs.Held.{words_of}
use Rattle.machine.specs.Came.{run_of}
use Rattle.machine.proofs.Steps.{whole_on, kept_on, went_on, it_ended}
use Rattle.machine.proofs.stepping.go.Goals as goal

pub step-requires : goal.step-requires
step-requires c = whole_on c.args.lent.now c.loop-done.lent c.requires c.loop-done.invariant.1

pub returns-in-Break : goal.returns-in-Break
returns-in-Break c =
    let inv = c.loop-done.invariant in
    let d = it_ended c.args.lent.now c.args.steps c.loop-done._done c.args.chance (omega arith) c.loop-done.registers.words
    c.loop-done.lent c.step.new.lent c.step.result inv.1 c.step.ensures c.in-Break.ran c.in-Break.is in
    record {
      runs = record {
        registers = d.0 ∙ sym (ap (λ x. x.registers) inv.0);
        ends = d.1 ∙ sym (ap (λ x. by_cell x.ends) inv.0);
        words = d.2 ∙ sym (ap (λ x. x.memory) inv.0);
      };
      kept = kept_on _ _ _ inv.1 c.step.ensures.kept;
    }

pub loop-done-preserved : goal.loop-done-preserved
loop-done-preserved c =
    let inv = c.loop-done.invariant in (
      inv.0 ∙ went_on c.args.lent.now c.args.steps c.loop-done._done c.args.chance (omega arith) c.loop-done.registers.words
          c.loop-done.lent c.step.new.lent c.step.result inv.1 c.step.ensures c.in-Continue.next c.in-Continue.is,
      kept_on _ _ _ inv.1 c.step.ensures.kept,
    )

pub returns : goal.returns
unfolding steps
returns c =
    let none : c.args.steps - c.loop-done._done ≡ 0 = omega arith in
    let all = c.loop-done.invariant.0
    ∙ ap (λ n. run_of c.args.lent.now.memory.now c.args.lent.now.top n c.args.chance c.loop-done.registers.words
    (words_of c.loop-done.lent)) none in
    record {
      runs = record {
        registers = sym (ap (λ x. x.registers) all);
        ends = sym (ap (λ x. by_cell x.ends) all);
        words = sym (ap (λ x. x.memory) all);
      };
      kept = c.loop-done.invariant.1;
    }
