use Rattle.std.proofs.Common.{◌≡◌, ℕ, ◌+◌, List, get_or, sym, refl, ap, ◌∙◌, subst}
use Rattle.model.specs.Calls.{fault}
use Rattle.model.specs.Processor.{Seen, seen, asks}
use Rattle.machine.specs.Instructions.{decoded, with_register, low, executed, fetched, made_up}
use Rattle.machine.specs.Held.{sees}
use Rattle.machine.specs.Meaning.{seen_of}
use Rattle.machine.specs.Came.{Comes}
use Rattle.machine.proofs.stepping.step.Goals as goal
use Rattle.machine.proofs.stepping.step.Goals.{in_default-via-in-Some+else-seen, in_default-via-in_default}

pub returns-in-Some : goal.returns-in-Some
unfolding made_up
returns-in-Some c =
    let seen_at : ℕ → Seen = sees c.args.lent.now in
    let rs : List ℕ = c.args.registers.words in
    subst (λ s. Comes c.args.lent.now c.execute.new.lent s c.execute.result)
    (ap (λ i. executed i c.put-next.result.words seen_at c.args.chance) c.from-instruction.ensures
    ∙ ap (λ qs. executed (decoded c.in-Some.seen.word) qs seen_at c.args.chance)
    (c.put-next.ensures ∙ ap (λ a. with_register rs 15 (low (a + 4))) c.get-at.ensures)
    ∙ ap (λ b. fetched (seen c.in-Some.seen.write b c.in-Some.seen.word) rs seen_at c.args.chance) (sym c.if-seen.true)
    ∙ ap (λ x. fetched x rs seen_at c.args.chance) (sym (ap seen_of c.in-Some.is) ∙ c.look.ensures ∙ ap seen_at c.get-at.ensures))
    c.execute.ensures

pub returns-in_default : goal.returns-in_default
unfolding made_up
returns-in_default c =
    let seen_at : ℕ → Seen = sees c.args.lent.now in
    let rs : List ℕ = c.args.registers.words in
    let here = c.look.ensures ∙ ap seen_at c.get-at.ensures in
    let faulty : asks rs (fault 1) ≡ fetched (seen_at (get_or rs 15 0)) rs seen_at c.args.chance =
    elim c.in_default.branch [
      | in_default-via-in-Some+else-seen x ↦
          ap (λ b. fetched (seen x.in-Some.seen.write b x.in-Some.seen.word) rs seen_at c.args.chance) (sym x.if-seen.false)
          ∙ ap (λ z. fetched z rs seen_at c.args.chance) (sym (ap seen_of x.in-Some.is) ∙ here)
      | in_default-via-in_default x ↦ ap (λ z. fetched z rs seen_at c.args.chance) (sym (ap seen_of x.in_default.is) ∙ here)
    ] in
    subst (λ s. Comes c.args.lent.now c.args.lent.now s c.faults.result) faulty (record {
      registers = ap (λ x. x.words) c.faults.ensures.0;
      ends = c.faults.ensures.1;
      words = refl;
      kept = record { memory = refl; top = refl; same_closed = refl; same_open = refl; closed_long = refl; open_long = refl };
    })
