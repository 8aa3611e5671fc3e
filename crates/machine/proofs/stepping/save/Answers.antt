use Rattle.std.proofs.Common.{sym, ap, ◌∙◌, ap₂}
use Rattle.model.specs.Processor.{word_number}
use Rattle.machine.specs.Held.{words_of, slot_at}
use Rattle.machine.specs.Came.{step_registers, step_ends, step_words}
use Rattle.machine.proofs.Puts.{saves, refuses}
use Rattle.machine.proofs.stepping.save.Goals as goal

pub returns-then-store : goal.returns-then-store
returns-then-store c =
    let l = c.args.lent.now in
    let e = saves c.args.registers.words l.closed.now l.open.now c.args.address (word_number c.args.address) c.args.value
    (slot_at l c.args.address) (sym c.store.ensures.may ∙ c.if-store.true) in
    record {
      registers = sym (ap step_registers e);
      ends = sym (ap step_ends e);
      words = ap₂ (λ x y. record { closed_pages = x; open_pages = y }) c.store.ensures.closed c.store.ensures.open
          ∙ sym (ap (step_words l.memory.now l.top (words_of l)) e);
      kept = c.store.ensures.kept;
    }

pub returns-else-store : goal.returns-else-store
returns-else-store c =
    let l = c.args.lent.now in
    let e = refuses c.args.registers.words l.closed.now l.open.now c.args.address (word_number c.args.address) c.args.value
    (slot_at l c.args.address) (sym c.store.ensures.may ∙ c.if-store.false) in
    record {
      registers = ap (λ x. x.words) c.faults.ensures.0 ∙ sym (ap step_registers e.0);
      ends = c.faults.ensures.1 ∙ sym (ap step_ends e.0);
      words = ap₂ (λ x y. record { closed_pages = x; open_pages = y }) (c.store.ensures.closed ∙ e.1) (c.store.ensures.open ∙ e.2)
          ∙ sym (ap (step_words l.memory.now l.top (words_of l)) e.0);
      kept = c.store.ensures.kept;
    }
