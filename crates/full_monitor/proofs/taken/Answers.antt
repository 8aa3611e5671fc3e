use Rattle.std.proofs.Common.{◌≡◌, true, is_some, sym, refl, ap, ◌∙◌}
use Rattle.answers.specs.Meaning.{answer_of}
use Rattle.calls.specs.Meaning.{call_of}
use Rattle.model.specs.Answers.{refused}
use Rattle.full_monitor.specs.Program.{fits, Does}
use Rattle.full_monitor.proofs.Doing.{out_of_range, cell_waits, system_waits}
use Rattle.full_monitor.proofs.Whose.{sides}
use Rattle.full_monitor.proofs.taken.Goals as goal

pub returns-then-not-fits : goal.returns-then-not-fits
returns-then-not-fits c =
    let d = out_of_range c.args.memory.now c.args.closed.now c.args.open.now (call_of c.args.call)
    (sym c.if-not-fits.ensures) in
    record { answer = ap answer_of c.into.ensures ∙ d.answer; memory = d.memory; pages = d.pages }

pub returns-in_default-who_calls : goal.returns-in_default-who_calls
returns-in_default-who_calls c =
    let m = c.args.memory.now in
    let cs = c.args.closed.now in
    let os = c.args.open.now in
    let runs = ap is_some (sym c.running.ensures ∙ c.in-Some.is) in
    let none = sym (rw c.of.ensures at c.who_calls.ensures.value) ∙ c.in_default-who_calls.is in
    let d = sides c.args.call (λ q. fits q ≡ true → Does m cs os q (refused (record { number = 14; place = 0 })) m cs)
    (λ x f. system_waits m cs os _ f x refl runs) (λ x f. cell_waits m cs os _ f x refl none) (sym c.if-not-fits.ensures) in
    record { answer = ap answer_of c.into-in_default-who_calls.ensures ∙ d.answer; memory = d.memory; pages = d.pages }
