use Rattle.std.proofs.Common.{Ok, Err, sym, refl, ap, subst}
use Rattle.answers.specs.Meaning.{answer_of, refusal_of}
use Rattle.model.specs.Answers.{refused}
use Rattle.calls.proofs.Stand.{asked_is}
use Rattle.full_monitor.specs.Program.{says, leaves, leaves_pages, Does}
use Rattle.full_monitor.proofs.answer.Goals as goal

pub returns-in-Ok : goal.returns-in-Ok
returns-in-Ok c =
    subst (λ q. Does c.args.memory.now c.args.closed.now c.args.open.now q (answer_of c.taken.result)
    c.taken.new.memory c.taken.new.closed) (sym (asked_is c.args.bytes.now (Ok c.in-Ok.call) c.in-Ok.ensures))
    c.taken.ensures

pub returns-in-Err : goal.returns-in-Err
unfolding says leaves leaves_pages
returns-in-Err c =
    subst (λ q. Does c.args.memory.now c.args.closed.now c.args.open.now q
    (refused (refusal_of c.garbled.result)) c.args.memory.now c.args.closed.now)
    (sym (asked_is c.args.bytes.now (Err c.in-Err.place) c.in-Err.ensures))
    (record { answer = ap (λ r. refused (refusal_of r)) c.garbled.ensures; memory = refl; pages = refl })
