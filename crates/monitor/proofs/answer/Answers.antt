use Rattle.std.proofs.Common.{Ok, Err, sym, ap, ◌∙◌}
use Rattle.answers.specs.Meaning.{refusal_of}
use Rattle.model.specs.Answers.{refused}
use Rattle.monitor.specs.Stage.{answer}
use Rattle.calls.proofs.Stand.{asked_is}
use Rattle.monitor.proofs.answer.Goals as goal

pub returns-in-Ok : goal.returns-in-Ok
returns-in-Ok c =
    c.taken.ensures ∙ sym (ap (answer c.args.pages) (asked_is c.args.bytes.now (Ok c.in-Ok.call) c.in-Ok.ensures))

pub returns-in-Err : goal.returns-in-Err
returns-in-Err c =
    ap (λ r. refused (refusal_of r)) c.garbled.ensures
    ∙ sym (ap (answer c.args.pages) (asked_is c.args.bytes.now (Err c.in-Err.place) c.in-Err.ensures))
