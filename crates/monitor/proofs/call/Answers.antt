use Rattle.std.proofs.Common.{arith}
use Rattle.answers.specs.Meaning.{answer_of}
use Rattle.monitor.proofs.Told.{always_told}
use Rattle.monitor.proofs.call.Goals as goal

pub returns-in_err-told-clause-reply : goal.returns-in_err-told-clause-reply
returns-in_err-told-clause-reply c =
    absurd (always_told (answer_of c.answer-answer.result) _ c.args.told.now c.write.new.out _ c.told_to_system.ensures (omega arith)
    c.in_err-told.ensures)
