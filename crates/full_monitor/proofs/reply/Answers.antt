use Rattle.std.proofs.Common.{arith}
use Rattle.answers.specs.Meaning.{answer_of}
use Rattle.monitor.proofs.Told.{always_told}
use Rattle.full_monitor.proofs.reply.Goals as goal

pub returns-in_err-told : goal.returns-in_err-told
returns-in_err-told c =
    absurd (always_told (answer_of c.answer-answer.result) _ c.args.told.now c.write.new.out _ c.told_to_system.ensures (omega arith)
    c.in_err-told.ensures)
