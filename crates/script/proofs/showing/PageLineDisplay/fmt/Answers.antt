use Rattle.std.proofs.Common.{take, arith, rules}
use Rattle.std.proofs.Output.{has_written_append, has_written_of_eq}
use Rattle.script.proofs.Printing.{spaced_step}
use Rattle.script.proofs.showing.PageLineDisplay.fmt.Goals as goal

pub loop-word-preserved : goal.loop-word-preserved
loop-word-preserved g c = λ plain.
    let step = spaced_step (take c.used.result c.args.self.now.words.now) c.loop-word.word-index (omega arith) in
    has_written_of_eq _ _ _ _ _ step (has_written_append _ _ _ _ _ _ (c.loop-word.invariant plain) (search rules))
