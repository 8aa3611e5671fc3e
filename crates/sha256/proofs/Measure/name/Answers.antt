use Rattle.std.proofs.Common.{ap, ◌∙◌, arith}
use Rattle.sha256.specs.Sha.{compressed, digest}
use Rattle.sha256.specs.Words.{words_of}
use Rattle.sha256.specs.Measures.{name_words}
use Rattle.sha256.specs.Window.{state_of}
use Rattle.sha256.proofs.Message.{one_block}
use Rattle.sha256.proofs.Measured.{named}
use Rattle.sha256.proofs.Measure.name.Goals as goal

pub returns : goal.returns
unfolding name_words
returns c =
    let s = state_of c.args.self.hash in
    let value =
    c.digest_words.ensures
    ∙ ap (λ s. words_of (digest s))
    (c.compress_blocks.ensures ∙ one_block s c.padding.result (omega arith) ∙ ap (compressed s) c.padding.ensures) in
    record { history = λ ws h. value ∙ named c.args.self ws h; value = value }
