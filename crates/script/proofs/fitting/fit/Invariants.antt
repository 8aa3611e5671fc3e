use Rattle.std.proofs.Common.{◌≡◌}
use Rattle.script.specs.Words.{words, words_left}
use Rattle.script.specs.Fitting.{nothing_taken, fit}
use Rattle.script.proofs.fitting.fit.Given as goal

abbrev pub invariant-loop-sign : goal.invariant-loop-sign
invariant-loop-sign l =
    fit (words_left l.sign-iterator) (words_left l.line) l.taken ≡ fit (words l.form) (words_left l.initial.line) nothing_taken
