use Rattle.std.proofs.Common.{◌≡◌, true, length, take, drop}
use Rattle.fields.specs.Shapes.{numbers_of}
use Rattle.model.specs.State.{all_words}
use Rattle.running.proofs.registers.registers_from.Given as goal

abbrev pub invariant-loop-word : goal.invariant-loop-word
invariant-loop-word l =
    (l.rest ≡ drop l.word-index (numbers_of l.fn.numbers)) × (length l.word-items ≡ 17)
    × (take l.word-index l.word-items ≡ take l.word-index (numbers_of l.fn.numbers))
    × (all_words (take l.word-index (numbers_of l.fn.numbers)) ≡ true)
