use Rattle.std.proofs.Common.{◌≡◌, ◌≤◌, length, take}
use Rattle.script.specs.Words.{words_left}
use Rattle.script.specs.Lines.{each, word_of}
use Rattle.script.proofs.Series.{prefixed}
use Rattle.script.proofs.lists.put_words.Given as goal

abbrev pub invariant-loop-text : goal.invariant-loop-text
invariant-loop-text l =
    (each word_of (words_left l.fn.words) ≡ prefixed (take l.count l.page) (each word_of (words_left l.text-iterator)))
    × (l.count ≤ 1024) × (length l.page ≡ 1024)
