use Rattle.std.proofs.Common.{◌≡◌, length, take}
use Rattle.pages.specs.Rows.{low_words, numbers_at}
use Rattle.pages.proofs.reading.registers_at.Given as goal

abbrev pub invariant-loop-i : goal.invariant-loop-i
invariant-loop-i l = (take l.i l.words ≡ low_words (take l.i (numbers_at l.memory l.thread 4 17))) × (length l.words ≡ 17)
