use Rattle.std.proofs.Common.{◌≡◌, ℕ, ◌+◌, ◌*◌, ◌≤◌, List, length}
use Rattle.fields.specs.Bytes.{numbers_bytes}
use Rattle.fields.specs.Steps.{Wrote}
use Rattle.script.specs.Words.{words_left}
use Rattle.script.specs.Numerals.{number_of}
use Rattle.script.specs.Lines.{each}
use Rattle.script.proofs.Series.{prefixed}
use Rattle.script.proofs.lists.put_numbers.Given as goal

abbrev pub invariant-loop-word : goal.invariant-loop-word
invariant-loop-word l =
    (ns : List ℕ) × (each number_of (words_left l.fn.words) ≡ prefixed ns (each number_of (words_left l.word-iterator)))
    × (l.count ≡ length ns)
    × (l.count ≤ 255) × Wrote l.initial.bytes l.bytes 2 (numbers_bytes ns) (2 + 8 * l.count)
