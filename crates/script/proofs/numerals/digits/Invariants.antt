use Rattle.std.proofs.Common.{◌≡◌, drop}
use Rattle.script.specs.Numerals.{digits_on}
use Rattle.script.proofs.numerals.digits.Given as goal

abbrev pub invariant-loop-byte : goal.invariant-loop-byte
invariant-loop-byte l = digits_on l.number (drop l.byte-index l.word) ≡ digits_on 0 l.word
