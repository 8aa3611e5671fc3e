use Rattle.std.proofs.Common.{take}
use Rattle.fields.specs.Bytes.{numbers_bytes}
use Rattle.fields.specs.Steps.{Put}
use Rattle.fields.proofs.writing.Writer.numbers.Given as goal

abbrev pub invariant-loop-number : goal.invariant-loop-number
invariant-loop-number l = Put l.initial.self l.self (numbers_bytes (take l.number-index l.numbers))
