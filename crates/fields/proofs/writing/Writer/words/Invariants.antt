use Rattle.std.proofs.Common.{take}
use Rattle.fields.specs.Bytes.{numbers_bytes}
use Rattle.fields.specs.Steps.{Put}
use Rattle.fields.proofs.writing.Writer.words.Given as goal

abbrev pub invariant-loop-word : goal.invariant-loop-word
invariant-loop-word l = Put l.initial.self l.self (numbers_bytes (take l.word-index l.words))
