-- The kinds of faults, as cells and the system are told them.
use Rattle.std.specs.Prelude.{ℕ}
use Rattle.machine.specs.declared.values.FaultKind.{FaultKind}
use Rattle.machine.specs.declared.values.FaultKind.TheVariants.{NotRun, NotSeen, NotWritten, NoInstruction, NoCall}

-- What is there can't be run, nothing is seen there, it may not be written, no instruction, no call.
abbrev pub kind_number : FaultKind → ℕ
kind_number NotRun = 1
kind_number NotSeen = 2
kind_number NotWritten = 3
kind_number NoInstruction = 4
kind_number NoCall = 5
