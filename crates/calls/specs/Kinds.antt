-- The kinds of calls, and their numbers.
use Rattle.std.specs.Prelude.{ℕ}
use Rattle.calls.specs.declared.kind.Kind.{Kind}
use Rattle.calls.specs.declared.kind.Kind.TheVariants.{HowMany, NewCell, NewThread, NewTable, Hold, Give, Show, Remove, Seal, Stop}
use Rattle.calls.specs.declared.kind.Kind.TheVariants.{Enter, Resume, Leave, Interrupt, Fault, Grow, Shrink, Extend, Who, Draw}

abbrev pub kind_number : Kind → ℕ
kind_number HowMany = 0
kind_number NewCell = 1
kind_number NewThread = 2
kind_number NewTable = 3
kind_number Hold = 4
kind_number Give = 5
kind_number Show = 6
kind_number Remove = 7
kind_number Seal = 8
kind_number Stop = 9
kind_number Enter = 10
kind_number Resume = 11
kind_number Leave = 20
kind_number Interrupt = 21
kind_number Fault = 22
kind_number Grow = 23
kind_number Shrink = 24
kind_number Extend = 25
kind_number Who = 26
kind_number Draw = 27
