use Rattle.std.proofs.Common.{◌≡◌, length, take}
use Rattle.pages.proofs.writing.wide.Given as goal

abbrev pub invariant-loop-i : goal.invariant-loop-i
invariant-loop-i l = (take l.i l.numbers ≡ take l.i l.registers.words) × (length l.numbers ≡ 17)
