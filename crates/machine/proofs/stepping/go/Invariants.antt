use Rattle.std.proofs.Common.{◌≡◌, ◌-◌}
use Rattle.machine.specs.Came.{run_of}
use Rattle.machine.specs.Held.{words_of, Kept}
use Rattle.machine.proofs.stepping.go.Given as goal

abbrev pub invariant-loop-done : goal.invariant-loop-done
invariant-loop-done l =
    (run_of l.initial.lent.memory.now l.initial.lent.top l.steps l.chance l.initial.registers.words (words_of l.initial.lent)
    ≡ run_of l.initial.lent.memory.now l.initial.lent.top (l.steps - l._done) l.chance l.registers.words (words_of l.lent))
    × Kept l.initial.lent l.lent
