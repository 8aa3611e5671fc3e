use Rattle.std.proofs.Common.{true, refl, ap, ◌∙◌}
use Rattle.fields.specs.Shapes.{place_of, numbers_of}
use Rattle.answers.specs.Meaning.{answer_of}
use Rattle.calls.specs.Meaning.{call_of}
use Rattle.model.specs.Answers.{told}
use Rattle.model.specs.Calls.{leave, interrupt, fault, grow, shrink, extend, who, draw}
use Rattle.running.specs.Made.{run_ended}
use Rattle.full_monitor.specs.Program.{cell_checks, cell_memory, cell_pages}
use Rattle.full_monitor.proofs.Doing.{taken_leaves, taken_told, cell_does, told_does, system_waits, calls_run}
use Rattle.full_monitor.proofs.Whose.{a_systems}
use Rattle.full_monitor.proofs.cells.by_cell.Goals as goal

pub returns-in-Leave : goal.returns-in-Leave
returns-in-Leave c =
    cell_does c.args.memory.now c.args.closed.now c.args.open.now (call_of c.args.call) c.requires.fits c.args.caller
    (leave c.in-Leave.number) (ap call_of c.in-Leave.is) c.requires.calls _ _ _ (ap answer_of c.into.ensures) c.leave.ensures refl

pub returns-in-Some : goal.returns-in-Some
returns-in-Some c =
    cell_does c.args.memory.now c.args.closed.now c.args.open.now (call_of c.args.call) c.requires.fits c.args.caller
    (interrupt (numbers_of c.in-Interrupt.registers)) (ap call_of c.in-Interrupt.is) c.requires.calls _ _ _
    (ap answer_of c.into-in-Interrupt.ensures)
    (c.interrupt.ensures ∙ ap (run_ended c.args.memory.now c.args.caller.thread true) c.in-Some.ensures.1) refl

pub returns-in-Fault : goal.returns-in-Fault
returns-in-Fault c =
    cell_does c.args.memory.now c.args.closed.now c.args.open.now (call_of c.args.call) c.requires.fits c.args.caller
    (fault c.in-Fault.kind) (ap call_of c.in-Fault.is) c.requires.calls _ _ _ (ap answer_of c.into-in-Fault.ensures)
    c.leave-in-Fault.ensures refl

pub returns-in-Grow : goal.returns-in-Grow
returns-in-Grow c =
    let m = c.args.memory.now in
    let k = c.args.caller in
    let call = grow c.in-Grow.page (place_of c.in-Grow.place) in
    cell_does c.args.memory.now c.args.closed.now c.args.open.now (call_of c.args.call) c.requires.fits c.args.caller
    call (ap call_of c.in-Grow.is) c.requires.calls _ _ _
    (c.told.ensures ∙ taken_told (cell_checks m k call) m (cell_memory m k call) _ c.grow.result c.grow.ensures.memory)
    (taken_leaves (cell_checks m k call) m (cell_memory m k call) _ c.grow.result c.grow.ensures.memory)
    (taken_leaves (cell_checks m k call) c.args.closed.now (cell_pages c.args.closed.now call) _ c.grow.result
    c.grow.ensures.closed)

pub returns-in-Shrink : goal.returns-in-Shrink
returns-in-Shrink c =
    told_does c.args.memory.now c.args.closed.now c.args.open.now (call_of c.args.call) c.requires.fits c.args.caller
    (shrink c.in-Shrink.page (place_of c.in-Shrink.place)) (ap call_of c.in-Shrink.is) c.requires.calls
    c.shrink.result _ _ c.told-in-Shrink.ensures c.shrink.ensures refl refl

pub returns-in-Extend : goal.returns-in-Extend
returns-in-Extend c =
    told_does c.args.memory.now c.args.closed.now c.args.open.now (call_of c.args.call) c.requires.fits c.args.caller
    (extend c.in-Extend.page c.in-Extend.index) (ap call_of c.in-Extend.is) c.requires.calls
    c.extend.result _ _ c.told-in-Extend.ensures c.extend.ensures refl refl

pub returns-in-Who : goal.returns-in-Who
returns-in-Who c =
    cell_does c.args.memory.now c.args.closed.now c.args.open.now (call_of c.args.call) c.requires.fits c.args.caller
    who (ap call_of c.in-Who.is) c.requires.calls _ _ _ (ap (told 0) (rw c.of.ensures at c.who.ensures)) refl refl

pub returns-in-Draw : goal.returns-in-Draw
returns-in-Draw c =
    cell_does c.args.memory.now c.args.closed.now c.args.open.now (call_of c.args.call) c.requires.fits c.args.caller
    (draw c.in-Draw.number) (ap call_of c.in-Draw.is) c.requires.calls _ _ _ refl refl refl

pub returns-in_default : goal.returns-in_default
returns-in_default c =
    let r = c.in_default in
    let system = a_systems c.args.call r.not-Leave r.not-Interrupt r.not-Fault r.not-Grow r.not-Shrink r.not-Extend
    r.not-Who r.not-Draw in
    let waits = system_waits c.args.memory.now c.args.closed.now c.args.open.now (call_of c.args.call) c.requires.fits
    system.0 system.1 (calls_run c.args.memory.now c.args.caller c.requires.calls) in
    record { answer = ap answer_of c.into-in_default.ensures ∙ waits.answer; memory = waits.memory; pages = waits.pages }
