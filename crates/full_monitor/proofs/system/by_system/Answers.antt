use Rattle.std.proofs.Common.{refl, ap, ◌∙◌}
use Rattle.fields.specs.Shapes.{place_of}
use Rattle.answers.specs.Meaning.{answer_of}
use Rattle.calls.specs.Meaning.{call_of}
use Rattle.model.specs.Answers.{number}
use Rattle.model.specs.Calls.{how_many, new_cell, new_thread, new_table, hold, give, show, remove, seal, stop, enter, resume}
use Rattle.lookups.specs.Lookups.{caller_of}
use Rattle.full_monitor.specs.Program.{system_checks, system_memory, system_pages}
use Rattle.full_monitor.proofs.Doing.{taken_leaves, taken_done, system_does, done_does, entered_does, cell_waits}
use Rattle.full_monitor.proofs.Whose.{a_cells}
use Rattle.full_monitor.proofs.system.by_system.Goals as goal

pub returns-in-HowMany : goal.returns-in-HowMany
returns-in-HowMany c =
    system_does c.args.memory.now c.args.closed.now c.args.open.now (call_of c.args.call) c.requires.fits
    how_many (ap call_of c.in-HowMany.is) c.requires.idle _ _ _ (ap number c.pages.ensures) refl refl

pub returns-in-NewCell : goal.returns-in-NewCell
returns-in-NewCell c =
    done_does c.args.memory.now c.args.closed.now c.args.open.now (call_of c.args.call) c.requires.fits
    (new_cell c.in-NewCell.first c.in-NewCell.top) (ap call_of c.in-NewCell.is) c.requires.idle
    c.new_cell.result _ _ c.done.ensures c.new_cell.ensures refl refl

pub returns-in-NewThread : goal.returns-in-NewThread
returns-in-NewThread c =
    done_does c.args.memory.now c.args.closed.now c.args.open.now (call_of c.args.call) c.requires.fits
    (new_thread c.in-NewThread.page c.in-NewThread.cell c.in-NewThread.start) (ap call_of c.in-NewThread.is) c.requires.idle
    c.new_thread.result _ _ c.done-in-NewThread.ensures c.new_thread.ensures refl refl

pub returns-in-NewTable : goal.returns-in-NewTable
returns-in-NewTable c =
    done_does c.args.memory.now c.args.closed.now c.args.open.now (call_of c.args.call) c.requires.fits
    (new_table c.in-NewTable.page c.in-NewTable.cell c.in-NewTable.index) (ap call_of c.in-NewTable.is) c.requires.idle
    c.new_table.result _ _ c.done-in-NewTable.ensures c.new_table.ensures refl refl

pub returns-in-Give : goal.returns-in-Give
returns-in-Give c =
    done_does c.args.memory.now c.args.closed.now c.args.open.now (call_of c.args.call) c.requires.fits
    (give c.in-Give.page c.in-Give.cell) (ap call_of c.in-Give.is) c.requires.idle
    c.give.result _ _ c.done-in-Give.ensures c.give.ensures refl refl

pub returns-in-Show : goal.returns-in-Show
returns-in-Show c =
    done_does c.args.memory.now c.args.closed.now c.args.open.now (call_of c.args.call) c.requires.fits
    (show c.in-Show.open c.in-Show.cell (place_of c.in-Show.place)) (ap call_of c.in-Show.is) c.requires.idle
    c.show.result _ _ c.done-in-Show.ensures c.show.ensures refl refl

pub returns-in-Remove : goal.returns-in-Remove
returns-in-Remove c =
    done_does c.args.memory.now c.args.closed.now c.args.open.now (call_of c.args.call) c.requires.fits
    (remove c.in-Remove.page) (ap call_of c.in-Remove.is) c.requires.idle
    c.remove.result _ _ c.done-in-Remove.ensures c.remove.ensures refl refl

pub returns-in-Seal : goal.returns-in-Seal
returns-in-Seal c =
    done_does c.args.memory.now c.args.closed.now c.args.open.now (call_of c.args.call) c.requires.fits
    (seal c.in-Seal.cell) (ap call_of c.in-Seal.is) c.requires.idle
    c.seal.result _ _ c.done-in-Seal.ensures c.seal.ensures refl refl

pub returns-in-Stop : goal.returns-in-Stop
returns-in-Stop c =
    done_does c.args.memory.now c.args.closed.now c.args.open.now (call_of c.args.call) c.requires.fits
    (stop c.in-Stop.cell) (ap call_of c.in-Stop.is) c.requires.idle
    c.stop.result _ _ c.done-in-Stop.ensures c.stop.ensures refl refl

pub returns-in-Hold : goal.returns-in-Hold
returns-in-Hold c =
    let m = c.args.memory.now in
    let os = c.args.open.now in
    let call = hold c.in-Hold.page c.in-Hold.cell (place_of c.in-Hold.place) c.in-Hold.source in
    system_does c.args.memory.now c.args.closed.now c.args.open.now (call_of c.args.call) c.requires.fits
    call (ap call_of c.in-Hold.is) c.requires.idle _ _ _
    (c.done-in-Hold.ensures ∙ taken_done (system_checks m call) m (system_memory m os call) _ c.hold.result c.hold.ensures.memory)
    (taken_leaves (system_checks m call) m (system_memory m os call) _ c.hold.result c.hold.ensures.memory)
    (taken_leaves (system_checks m call) c.args.closed.now (system_pages c.args.closed.now os call) _ c.hold.result
    c.hold.ensures.closed)

pub returns-in-Enter : goal.returns-in-Enter
returns-in-Enter c =
    entered_does c.args.memory.now c.args.closed.now c.args.open.now (call_of c.args.call) c.requires.fits
    (enter c.in-Enter.thread c.in-Enter.x c.in-Enter.y c.in-Enter.z) (ap call_of c.in-Enter.is) c.requires.idle
    _ _ c.enter.result _ _ c.entered.ensures c.enter.ensures refl refl refl

pub returns-in-Resume : goal.returns-in-Resume
returns-in-Resume c =
    entered_does c.args.memory.now c.args.closed.now c.args.open.now (call_of c.args.call) c.requires.fits
    (resume c.in-Resume.thread) (ap call_of c.in-Resume.is) c.requires.idle
    _ _ c.resume.result _ _ c.entered-in-Resume.ensures c.resume.ensures refl refl refl

pub returns-in_default : goal.returns-in_default
returns-in_default c =
    let r = c.in_default in
    let cell = a_cells c.args.call r.not-HowMany r.not-NewCell r.not-NewThread r.not-NewTable r.not-Hold r.not-Give
    r.not-Show r.not-Remove r.not-Seal r.not-Stop r.not-Enter r.not-Resume in
    let waits = cell_waits c.args.memory.now c.args.closed.now c.args.open.now (call_of c.args.call) c.requires.fits
    cell.0 cell.1 (ap (caller_of c.args.memory.now) c.requires.idle) in
    record { answer = ap answer_of c.into.ensures ∙ waits.answer; memory = waits.memory; pages = waits.pages }
