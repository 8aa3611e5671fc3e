-- What the monitor does with each call: what it answers, and what it changes.
use Rattle.std.specs.Prelude.{ℕ, true, false, List, [], ◌∷◌, ◌++◌, replicate, Some, None, Option, slice_index_or}
use Rattle.model.specs.Calls.{Place, SystemCall, CellCall, Call, by_system, by_cell, garbled}
use Rattle.model.specs.Calls.{how_many, new_cell, new_thread, new_table, hold, give, show, remove, seal, stop, enter, resume}
use Rattle.model.specs.Calls.{leave, interrupt, fault, grow, shrink, extend, who, draw}
use Rattle.model.specs.Answers.{Refusal, Answer, refused, done, number, enters, told, left}
use Rattle.model.specs.Measured.{thread_from, page_at, none_yet, name}
use Rattle.model.specs.Pages.{nothing, closed, opened, building, sealed, stopped, Cell, Thread}
use Rattle.model.specs.Pages.{free, cell, thread, top, table, held, spare, cell_in, thread_in}
use Rattle.model.specs.State.{Limits, State, entry, zeros, no_registers, Caller, caller, owner}
use Rattle.model.specs.State.{Edit, put_entry, put_slot, put_table, measure, set_phase, set_thread, write_page, run, apply_all}
use Rattle.model.specs.Refusals.{refusal, failing, cell_checks, error}

-- What a page gets that is held: the words of an open page, or zeros.
unfoldable pub copied : Limits → State → Option ℕ → List ℕ
copied l s None = zeros l
copied l s (Some o) = slice_index_or s.open_pages o (zeros l)

-- A page becomes one that a cell holds, sees at a place, and that has these words.
abbrev pub becomes_held : ℕ → ℕ → Place → List ℕ → List Edit
becomes_held p c w ws =
    put_entry p (held (record { cell = c })) ∷ put_slot c w (closed p w.write w.run) ∷ write_page p ws ∷ []

-- A page becomes an empty table of a cell, at a place of its top table.
abbrev pub becomes_table : Limits → ℕ → ℕ → ℕ → List Edit
becomes_table l p c i = put_entry p (table (record { cell = c; slots = replicate l.slots nothing })) ∷ put_table c i p ∷ []

-- What a call by the system changes, if it is not refused.
unfoldable pub system_edits : Limits → State → SystemCall → List Edit
system_edits l s how_many = []
system_edits l s (new_cell p t) =
    put_entry p (cell (record { top = t; phase = building; measured = none_yet }))
    ∷ put_entry t (top (record { cell = p; tables = replicate l.places None })) ∷ []
system_edits l s (new_thread p c a) =
    put_entry p (thread (record { cell = c; start = a; under_way = false; registers = no_registers })) ∷ measure c (thread_from a) ∷ []
system_edits l s (new_table p c i) = becomes_table l p c i
system_edits l s (hold p c w o) = becomes_held p c w (copied l s o) ++ (measure c (page_at w (copied l s o)) ∷ [])
system_edits l s (give p c) = put_entry p (spare (record { cell = c })) ∷ []
system_edits l s (show o c w) = put_slot c w (opened o w.write) ∷ []
system_edits l s (remove p) = put_entry p free ∷ []
system_edits l s (seal c) = set_phase c sealed ∷ []
system_edits l s (stop c) = set_phase c stopped ∷ []
system_edits l s (enter t x y z) = run (Some t) ∷ []
system_edits l s (resume t) = run (Some t) ∷ []

-- What a call by a cell changes, if it is not refused, and no error is told.
unfoldable pub cell_edits : Limits → Caller → CellCall → List Edit
cell_edits l k (leave n) = set_thread k.thread false no_registers ∷ run None ∷ []
cell_edits l k (interrupt rs) = set_thread k.thread true rs ∷ run None ∷ []
cell_edits l k (fault n) = set_thread k.thread false no_registers ∷ run None ∷ []
cell_edits l k (grow p w) = becomes_held p k.cell w (zeros l)
cell_edits l k (shrink p w) = put_slot k.cell w nothing ∷ put_entry p (spare (record { cell = k.cell })) ∷ []
cell_edits l k (extend p i) = becomes_table l p k.cell i
cell_edits l k who = []
cell_edits l k (draw n) = []

-- Edits, or none where something speaks against them.
unfoldable pub edits_or : {A : Type 0} → List Edit → Option A → List Edit
edits_or es None = es
edits_or es (Some x) = []

unfoldable pub caller_edits : Limits → State → CellCall → Option Caller → List Edit
caller_edits l s c None = []
caller_edits l s c (Some k) = edits_or (cell_edits l k c) (failing (cell_checks l s k c))

-- What a call changes that is not refused.
unfoldable pub changed : Limits → State → Call → List Edit
changed l s (by_system c) = system_edits l s c
changed l s (by_cell c) = caller_edits l s c (caller s)
changed l s (garbled n) = []

-- A thread is entered: the machine is told its cell's top table, and the registers.
unfoldable pub entered : Option Cell → List ℕ → Answer
entered None rs = done
entered (Some x) rs = enters x.top rs

-- The registers of a thread that starts, with three numbers: where it starts is the last but one.
unfoldable pub first_registers : Option Thread → ℕ → ℕ → ℕ → List ℕ
first_registers None x y z = []
first_registers (Some h) x y z = x ∷ y ∷ z ∷ (replicate 12 0 ++ (h.start ∷ 0 ∷ []))

-- The registers that were kept.
unfoldable pub kept_registers : Option Thread → List ℕ
kept_registers None = []
kept_registers (Some h) = h.registers

-- What the system's call is answered, if it is not refused.
unfoldable pub system_reply : Limits → State → SystemCall → Answer
system_reply l s how_many = number l.pages
system_reply l s (new_cell p t) = done
system_reply l s (new_thread p c a) = done
system_reply l s (new_table p c i) = done
system_reply l s (hold p c w o) = done
system_reply l s (give p c) = done
system_reply l s (show o c w) = done
system_reply l s (remove p) = done
system_reply l s (seal c) = done
system_reply l s (stop c) = done
system_reply l s (enter t x y z) = entered (owner s t) (first_registers (thread_in (entry s t)) x y z)
system_reply l s (resume t) = entered (owner s t) (kept_registers (thread_in (entry s t)))

-- A cell's name, as eight words.
unfoldable pub name_in : Option Cell → List ℕ
name_in None = []
name_in (Some x) = name x.measured

-- What a cell's call is answered, if it is not refused.
unfoldable pub cell_reply : Limits → State → Caller → CellCall → Answer
cell_reply l s k (leave n) = left 0 n
cell_reply l s k (interrupt rs) = left 1 0
cell_reply l s k (fault n) = left 2 n
cell_reply l s k (grow p w) = told (error l s k (grow p w)) []
cell_reply l s k (shrink p w) = told (error l s k (shrink p w)) []
cell_reply l s k (extend p i) = told (error l s k (extend p i)) []
cell_reply l s k who = told 0 (name_in (cell_in (entry s k.cell)))
cell_reply l s k (draw n) = told 0 (n ∷ [])

unfoldable pub caller_reply : Limits → State → CellCall → Option Caller → Answer
caller_reply l s c None = done
caller_reply l s c (Some k) = cell_reply l s k c

-- What a call is answered that is not refused.
unfoldable pub reply : Limits → State → Call → Answer
reply l s (by_system c) = system_reply l s c
reply l s (by_cell c) = caller_reply l s c (caller s)
reply l s (garbled n) = done

unfoldable pub answer_or : Answer → Option Refusal → Answer
answer_or a None = a
answer_or a (Some r) = refused r

-- What a call is answered, what it changes, and the state after it.
abbrev pub answer : Limits → State → Call → Answer
answer l s c = answer_or (reply l s c) (refusal l s c)

abbrev pub edits : Limits → State → Call → List Edit
edits l s c = edits_or (changed l s c) (refusal l s c)

abbrev pub after : Limits → State → Call → State
after l s c = apply_all s (edits l s c)
