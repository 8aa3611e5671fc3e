-- What the monitor's code does, as functions of its memory, of the words of closed and of open pages, and of a call: the rooms put
-- together.
use Rattle.std.specs.Prelude.{◌≡◌, ℕ, Bool, true, false, not, ◌&&◌, List, [], ◌∷◌, is_some, Some, None, Option, slice_index}
use Rattle.std.specs.Option.{unwrap_or}
use Rattle.sha256.specs.Measures.{name_words}
use Rattle.model.specs.Calls.{SystemCall, CellCall, Call, by_system, by_cell, garbled}
use Rattle.model.specs.Calls.{how_many, new_cell, new_thread, new_table, hold, give, show, remove, seal, stop, enter, resume}
use Rattle.model.specs.Calls.{leave, interrupt, fault, grow, shrink, extend, who, draw}
use Rattle.model.specs.Answers.{Answer, refused, done, number, enters, told, left}
use Rattle.model.specs.Pages.{sealed, stopped}
use Rattle.model.specs.State.{word, seventeen, no_registers}
use Rattle.model.specs.Refusals.{Check, ◌else◌, failing}
use Rattle.pages.specs.Rows.{running_in, running_put}
use Rattle.full_pages.specs.Meaning.{cleared}
use Rattle.pages.specs.Meaning.{measure_in}
use Rattle.lookups.specs.Lookups.{cell_of, thread_of, top_of, caller}
use Rattle.lookups.specs.declared.Caller.{Caller}
use Rattle.building.specs.Checks.{make_checks, start_checks, add_checks, hold_checks, give_checks, show_checks}
use Rattle.building.specs.Made.{made_cell, made_thread, made_table, held_memory, held_pages, given, shown}
use Rattle.lifecycle.specs.Checks.{remove_checks, seal_checks, stop_checks}
use Rattle.lifecycle.specs.Made.{in_phase}
use Rattle.running.specs.Checks.{enter_checks, resume_checks}
use Rattle.running.specs.Made.{top_for, first_registers, kept_registers, run_ended}
use Rattle.growing.specs.Checks.{in_range, grow_checks, shrink_checks, extend_checks}
use Rattle.growing.specs.Made.{grown, grown_pages, shrunk, extended}

-- Whether the numbers of a call are in range.
abbrev pub system_fits : SystemCall → Bool
system_fits how_many = true
system_fits (new_cell p t) = true
system_fits (new_thread p c a) = word a
system_fits (new_table p c i) = true
system_fits (hold p c w o) = in_range w
system_fits (give p c) = true
system_fits (show o c w) = in_range w
system_fits (remove p) = true
system_fits (seal c) = true
system_fits (stop c) = true
system_fits (enter t x y z) = word x && (word y && word z)
system_fits (resume t) = true

abbrev pub cell_fits : CellCall → Bool
cell_fits (leave n) = word n
cell_fits (interrupt rs) = seventeen rs
cell_fits (fault n) = word n
cell_fits (grow p w) = true
cell_fits (shrink p w) = true
cell_fits (extend p i) = true
cell_fits who = true
cell_fits (draw n) = word n

abbrev pub fits : Call → Bool
fits (by_system c) = system_fits c
fits (by_cell c) = cell_fits c
fits (garbled n) = true

-- The checks of a call by the system, while none runs.
abbrev pub system_checks : List ℕ → SystemCall → List Check
system_checks m how_many = []
system_checks m (new_cell p t) = make_checks m p t
system_checks m (new_thread p c a) = start_checks m p c
system_checks m (new_table p c i) = add_checks m p c i
system_checks m (hold p c w o) = hold_checks m p c w o
system_checks m (give p c) = give_checks m p c
system_checks m (show o c w) = show_checks m o c w
system_checks m (remove p) = remove_checks m p
system_checks m (seal c) = seal_checks m c
system_checks m (stop c) = stop_checks m c
system_checks m (enter t x y z) = enter_checks m t
system_checks m (resume t) = resume_checks m t

-- The memory that it leaves, the words of closed pages, and the answer, if all checks hold.
abbrev pub system_memory : List ℕ → List ℕ → SystemCall → List ℕ
system_memory m os how_many = m
system_memory m os (new_cell p t) = made_cell m p t
system_memory m os (new_thread p c a) = made_thread m p c a
system_memory m os (new_table p c i) = made_table m p c (top_of (cell_of m c)) i
system_memory m os (hold p c w o) = held_memory m os p c w o
system_memory m os (give p c) = given m p c
system_memory m os (show o c w) = shown m o c w
system_memory m os (remove p) = cleared m p
system_memory m os (seal c) = in_phase m c sealed
system_memory m os (stop c) = in_phase m c stopped
system_memory m os (enter t x y z) = running_put m (Some t)
system_memory m os (resume t) = running_put m (Some t)

abbrev pub system_pages : List ℕ → List ℕ → SystemCall → List ℕ
system_pages cs os how_many = cs
system_pages cs os (new_cell p t) = cs
system_pages cs os (new_thread p c a) = cs
system_pages cs os (new_table p c i) = cs
system_pages cs os (hold p c w o) = held_pages cs os p o
system_pages cs os (give p c) = cs
system_pages cs os (show o c w) = cs
system_pages cs os (remove p) = cs
system_pages cs os (seal c) = cs
system_pages cs os (stop c) = cs
system_pages cs os (enter t x y z) = cs
system_pages cs os (resume t) = cs

abbrev pub system_reply : List ℕ → SystemCall → Answer
system_reply m how_many = number (slice_index m 0)
system_reply m (new_cell p t) = done
system_reply m (new_thread p c a) = done
system_reply m (new_table p c i) = done
system_reply m (hold p c w o) = done
system_reply m (give p c) = done
system_reply m (show o c w) = done
system_reply m (remove p) = done
system_reply m (seal c) = done
system_reply m (stop c) = done
system_reply m (enter t x y z) = enters (top_for m (thread_of m t)) (first_registers m t x y z)
system_reply m (resume t) = enters (top_for m (thread_of m t)) (kept_registers m t)

-- The same for a call by a cell, with who calls.
abbrev pub cell_checks : List ℕ → Caller → CellCall → List Check
cell_checks m k (leave n) = []
cell_checks m k (interrupt rs) = []
cell_checks m k (fault n) = []
cell_checks m k (grow p w) = grow_checks m k p w
cell_checks m k (shrink p w) = shrink_checks m k p w
cell_checks m k (extend p i) = extend_checks m k p i
cell_checks m k who = []
cell_checks m k (draw n) = []

abbrev pub cell_memory : List ℕ → Caller → CellCall → List ℕ
cell_memory m k (leave n) = run_ended m k.thread false no_registers
cell_memory m k (interrupt rs) = run_ended m k.thread true rs
cell_memory m k (fault n) = run_ended m k.thread false no_registers
cell_memory m k (grow p w) = grown m k p w
cell_memory m k (shrink p w) = shrunk m k p w
cell_memory m k (extend p i) = extended m k p i
cell_memory m k who = m
cell_memory m k (draw n) = m

abbrev pub cell_pages : List ℕ → CellCall → List ℕ
cell_pages cs (leave n) = cs
cell_pages cs (interrupt rs) = cs
cell_pages cs (fault n) = cs
cell_pages cs (grow p w) = grown_pages cs p
cell_pages cs (shrink p w) = cs
cell_pages cs (extend p i) = cs
cell_pages cs who = cs
cell_pages cs (draw n) = cs

abbrev pub cell_reply : List ℕ → Caller → CellCall → Answer
cell_reply m k (leave n) = left 0 n
cell_reply m k (interrupt rs) = left 1 0
cell_reply m k (fault n) = left 2 n
cell_reply m k (grow p w) = told (unwrap_or (failing (grow_checks m k p w)) 0) []
cell_reply m k (shrink p w) = told (unwrap_or (failing (shrink_checks m k p w)) 0) []
cell_reply m k (extend p i) = told (unwrap_or (failing (extend_checks m k p i)) 0) []
cell_reply m k who = told 0 (name_words (measure_in m k.cell))
cell_reply m k (draw n) = told 0 (n ∷ [])

-- What is made, unless a check fails; an answer, unless one does.
abbrev pub unless : {A : Type 0} → A → A → Option ℕ → A
unless made before None = made
unless made before (Some k) = before

abbrev pub reply_unless : Answer → Option ℕ → Answer
reply_unless a None = a
reply_unless a (Some k) = refused (record { number = k; place = 0 })

-- All checks: the range, whether the caller may call now, and the call's own.
abbrev pub system_failing : List ℕ → SystemCall → Option ℕ
system_failing m c = failing (system_fits c else 2 ∷ not (is_some (running_in m)) else 14 ∷ system_checks m c)

abbrev pub cell_failing : List ℕ → CellCall → Option ℕ
cell_failing m c = failing (cell_fits c else 2 ∷ is_some (caller m) else 14 ∷ [])

abbrev pub caller_memory : List ℕ → CellCall → Option Caller → List ℕ
caller_memory m c None = m
caller_memory m c (Some k) = unless (cell_memory m k c) m (failing (cell_checks m k c))

abbrev pub caller_pages : List ℕ → List ℕ → CellCall → Option Caller → List ℕ
caller_pages m cs c None = cs
caller_pages m cs c (Some k) = unless (cell_pages cs c) cs (failing (cell_checks m k c))

abbrev pub caller_reply : List ℕ → CellCall → Option Caller → Answer
caller_reply m c None = done
caller_reply m c (Some k) = cell_reply m k c

-- What the machine is answered, the memory after a call, and the words of closed pages after it.
unfoldable pub says : List ℕ → List ℕ → List ℕ → Call → Answer
says m cs os (by_system c) = reply_unless (system_reply m c) (system_failing m c)
says m cs os (by_cell c) = reply_unless (caller_reply m c (caller m)) (cell_failing m c)
says m cs os (garbled n) = refused (record { number = 1; place = n })

unfoldable pub leaves : List ℕ → List ℕ → List ℕ → Call → List ℕ
leaves m cs os (by_system c) = unless (system_memory m os c) m (system_failing m c)
leaves m cs os (by_cell c) = unless (caller_memory m c (caller m)) m (cell_failing m c)
leaves m cs os (garbled n) = m

unfoldable pub leaves_pages : List ℕ → List ℕ → List ℕ → Call → List ℕ
leaves_pages m cs os (by_system c) = unless (system_pages cs os c) cs (system_failing m c)
leaves_pages m cs os (by_cell c) = unless (caller_pages m cs c (caller m)) cs (cell_failing m c)
leaves_pages m cs os (garbled n) = cs

-- It does what is said.
pub record Does (m cs os : List ℕ) (c : Call) (a : Answer) (after closed : List ℕ) : Type 0 where
  pub answer : a ≡ says m cs os c
  pub memory : after ≡ leaves m cs os c
  pub pages : closed ≡ leaves_pages m cs os c
