-- Worlds: the monitor's state with the registers of the cell that runs; everything that can happen, and which worlds can be.
use Rattle.std.specs.Prelude.{◌≡◌, ℕ, ◌<◌, true, List, [], ◌∷◌, is_some, Some, None, Option, slice_set}
use Rattle.model.specs.Calls.{Call, CellCall, by_system, by_cell, garbled}
use Rattle.model.specs.Answers.{Answer, refused, done, number, enters, told, left}
use Rattle.model.specs.State.{Limits, State, new_state, Page, Caller, caller, with_open_pages}
use Rattle.model.specs.Monitor.{answer, after}
use Rattle.model.specs.Machine.{Machine, Ran, sight, written, ended_by}

pub record World : Type 0 where
  pub state : State
  pub registers : List ℕ  -- of the thread that runs

abbrev pub new_world : Limits → World
new_world l = record { state = new_state l; registers = [] }

-- The cell that runs, if one does.
unfoldable pub cell_by : Option Caller → Option ℕ
cell_by None = None
cell_by (Some k) = Some k.cell

abbrev pub running_cell : State → Option ℕ
running_cell s = cell_by (caller s)

-- The machine's registers after an answer.
unfoldable pub registers_after : Machine → List ℕ → Answer → List ℕ
registers_after m rs (refused r) = rs
registers_after m rs done = rs
registers_after m rs (number n) = rs
registers_after m rs (enters t qs) = qs
registers_after m rs (told e ns) = m.goes_on rs e ns
registers_after m rs (left j n) = []

-- A call that the system makes.
abbrev pub by_call : Limits → Machine → World → Call → World
by_call l m w c = record { state = after l w.state c; registers = registers_after m w.registers (answer l w.state c) }

-- What the cell c comes to that runs; the call that ends its run; and the state that it leaves before that call.
abbrev pub ran : Machine → World → ℕ → ℕ → Ran
ran m w c chance = m.runs w.registers (sight w.state c) chance

abbrev pub ending : Machine → World → ℕ → ℕ → CellCall
ending m w c chance = let r : Ran = ran m w c chance in ended_by r.registers r.ends

abbrev pub after_run : Machine → World → ℕ → ℕ → State
after_run m w c chance = written c (ran m w c chance).words w.state

-- A run of the cell c, with the call that ends it: what is answered, and the world then.
abbrev pub run_answer : Limits → Machine → World → ℕ → ℕ → Answer
run_answer l m w c chance = answer l (after_run m w c chance) (by_cell (ending m w c chance))

abbrev pub by_run : Limits → Machine → World → ℕ → ℕ → World
by_run l m w c chance = record {
  state = after l (after_run m w c chance) (by_cell (ending m w c chance));
  registers = registers_after m (ran m w c chance).registers (run_answer l m w c chance);
}

-- What can happen: the system calls, with whatever bytes; it writes an open page; the cell that runs, runs.
pub data Act : Type 0 where
  calls : Call → Act
  writes : ℕ → List ℕ → Act
  runs : ℕ → Act  -- with a number that stands for chance

-- When it can: a cell's call comes from the system only where none runs, and is refused then; what is written is a page.
unfoldable pub PossibleCall : State → Call → Type 0
PossibleCall s (by_system c) = Unit {0}
PossibleCall s (by_cell c) = s.running ≡ None
PossibleCall s (garbled n) = Unit {0}

unfoldable pub Possible : Limits → World → Act → Type 0
Possible l w (calls c) = PossibleCall w.state c
Possible l w (writes o ws) = (o < l.opens) × Page l ws
Possible l w (runs chance) = is_some (running_cell w.state) ≡ true

unfoldable pub run_of : Limits → Machine → World → ℕ → Option ℕ → World
run_of l m w chance None = w
run_of l m w chance (Some c) = by_run l m w c chance

-- The world after an act, and after a list of them, the first one first.
unfoldable pub step : Limits → Machine → World → Act → World
step l m w (calls c) = by_call l m w c
step l m w (writes o ws) = record { state = with_open_pages w.state (slice_set w.state.open_pages o ws); registers = w.registers }
step l m w (runs chance) = run_of l m w chance (running_cell w.state)

abbrev pub play : Limits → Machine → World → List Act → World
play l m w [] = w
play l m w (a ∷ rest) = play l m (step l m w a) rest

abbrev pub AllPossible : Limits → Machine → World → List Act → Type 0
AllPossible l m w [] = Unit {0}
AllPossible l m w (a ∷ rest) = Possible l w a × AllPossible l m (step l m w a) rest

-- A world that can be: one that some acts make, each of them possible.
pub record Reachable (l : Limits) (m : Machine) (w : World) : Type 0 where
  pub acts : List Act
  pub possible : AllPossible l m (new_world l) acts
  pub made : play l m (new_world l) acts ≡ w

-- What is answered in an act.
unfoldable pub answer_of : Limits → Machine → World → ℕ → Option ℕ → Answer
answer_of l m w chance None = done
answer_of l m w chance (Some c) = run_answer l m w c chance

unfoldable pub act_answer : Limits → Machine → World → Act → Answer
act_answer l m w (calls c) = answer l w.state c
act_answer l m w (writes o ws) = done
act_answer l m w (runs chance) = answer_of l m w chance (running_cell w.state)
