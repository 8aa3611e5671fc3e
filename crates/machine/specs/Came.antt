-- What a step, and so many steps, come to on the lent words.
use Rattle.std.specs.Prelude.{◌≡◌, ℕ, suc, ◌+◌, ◌*◌, List, [], ◌∷◌, take, Some, None, Option}
use Rattle.std.specs.Option.{option_map}
use Rattle.std.specs.declared.ops.ControlFlow.{ControlFlow}
use Rattle.std.specs.declared.ops.ControlFlow.TheVariants.{Continue, Break}
use Rattle.model.specs.Calls as model
use Rattle.model.specs.Calls.{by_cell}
use Rattle.model.specs.Pages.{Cell, cell}
use Rattle.model.specs.State.{Limits, entry}
use Rattle.model.specs.Invariant.{Live}
use Rattle.model.specs.Events.{Event, state}
use Rattle.model.specs.Machine.{Machine}
use Rattle.model.specs.Worlds.{World, ran, ending, after_run}
use Rattle.model.specs.Processor.{Step, moves, stores, asks, Came, steps, machine_of}
use Rattle.calls.specs.Meaning.{call_of}
use Rattle.calls.specs.declared.call.Call.{Call}
use Rattle.fields.specs.declared.values.Registers.{Registers}
use Rattle.pages.specs.Flat.{flat}
use Rattle.full_monitor.specs.Called.{Made}
use Rattle.machine.specs.Instructions.{made_up, with_register, low}
use Rattle.machine.specs.Lent.{Words, lent}
use Rattle.machine.specs.Held.{words_of, Kept}
use Rattle.machine.specs.declared.seeing.Lent.{Lent}
use Rattle.machine.specs.declared.values.Ran.{Ran}

-- the registers after a step, the call that it ended with, if it did, and the words
abbrev pub step_registers : Step → List ℕ
step_registers (moves rs) = rs
step_registers (stores rs x v) = rs
step_registers (asks rs c) = rs

abbrev pub step_ends : Step → Option model.Call
step_ends (moves rs) = None
step_ends (stores rs x v) = None
step_ends (asks rs c) = Some (by_cell c)

abbrev pub step_words : List ℕ → ℕ → Words → Step → Words
step_words m t w (moves rs) = w
step_words m t w (stores rs x v) = (lent m t).store w x v
step_words m t w (asks rs c) = w

-- the registers that a step left, and the call that it ended with, if it did
abbrev pub left : ControlFlow Ran Registers → Registers
left (Continue rs) = rs
left (Break r) = r.registers

abbrev pub ended_with : ControlFlow Ran Registers → Option Call
ended_with (Continue rs) = None
ended_with (Break r) = Some r.ends

-- It comes to that step.
pub record Comes (before after : Lent) (s : Step) (r : ControlFlow Ran Registers) : Type 0 where
  pub registers : (left r).words ≡ step_registers s
  pub ends : option_map call_of (ended_with r) ≡ step_ends s
  pub words : words_of after ≡ step_words before.memory.now before.top (words_of before) s
  pub kept : Kept before after

-- A run: so many steps of the made_up processor, over the lent words.
abbrev pub run_of : List ℕ → ℕ → ℕ → ℕ → List ℕ → Words → Came Words
run_of m t n chance rs w = steps (lent m t) made_up n chance rs w

pub record Runs (m : List ℕ) (t : ℕ) (before after : Words) (n chance : ℕ) (rs : List ℕ) (r : Ran) : Type 0 where
  pub registers : r.registers.words ≡ (run_of m t n chance rs before).registers
  pub ends : call_of r.ends ≡ by_cell (run_of m t n chance rs before).ends
  pub words : after ≡ (run_of m t n chance rs before).memory

-- With which registers a thread goes on that is told an error, or 0, and numbers: the error in register 0, and up to eight numbers from
-- register 1 on.
unfoldable pub told_on : ℕ → List ℕ → List ℕ → List ℕ
told_on i [] rs = rs
told_on i (n ∷ ns) rs = told_on (suc i) ns (with_register rs i (low n))

abbrev pub goes_on : List ℕ → ℕ → List ℕ → List ℕ
goes_on rs e ns = told_on 0 (e ∷ take 8 ns) rs

-- The machine of the definitions that it is. Chance says for how many steps at most it runs, and which number is drawn.
abbrev pub made_up_machine : Machine
made_up_machine = machine_of made_up goes_on

abbrev pub chance_of : ℕ → ℕ → ℕ
chance_of n drawn = n * 4294967296 + drawn

-- REFINEMENT: where events made what is lent, and the top table is that of a cell which is not stopped, a run is the definitions' run of
-- that machine: its registers, the call that ends it, and the words of closed and of open pages.
pub record RunIs (w : World) (c chance : ℕ) (after : Words) (r : Ran) : Type 0 where
  pub registers : r.registers.words ≡ (ran made_up_machine w c chance).registers
  pub ends : call_of r.ends ≡ by_cell (ending made_up_machine w c chance)
  pub closed_pages : after.closed_pages ≡ flat (after_run made_up_machine w c chance).contents
  pub open_pages : after.open_pages ≡ flat (after_run made_up_machine w c chance).open_pages

abbrev pub Refines : List ℕ → ℕ → Words → Words → ℕ → ℕ → List ℕ → Ran → Type 0
Refines m t before after n drawn rs r =
    (l : Limits) (es : List Event) (c : ℕ) (x : Cell) → Made l es m before.closed_pages before.open_pages →
    entry (state l es) c ≡ cell x → x.top ≡ t → Live (state l es) c →
    RunIs (record { state = state l es; registers = rs }) c (chance_of n drawn) after r
