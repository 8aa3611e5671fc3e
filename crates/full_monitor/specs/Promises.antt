-- What is promised of the program: it does what the definitions say, so nothing gets out by what it tells, and nothing gets in.
use Rattle.std.specs.Prelude.{◌≡◌, ℕ, ◌+◌, ◌*◌, ◌<◌, true, false, ◌≢◌, List, [], ◌∷◌, length, Some, None, Option}
use Rattle.model.specs.Calls.{SystemCall, Call, by_system, by_cell}
use Rattle.model.specs.Answers.{Refusal, refused, told, to_system}
use Rattle.model.specs.Pages.{◌is◌, sealed, held_by, kind, is_in, is_spare}
use Rattle.model.specs.State.{Limits, Sized, State, entry}
use Rattle.model.specs.Monitor.{answer, after}
use Rattle.model.specs.Events.{Event, called, wrote, wrote_open, state, AllPaged}
use Rattle.model.specs.Machine.{Machine, GoodMachine}
use Rattle.model.specs.Worlds.{World, Act, calls, writes, runs, Possible, AllPossible, step, play, Reachable}
use Rattle.model.specs.Worlds.{running_cell, after_run, ending}
use Rattle.model.specs.Observers.{Observer, Alike, Agrees, AllAgree}
use Rattle.model.specs.Changes.{belongs, concerns, AllOthers}
use Rattle.fields.specs.Bytes.{Wide}
use Rattle.answers.specs.Table.{write_answer}
use Rattle.pages.specs.Flat.{flat, page_in}
use Rattle.pages.specs.Layout.{encode}
use Rattle.pages.specs.Rows.{new_memory, numbers_at}
use Rattle.full_monitor.specs.Program.{says, leaves, leaves_pages}

-- The sizes that the monitor has, with every call.
pub record Whole (l : Limits) : Type 0 where
  pub sized : Sized l
  pub can : (k : ℕ) → l.can k ≡ true

-- 1. REFINEMENT. The memory that the program makes of events, the last one first: the words of pages are what the events made them.
unfoldable pub memory_after : List ℕ → State → Event → List ℕ
memory_after m s (called c) = leaves m (flat s.contents) (flat s.open_pages) c
memory_after m s (wrote p ws) = m
memory_after m s (wrote_open o ws) = m

unfoldable pub memory : Limits → List Event → List ℕ
memory l [] = new_memory l.pages l.opens
memory l (e ∷ es) = memory_after (memory l es) (state l es) e

-- After anything, each call is answered as the definitions say, and closed pages are left as they say.
abbrev pub Right : Type 0
Right =
    (l : Limits) (es : List Event) (c : Call) → Whole l → AllPaged l es →
    let s : State = state l es in
    (says (memory l es) (flat s.contents) (flat s.open_pages) c ≡ answer l s c)
    × (leaves_pages (memory l es) (flat s.contents) (flat s.open_pages) c ≡ flat (after l s c).contents)

-- What is refused, and what a cell is told an error for, leaves the memory and closed pages as they were.
abbrev pub Keeps : Limits → List Event → Call → Type 0
Keeps l es c =
    let s : State = state l es in
    (leaves (memory l es) (flat s.contents) (flat s.open_pages) c ≡ memory l es)
    × (leaves_pages (memory l es) (flat s.contents) (flat s.open_pages) c ≡ flat s.contents)

abbrev pub RefusalKeeps : Type 0
RefusalKeeps =
    (l : Limits) (es : List Event) (c : Call) (r : Refusal) → Whole l → AllPaged l es → answer l (state l es) c ≡ refused r → Keeps l es c

abbrev pub ErrorKeeps : Type 0
ErrorKeeps =
    (l : Limits) (es : List Event) (c : Call) (e : ℕ) (ns : List ℕ) → Whole l → AllPaged l es → answer l (state l es) c ≡ told e ns →
    e ≢ 0 → Keeps l es c

-- The memory is always as long as at the start: 256 numbers, and 2,048 for each closed page; and each fits eight bytes.
abbrev pub EnoughMemory : Type 0
EnoughMemory =
    (l : Limits) (es : List Event) → Whole l → AllPaged l es →
    (length (memory l es) ≡ 256 + l.pages * 2048) × Wide (memory l es)

-- 2. In worlds. The program over the memory and pages of a state:
abbrev pub over : {A : Type 0} → (List ℕ → List ℕ → List ℕ → Call → A) → Limits → State → Call → A
over f l s c = f (encode l s) (flat s.contents) (flat s.open_pages) c

-- what is left of the memory and of closed pages after an act,
unfoldable pub run_leaves : Limits → Machine → World → ℕ → Option ℕ → List ℕ
run_leaves l m w x None = encode l w.state
run_leaves l m w x (Some c) = over leaves l (after_run m w c x) (by_cell (ending m w c x))

unfoldable pub act_leaves : Limits → Machine → World → Act → List ℕ
act_leaves l m w (calls c) = over leaves l w.state c
act_leaves l m w (writes o ws) = encode l w.state
act_leaves l m w (runs x) = run_leaves l m w x (running_cell w.state)

unfoldable pub run_leaves_pages : Limits → Machine → World → ℕ → Option ℕ → List ℕ
run_leaves_pages l m w x None = flat w.state.contents
run_leaves_pages l m w x (Some c) = over leaves_pages l (after_run m w c x) (by_cell (ending m w c x))

unfoldable pub act_leaves_pages : Limits → Machine → World → Act → List ℕ
act_leaves_pages l m w (calls c) = over leaves_pages l w.state c
act_leaves_pages l m w (writes o ws) = flat w.state.contents
act_leaves_pages l m w (runs x) = run_leaves_pages l m w x (running_cell w.state)

-- and the bytes of what the system is told in it.
unfoldable pub run_tells : Limits → Machine → World → ℕ → Option ℕ → List ℕ
run_tells l m w x None = []
run_tells l m w x (Some c) = write_answer (to_system (over says l (after_run m w c x) (by_cell (ending m w c x))))

unfoldable pub act_tells : Limits → Machine → World → Act → List ℕ
act_tells l m w (calls c) = write_answer (to_system (over says l w.state c))
act_tells l m w (writes o ws) = []
act_tells l m w (runs x) = run_tells l m w x (running_cell w.state)

abbrev pub all_told : Limits → Machine → World → List Act → List (List ℕ)
all_told l m w [] = []
all_told l m w (a ∷ rest) = act_tells l m w a ∷ all_told l m (step l m w a) rest

-- A statement of every world that can be.
abbrev pub InWorlds : (Limits → Machine → World → Type 0) → Type 0
InWorlds p = (l : Limits) (m : Machine) (w : World) → Whole l → GoodMachine l m → Reachable l m w → p l m w

-- What the program leaves is the memory and the closed pages of the world after the act, so that it goes on in that.
abbrev pub GoesOn : Type 0
GoesOn =
    InWorlds (λ l m w. (a : Act) → (act_leaves l m w a ≡ encode l (step l m w a).state)
    × (act_leaves_pages l m w a ≡ flat (step l m w a).state.contents))

-- 3. CONFIDENTIALITY: in two worlds that look alike to an observer, the bytes that the program tells the system are equal, whatever the
-- system and the observer's cells do, and whatever another cell does that gives the same away in both; in one act, and over whole runs.
abbrev pub TellsNoSecrets : Type 0
TellsNoSecrets =
    (l : Limits) (m : Machine) (os : Observer) (v w : World) (a b : Act) → Whole l → GoodMachine l m → Reachable l m v → Reachable l m w →
    Alike l os v w → Agrees l m os v w a b → Possible l v a → act_tells l m v a ≡ act_tells l m w b

abbrev pub TellsNoSecretsOverRuns : Type 0
TellsNoSecretsOverRuns =
    (l : Limits) (m : Machine) (os : Observer) (v w : World) (ds es : List Act) → Whole l → GoodMachine l m → Reachable l m v →
    Reachable l m w → Alike l os v w → AllAgree l m os v w ds es → AllPossible l m v ds → all_told l m v ds ≡ all_told l m w es

-- 4. INTEGRITY: of a sealed cell the records of its pages in the memory, and the words of those that it holds, stay what they are in any
-- call by the system that does not concern it, and in any run of another cell;
abbrev pub RecordStays : Limits → State → List ℕ → ℕ → Type 0
RecordStays l s m p = numbers_at m p 0 2048 ≡ numbers_at (encode l s) p 0 2048

abbrev pub WordsStay : State → List ℕ → ℕ → Type 0
WordsStay s cs p = page_in cs p ≡ page_in (flat s.contents) p

abbrev pub CellStays : Limits → Machine → ℕ → World → Act → Type 0
CellStays l m o w a =
    ((p : ℕ) → p < l.pages → belongs o w.state p ≡ true → RecordStays l w.state (act_leaves l m w a) p)
    × ((p : ℕ) → p < l.pages → kind (entry w.state p) ≡ held_by o → WordsStay w.state (act_leaves_pages l m w a) p)

abbrev pub CellsAreKept : Type 0
CellsAreKept =
    InWorlds (λ l m w. (o : ℕ) → is_in sealed (entry w.state o) ≡ true →
    ((c : SystemCall) → concerns w.state o c ≡ false → CellStays l m o w (calls (by_system c)))
    × ((x : ℕ) → Possible l w (runs x) → (running_cell w.state is o) ≡ false → CellStays l m o w (runs x)))

-- and over any run of acts in which it is not stopped, and does not itself run: all but its spare pages.
abbrev pub CellsAreKeptOverRuns : Type 0
CellsAreKeptOverRuns =
    InWorlds (λ l m w. (o : ℕ) (acts : List Act) → is_in sealed (entry w.state o) ≡ true → AllPossible l m w acts →
    AllOthers l m o w acts →
    ((p : ℕ) → p < l.pages → belongs o w.state p ≡ true → is_spare (entry w.state p) ≡ false →
    RecordStays l w.state (encode l (play l m w acts).state) p)
    × ((p : ℕ) → p < l.pages → kind (entry w.state p) ≡ held_by o →
    WordsStay w.state (flat (play l m w acts).state.contents) p))
