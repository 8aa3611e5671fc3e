-- What is promised: each a statement, a type. Those that the contract of a function in src/ names are proved. All are for any limits, and
-- so for any set of calls that a stage has, unless sizes are named; for any machine that is good; and for any observer.
use Rattle.std.specs.Prelude.{◌≡◌, ℕ, ◌%◌, ◌<◌, ◌≤◌, Bool, true, false, not, ◌&&◌, ◌||◌, ◌≢◌, List, [], length, is_some, Some, None, Option, ◌==◌, nat_lt, slice_index_or}
use Rattle.model.specs.Calls.{Place, SystemCall, Call, by_system, by_cell, hold, give, remove, stop, grow}
use Rattle.model.specs.Answers.{Refusal, refused, done, told}
use Rattle.model.specs.Pages.{closed, building, sealed, stopped, phase_number, Cell, free, cell, spare, thread_of, held_by, spare_of}
use Rattle.model.specs.Pages.{kind, is_free, is_cell, is_in, cell_of, slot_at, ◌is◌}
use Rattle.model.specs.State.{Limits, Sized, State, entry, zeros, seventeen}
use Rattle.model.specs.Monitor.{answer, after}
use Rattle.model.specs.Machine.{Machine, GoodMachine, ended_by}
use Rattle.model.specs.Worlds.{World, Act, writes, runs, new_world, Possible, AllPossible, step, play, Reachable}
use Rattle.model.specs.Worlds.{running_cell, ran, ending, after_run}
use Rattle.model.specs.Observers.{Observer, Alike, Agrees, AllAgree, SameGiven, observed, all_observed}
use Rattle.model.specs.Invariant.{Invariant, Live}
use Rattle.model.specs.Changes.{Untouched, Kept, Becomes, concerns, AllOthers, StaysCell}
use Rattle.model.specs.Events.{Event, state, AllPaged, AllReadable}
use Rattle.model.specs.Builds.{built, parts_words}
use Rattle.model.specs.Processor.{Processor, machine_of, played, GoodProcessor}

-- The calls of the first stage: cells are built, sealed, entered, leave, and are stopped; and of the whole.
abbrev pub thin : ℕ → Bool
thin k = (nat_lt k 12 && not (k == 5 || k == 6)) || (k == 20 || (k == 21 || k == 22))

abbrev pub all : ℕ → Bool
all k = true

-- A statement of every world that can be.
abbrev pub Always : (Limits → State → Type 0) → Type 0
Always p = (l : Limits) (m : Machine) (w : World) → GoodMachine l m → Reachable l m w → p l w.state

-- 1. THE INVARIANT holds of every world that can be; and a thread that runs has registers that are good.
abbrev pub InvariantHolds : Type 0
InvariantHolds = Always Invariant

abbrev pub RegistersGood : Type 0
RegistersGood =
    (l : Limits) (m : Machine) (w : World) (g : GoodMachine l m) → Reachable l m w → is_some w.state.running ≡ true →
    g.good w.registers ≡ true

-- Each page that is not free is of one cell, and that is one.
abbrev pub OfOneCell : Type 0
OfOneCell =
    Always (λ l s. (p : ℕ) → is_free (entry s p) ≡ false → (c : ℕ) × (cell_of p (entry s p) ≡ Some c) × (is_cell (entry s c) ≡ true))

-- A cell that is not stopped sees, of closed pages, only those that it holds,
abbrev pub SeesItsOwn : Type 0
SeesItsOwn =
    Always (λ l s.
    (c p : ℕ) (w : Place) (a b : Bool) → Live s c → slot_at s.entries c w ≡ closed p a b →
    (p < l.pages) × (kind (entry s p) ≡ held_by c))

-- and each at one place at most.
abbrev pub AtOnePlace : Type 0
AtOnePlace =
    Always (λ l s.
    (c p : ℕ) (v w : Place) (a b d e : Bool) → Live s c → slot_at s.entries c v ≡ closed p a b →
    slot_at s.entries c w ≡ closed p d e → (v.table ≡ w.table) × (v.slot ≡ w.slot))

-- What runs, if anything does, is one thread, and of a sealed cell.
abbrev pub SealedRuns : Type 0
SealedRuns =
    Always (λ l s. (t : ℕ) → s.running ≡ Some t → (c : ℕ) × (kind (entry s t) ≡ thread_of c) × (is_in sealed (entry s c) ≡ true))

-- 2. What was measured of a sealed cell, and its top table, stay, and its phase never falls, in any run, as long as it is a cell.
abbrev pub SealedStays : Type 0
SealedStays =
    (l : Limits) (m : Machine) (w : World) (acts : List Act) (o : ℕ) (x : Cell) → entry w.state o ≡ cell x → x.phase ≢ building →
    StaysCell l m o w acts →
    (y : Cell) × (entry (play l m w acts).state o ≡ cell y) × (y.measured ≡ x.measured) × (y.top ≡ x.top)
    × (phase_number x.phase ≤ phase_number y.phase)

-- 3. What a cell gets: a page that is held has the words of the open page that was named, or zeros; one by which a cell grows has
-- zeros; and in every call all other closed pages keep what they have.
abbrev pub HeldGetsZeros : Type 0
HeldGetsZeros =
    (l : Limits) (s : State) (p c : ℕ) (w : Place) → p < length s.contents → answer l s (by_system (hold p c w None)) ≡ done →
    slice_index_or (after l s (by_system (hold p c w None))).contents p [] ≡ zeros l

abbrev pub HeldGetsOpen : Type 0
HeldGetsOpen =
    (l : Limits) (s : State) (p c : ℕ) (w : Place) (o : ℕ) → p < length s.contents → o < length s.open_pages →
    answer l s (by_system (hold p c w (Some o))) ≡ done →
    slice_index_or (after l s (by_system (hold p c w (Some o)))).contents p [] ≡ slice_index_or s.open_pages o []

abbrev pub GrownGets : Type 0
GrownGets =
    (l : Limits) (s : State) (p : ℕ) (w : Place) → p < length s.contents → answer l s (by_cell (grow p w)) ≡ told 0 [] →
    slice_index_or (after l s (by_cell (grow p w))).contents p [] ≡ zeros l

abbrev pub OthersKeep : Type 0
OthersKeep =
    (l : Limits) (s : State) (c : Call) (q : ℕ) →
    ((p o : ℕ) (w : Place) (x : Option ℕ) → c ≡ by_system (hold p o w x) → p ≢ q) →
    ((p : ℕ) (w : Place) → c ≡ by_cell (grow p w) → p ≢ q) →
    slice_index_or (after l s c).contents q [] ≡ slice_index_or s.contents q []

-- 4. The monitor never changes an open page.
abbrev pub OpenPagesStay : Type 0
OpenPagesStay = (l : Limits) (s : State) (c : Call) → (after l s c).open_pages ≡ s.open_pages

-- 5. What is refused changes nothing, nor does what a cell is told an error for.
abbrev pub RefusedKeeps : Type 0
RefusedKeeps = (l : Limits) (s : State) (c : Call) (r : Refusal) → answer l s c ≡ refused r → after l s c ≡ s

abbrev pub ErrorKeeps : Type 0
ErrorKeeps = (l : Limits) (s : State) (c : Call) (e : ℕ) (ns : List ℕ) → answer l s c ≡ told e ns → e ≢ 0 → after l s c ≡ s

-- 6. CONFIDENTIALITY, nothing gets out: two worlds that look alike to an observer go on looking alike, and it is told the same in both,
-- whatever the system and the observer's cells do, and whatever another cell does that gives the same away in both.
abbrev pub Confidentiality : Type 0
Confidentiality =
    (l : Limits) (m : Machine) (os : Observer) (v w : World) (a b : Act) → GoodMachine l m → Reachable l m v → Reachable l m w →
    Alike l os v w → Agrees l m os v w a b → Possible l v a →
    Possible l w b × (observed l m os v a ≡ observed l m os w b) × Alike l os (step l m v a) (step l m w b)

abbrev pub ConfidentialityOverRuns : Type 0
ConfidentialityOverRuns =
    (l : Limits) (m : Machine) (os : Observer) (v w : World) (ds es : List Act) → GoodMachine l m → Reachable l m v → Reachable l m w →
    Alike l os v w → AllAgree l m os v w ds es → AllPossible l m v ds →
    AllPossible l m w es × (all_observed l m os v ds ≡ all_observed l m os w es) × Alike l os (play l m v ds) (play l m w es)

-- 7. INTEGRITY, nothing gets in: of a sealed cell nothing is changed by the system, but that it gives it a spare page, takes one back,
-- or stops it, each of which changes that and nothing else; nor by any other cell.
abbrev pub SealedCell : (Limits → Machine → World → ℕ → Type 0) → Type 0
SealedCell p =
    (l : Limits) (m : Machine) (w : World) (o : ℕ) → GoodMachine l m → Reachable l m w → is_in sealed (entry w.state o) ≡ true →
    p l m w o

abbrev pub IntegrityOfCalls : Type 0
IntegrityOfCalls =
    SealedCell (λ l m w o. (c : SystemCall) → concerns w.state o c ≡ false → Untouched o w.state (after l w.state (by_system c)))

abbrev pub IntegrityOfGiving : Type 0
IntegrityOfGiving =
    SealedCell (λ l m w o. (p : ℕ) → answer l w.state (by_system (give p o)) ≡ done → (entry w.state p ≡ free)
    × Becomes p (spare (record { cell = o })) w.state (after l w.state (by_system (give p o))))

abbrev pub IntegrityOfTakingBack : Type 0
IntegrityOfTakingBack =
    SealedCell (λ l m w o. (p : ℕ) → kind (entry w.state p) ≡ spare_of o → answer l w.state (by_system (remove p)) ≡ done →
    Becomes p free w.state (after l w.state (by_system (remove p))))

abbrev pub IntegrityOfStopping : Type 0
IntegrityOfStopping =
    SealedCell (λ l m w o. (x : Cell) → entry w.state o ≡ cell x → answer l w.state (by_system (stop o)) ≡ done →
    Becomes o (cell (record { top = x.top; phase = stopped; measured = x.measured })) w.state
    (after l w.state (by_system (stop o))))

-- The same for what the system writes, and for a run of another cell;
abbrev pub IntegrityOfWrites : Type 0
IntegrityOfWrites = SealedCell (λ l m w o. (x : ℕ) (ws : List ℕ) → Untouched o w.state (step l m w (writes x ws)).state)

abbrev pub IntegrityOfRuns : Type 0
IntegrityOfRuns =
    SealedCell (λ l m w o. (chance : ℕ) → (running_cell w.state is o) ≡ false →
    Untouched o w.state (step l m w (runs chance)).state)

-- and over any run of acts in which the cell is not stopped, and does not itself run: all but its spare pages is as it was.
abbrev pub IntegrityOverRuns : Type 0
IntegrityOverRuns =
    SealedCell (λ l m w o. (acts : List Act) → AllPossible l m w acts → AllOthers l m o w acts →
    Kept o w.state (play l m w acts).state)

-- 8. A world that can be is what some events make, which the code can meet.
abbrev pub WorldsAreEvents : Type 0
WorldsAreEvents =
    (l : Limits) (m : Machine) (w : World) → Sized l → GoodMachine l m → Reachable l m w →
    (es : List Event) × AllReadable l es × (state l es ≡ w.state)

-- The invariant holds of every state that such events make; and what was measured of a cell is whole blocks of sixteen words.
abbrev pub InvariantOfEvents : Type 0
InvariantOfEvents = (l : Limits) (es : List Event) → AllPaged l es → Invariant l (state l es)

abbrev pub MeasuredInBlocks : Type 0
MeasuredInBlocks =
    (l : Limits) (es : List Event) → Sized l → AllPaged l es → (c : ℕ) (x : Cell) → entry (state l es) c ≡ cell x →
    length x.measured % 16 ≡ 0

-- 9. The name tells what was built: what was measured of a cell is the words of what calls put into it since it was made, in order;
-- and cells of which the same was measured, on two machines or one, were built of the same.
abbrev pub MeasuredIsBuilt : Type 0
MeasuredIsBuilt =
    (l : Limits) (m : Machine) (acts : List Act) (o : ℕ) (x : Cell) → entry (play l m (new_world l) acts).state o ≡ cell x →
    x.measured ≡ parts_words (built l m o acts)

abbrev pub SameMeasuredSameBuilt : Type 0
SameMeasuredSameBuilt =
    (l k : Limits) (m n : Machine) (ds es : List Act) (o q : ℕ) (x y : Cell) → Sized l → Sized k → GoodMachine l m → GoodMachine k n →
    AllPossible l m (new_world l) ds → AllPossible k n (new_world k) es →
    entry (play l m (new_world l) ds).state o ≡ cell x → entry (play k n (new_world k) es).state q ≡ cell y →
    x.measured ≡ y.measured → built l m o ds ≡ built k n q es

-- 10. None of this is said of nothing. A good processor is a good machine, which does on the pages in place what it does as a machine;
abbrev pub ProcessorsAreMachines : Type 0
ProcessorsAreMachines =
    (l : Limits) (f : Processor) (g : List ℕ → ℕ → List ℕ → List ℕ) → GoodProcessor f →
    ((rs : List ℕ) (e : ℕ) (ns : List ℕ) → seventeen rs ≡ true → seventeen (g rs e ns) ≡ true) → GoodMachine l (machine_of f g)

abbrev pub PlaysInPlace : Type 0
PlaysInPlace =
    (f : Processor) (g : List ℕ → ℕ → List ℕ → List ℕ) (w : World) (c chance : ℕ) →
    (after_run (machine_of f g) w c chance ≡ (played f w c chance).memory)
    × ((ran (machine_of f g) w c chance).registers ≡ (played f w c chance).registers)
    × (ending (machine_of f g) w c chance ≡ ended_by (played f w c chance).registers (played f w c chance).ends)

-- there is a good processor; and there are two worlds that can be and look alike to the system, in which a cell runs that holds a page
-- with other words in one than in the other, and whose run gives the same away.
pub record ASecret (can : ℕ → Bool) : Type 0 where
  pub limits : Limits
  pub machine : Machine
  pub first : World
  pub second : World
  pub cell : ℕ
  pub page : ℕ
  pub chance : ℕ
  pub sized : Sized limits
  pub stage : (k : ℕ) → limits.can k ≡ can k
  pub good : GoodMachine limits machine
  pub first_can_be : Reachable limits machine first
  pub second_can_be : Reachable limits machine second
  pub alike : Alike limits [] first second
  pub runs : running_cell first.state ≡ Some cell
  pub holds : kind (entry first.state page) ≡ held_by cell
  pub differs : slice_index_or first.state.contents page [] ≢ slice_index_or second.state.contents page []
  pub gives_same : SameGiven limits machine first second cell chance chance

abbrev pub NotVacuous : Type 0
NotVacuous = ((f : Processor) × GoodProcessor f) × (ASecret thin × ASecret all)
