-- The observer: the system, with any cells that work with it. What it knows of a world, when two worlds look alike to it, and what
-- another cell gives away.
use Rattle.std.specs.Prelude.{◌≡◌, ℕ, ◌<◌, Bool, true, false, cond, ◌||◌, List, [], ◌∷◌, Some, None, Option, ◌==◌, slice_index_or}
use Rattle.model.specs.Calls.{Place, Call, CellCall, leave, interrupt, fault, grow, shrink, extend, who, draw}
use Rattle.model.specs.Answers.{Answer, to_system}
use Rattle.model.specs.Measured.{none_yet}
use Rattle.model.specs.Pages.{Entry, is_held, cell_of, in_cell, in_thread}
use Rattle.model.specs.State.{Limits, State, entry}
use Rattle.model.specs.Machine.{Machine}
use Rattle.model.specs.Worlds.{World, Act, calls, writes, runs, running_cell, after_run, ending, act_answer, step}

-- The cells of an observer, by their numbers; none too.
abbrev pub Observer : Type 0
Observer = List ℕ

-- Whether a cell is one of them.
unfoldable pub among : Observer → Option ℕ → Bool
among [] c = false
among (o ∷ os) None = false
among (o ∷ os) (Some c) = c == o || among os (Some c)

-- Whether a page is theirs, and whether one of them runs.
abbrev pub theirs : Observer → State → ℕ → Bool
theirs os s p = among os (cell_of p (entry s p))

abbrev pub runs_theirs : Observer → State → Bool
runs_theirs os s = among os (running_cell s)

-- What everybody may know of a page: everything but what was measured of a cell, and the registers of a thread.
abbrev pub public_part : Entry → Entry
public_part x =
    in_thread (λ h. record { cell = h.cell; start = h.start; under_way = h.under_way; registers = [] })
    (in_cell (λ c. record { top = c.top; phase = c.phase; measured = none_yet }) x)

-- Two worlds look alike to an observer: what each page is, but for what is private; of their own pages everything, contents too;
-- open pages; what runs, and its registers if it is theirs.
pub record Alike (l : Limits) (os : Observer) (v w : World) : Type 0 where
  pub public : (p : ℕ) → p < l.pages → public_part (entry v.state p) ≡ public_part (entry w.state p)
  pub own : (p : ℕ) → p < l.pages → theirs os v.state p ≡ true → entry v.state p ≡ entry w.state p
  pub own_contents :
      (p : ℕ) → p < l.pages → theirs os v.state p ≡ true → is_held (entry v.state p) ≡ true →
      slice_index_or v.state.contents p [] ≡ slice_index_or w.state.contents p []
  pub open_pages : v.state.open_pages ≡ w.state.open_pages
  pub running : v.state.running ≡ w.state.running
  pub registers : runs_theirs os v.state ≡ true → v.registers ≡ w.registers

-- What a cell gives away by how a run of it ends.
pub data Given : Type 0 where
  left_with : ℕ → Given
  interrupted : Given  -- but not its registers
  faulted : ℕ → Given
  grew : ℕ → Place → Given
  shrank : ℕ → Place → Given
  extended : ℕ → ℕ → Given
  asked_who : Given
  drew : Given  -- but not which number

unfoldable pub gives : Limits → State → CellCall → Given
gives l s (leave n) = left_with n
gives l s (interrupt rs) = interrupted
gives l s (fault n) = faulted n
gives l s (grow p w) = grew p w
gives l s (shrink p w) = shrank p w
gives l s (extend p i) = extended p i
gives l s who = asked_who
gives l s (draw n) = drew

-- Two runs, of one cell in two worlds, each with its own chance, give the same away: what it wrote into open pages, and how it ended.
pub record SameGiven (l : Limits) (m : Machine) (v w : World) (c x y : ℕ) : Type 0 where
  pub open_pages : (after_run m v c x).open_pages ≡ (after_run m w c y).open_pages
  pub ends : gives l (after_run m v c x) (ending m v c x) ≡ gives l (after_run m w c y) (ending m w c y)

-- What is asked of a run in each of two worlds: of an observer's cell the same chance, of another that it gives the same away.
unfoldable pub RunAgrees : Limits → Machine → Observer → World → World → ℕ → ℕ → Option ℕ → Type 0
RunAgrees l m os v w x y None = Unit {0}
RunAgrees l m os v w x y (Some c) = cond (among os (Some c)) (x ≡ y) (SameGiven l m v w c x y)

-- What happens in one world agrees with what happens in another: the system does the same in both.
pub data Agrees (l : Limits) (m : Machine) (os : Observer) (v w : World) : Act → Act → Type 0 where
  same_call : (c : Call) → Agrees l m os v w (calls c) (calls c)
  same_write : (o : ℕ) (ws : List ℕ) → Agrees l m os v w (writes o ws) (writes o ws)
  run_agrees : (x y : ℕ) → RunAgrees l m os v w x y (running_cell v.state) → Agrees l m os v w (runs x) (runs y)

abbrev pub AllAgree : Limits → Machine → Observer → World → World → List Act → List Act → Type 0
AllAgree l m os v w [] [] = Unit {0}
AllAgree l m os v w [] (b ∷ bs) = ⊥
AllAgree l m os v w (a ∷ ds) [] = ⊥
AllAgree l m os v w (a ∷ ds) (b ∷ bs) = Agrees l m os v w a b × AllAgree l m os (step l m v a) (step l m w b) ds bs

-- What an observer is told in an act: of a run of its own cell the whole answer, else what the system is told.
abbrev pub observed : Limits → Machine → Observer → World → Act → Answer
observed l m os w (calls c) = to_system (act_answer l m w (calls c))
observed l m os w (writes o ws) = to_system (act_answer l m w (writes o ws))
observed l m os w (runs x) =
    cond (runs_theirs os w.state) (act_answer l m w (runs x)) (to_system (act_answer l m w (runs x)))

abbrev pub all_observed : Limits → Machine → Observer → World → List Act → List Answer
all_observed l m os w [] = []
all_observed l m os w (a ∷ rest) = observed l m os w a ∷ all_observed l m os (step l m w a) rest
