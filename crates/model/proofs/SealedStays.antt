-- A sealed cell keeps what was measured and its top table, and never goes back, in any run.
use Rattle.std.proofs.Common.{◌≡◌, ℕ, ◌≤◌, true, not, ◌≢◌, List, [], ◌∷◌, Some, None, Option, refl, ap, ◌∙◌, inl, inr, arith}
use Rattle.model.specs.Calls.{SystemCall, Call, by_cell}
use Rattle.model.specs.Calls.{how_many, new_cell, new_thread, new_table, hold, give, show, remove, seal, stop, enter, resume}
use Rattle.model.specs.Pages.{Phase, building, sealed, stopped, phase_number, Cell, Entry, free, cell, thread, top, table, held, spare}
use Rattle.model.specs.Pages.{kind, kind_number, is_free, is_cell, is_in, cell_is, cell_in, at}
use Rattle.model.specs.State.{Limits, State, entry, Edit}
use Rattle.model.specs.Refusals.{system_checks}
use Rattle.model.specs.Monitor.{system_edits, edits, after}
use Rattle.model.specs.Machine.{Machine}
use Rattle.model.specs.Worlds.{World, Act, calls, writes, runs, running_cell, run_of, step, ran, ending, after_run}
use Rattle.model.specs.Changes.{StaysCell}
use Rattle.model.specs.Promises.{SealedStays}
use Rattle.model.proofs.Runs.{written_pages}
use Rattle.model.proofs.CellAt.{AllOk, all_keep, cell_ok}
use Rattle.model.proofs.Effects.{Pass, Effect, no_effect, system_effect, cell_effect, effect}

-- A later state of the cell x.
abbrev pub Later : Cell → Option Cell → Type 0
Later x None = Unit {0}
Later x (Some y) = (y.measured ≡ x.measured) × (y.top ≡ x.top) × (phase_number x.phase ≤ phase_number y.phase)

phase_most : (f : Phase) → phase_number f ≤ 2
unfolding phase_number
phase_most f = grind arith

free_apart : (a b : Entry) (y : Cell) → is_free a ≡ true → cell_in b ≡ Some y → a ≢ b
unfolding kind kind_number cell_in
free_apart a b y h k e = grind arith

building_apart : (a b : Entry) (y : Cell) → is_in building a ≡ true → cell_in b ≡ Some y → y.phase ≢ building → a ≢ b
unfolding cell_in cell_is phase_number
building_apart a b y h k n e = grind arith

open_apart : (a b : Entry) (y : Cell) → not (is_in stopped a) ≡ true → not (is_in sealed a) ≡ true → cell_in b ≡ Some y →
    y.phase ≢ building → a ≢ b
unfolding cell_in cell_is phase_number
open_apart a b y g h k n e = grind arith

-- The edits of each call keep a cell that is not being built.
module _ (l : Limits) (s : State) (o : ℕ) (x : Cell) (is : cell_in (entry s o) ≡ Some x) (n : x.phase ≢ building) where
  system_ok : (c : SystemCall) → Pass (system_checks l s c) → AllOk (Later x) tt o (system_edits l s c)
  unfolding system_checks system_edits cell_in phase_number
  system_ok how_many h = tt
  system_ok (new_cell p t) h =
      let f : is_free (entry s p) ≡ true = grind (arith, h.1.0) in
      (inl (λ e. free_apart (entry s p) (entry s o) x f is (ap (entry s) e)), (inr tt, tt))
  system_ok (new_thread p c a) h =
      (inr tt, (inl (λ e. open_apart (entry s c) (entry s o) x h.1.1.1.0 h.1.1.1.1.0 is n (ap (entry s) e)), tt))
  system_ok (new_table p c i) h = (inr tt, (tt, tt))
  system_ok (hold p c w y) h =
      (inr tt, (tt, (tt, (inl (λ e. building_apart (entry s c) (entry s o) x h.1.0 is n (ap (entry s) e)), tt))))
  system_ok (give p c) h = (inr tt, tt)
  system_ok (show y c w) h = (tt, tt)
  system_ok (remove p) h = (inr tt, tt)
  system_ok (seal c) h = (inl (λ e. building_apart (entry s c) (entry s o) x h.1.0 is n (ap (entry s) e)), tt)
  system_ok (stop c) h = (inr (λ y k. (k.0, k.1, phase_most x.phase)), tt)
  system_ok (enter t a b d) h = (tt, tt)
  system_ok (resume t) h = (tt, tt)

  effect_ok : (c : Call) (es : List Edit) → Effect l s c es → AllOk (Later x) tt o es
  effect_ok c es (no_effect _) = tt
  effect_ok c es (system_effect d h i f) = system_ok d h
  effect_ok c es (cell_effect d k i h f) = cell_ok (Later x) tt o l k d

  pub after_later : (c : Call) → Later x (cell_in (entry (after l s c) o))
  after_later c =
      all_keep (Later x) tt o s (edits l s c) (rw is (refl, refl, omega arith)) (effect_ok c (edits l s c) (effect l s c))

same_later_now : (x : Cell) (e : Entry) → cell_in e ≡ Some x → Later x (cell_in e)
same_later_now x e h = rw h (refl, refl, omega arith)

step_later : (l : Limits) (m : Machine) (w : World) (a : Act) (o : ℕ) (x : Cell) → cell_in (entry w.state o) ≡ Some x →
    x.phase ≢ building → Later x (cell_in (entry (step l m w a).state o))
unfolding step run_of
step_later l m w (calls c) o x h n = after_later l w.state o x h n c
step_later l m w (writes y ws) o x h n = same_later_now x (entry w.state o) h
step_later l m w (runs chance) o x h n = go (running_cell w.state)
  where
    go : (c : Option ℕ) → Later x (cell_in (entry (run_of l m w chance c).state o))
    go None = same_later_now x (entry w.state o) h
    go (Some c) =
        let e = (written_pages c (ran m w c chance).words w.state).entries in
        after_later l (after_run m w c chance) o x (ap (λ d. cell_in (at d o)) e ∙ h) n (by_cell (ending m w c chance))

the_cell : (e : Entry) → is_cell e ≡ true → (y : Cell) × (e ≡ cell y)
unfolding kind kind_number
the_cell free h = absurd (grind (arith, h))
the_cell (cell y) h = (y, refl)
the_cell (thread y) h = absurd (grind (arith, h))
the_cell (top y) h = absurd (grind (arith, h))
the_cell (table y) h = absurd (grind (arith, h))
the_cell (held y) h = absurd (grind (arith, h))
the_cell (spare y) h = absurd (grind (arith, h))

stays_now : (l : Limits) (m : Machine) (o : ℕ) (w : World) (acts : List Act) → StaysCell l m o w acts →
    is_cell (entry w.state o) ≡ true
stays_now l m o w [] h = h
stays_now l m o w (a ∷ rest) h = h.0

not_back : (f g : Phase) → f ≢ building → phase_number f ≤ phase_number g → g ≢ building
unfolding phase_number
not_back f g n h e = grind arith

-- 2.
pub sealed_stays : SealedStays
unfolding cell_in
sealed_stays l m w [] o x e n h = (x, e, refl, refl, omega arith)
sealed_stays l m w (a ∷ rest) o x e n h =
    let y = the_cell (entry (step l m w a).state o) (stays_now l m o (step l m w a) rest h.1) in
    let k : Later x (Some y.0) = rw y.1 at (step_later l m w a o x (ap cell_in e) n) in
    let z = sealed_stays l m (step l m w a) rest o y.0 y.1 (not_back x.phase y.0.phase n k.2) h.1 in
    (z.0, z.1, z.2 ∙ k.0, z.3 ∙ k.1, omega (arith, z.4, k.2))
