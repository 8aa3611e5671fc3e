-- What holds of every state that events make: the invariant; and what was measured of a cell is whole blocks.
use Rattle.std.proofs.Common.{◌≡◌, ℕ, ◌%◌, List, [], ◌∷◌, length, Some, None, Option, refl, inr, arith, length-append}
use Rattle.model.specs.Calls.{SystemCall, Call}
use Rattle.model.specs.Calls.{how_many, new_cell, new_thread, new_table, hold, give, show, remove, seal, stop, enter, resume}
use Rattle.model.specs.Measured.{Part, thread_from, page_at, part_words}
use Rattle.model.specs.Pages.{Cell, free, cell_in}
use Rattle.model.specs.State.{Limits, Sized, State, entry, Edit}
use Rattle.model.specs.Monitor.{copied, system_edits, edits}
use Rattle.model.specs.Invariant.{Invariant}
use Rattle.model.specs.Events.{Event, called, wrote, wrote_open, event, state, Paged, AllPaged, Readable, AllReadable}
use Rattle.model.specs.Promises.{InvariantOfEvents, MeasuredInBlocks}
use Rattle.model.proofs.Lists.{getD_replicated}
use Rattle.model.proofs.CellAt.{AllOk, all_keep, cell_ok, measured_on}
use Rattle.model.proofs.Effects.{Effect, no_effect, system_effect, cell_effect, effect}
use Rattle.model.proofs.InvHolds.{Inv, call_inv, wrote_inv, wrote_open_inv, new_inv, invariant}
use Rattle.model.proofs.SameBuilt.{copied_long}

-- What the code can meet is so.
pub all_paged : (l : Limits) (es : List Event) → AllReadable l es → AllPaged l es
unfolding Paged Readable
all_paged l [] r = tt
all_paged l (called c ∷ es) r = (tt, all_paged l es r.1)
all_paged l (wrote p ws ∷ es) r = (r.0, all_paged l es r.1)
all_paged l (wrote_open o ws ∷ es) r = (r.0, all_paged l es r.1)

event_inv : (l : Limits) (s : State) (e : Event) → Paged l e → Inv l s → Inv l (event l s e)
unfolding event Paged
event_inv l s (called c) r I = call_inv l s c I
event_inv l s (wrote p ws) r I = wrote_inv l s p ws I r.1
event_inv l s (wrote_open o ws) r I = wrote_open_inv l s o ws I r.1

events_inv : (l : Limits) (es : List Event) → AllPaged l es → Inv l (state l es)
unfolding state
events_inv l [] r = new_inv l
events_inv l (e ∷ es) r = event_inv l (state l es) e r.0 (events_inv l es r.1)

-- 8.
pub events_invariant : InvariantOfEvents
events_invariant l es r = invariant l (state l es) (events_inv l es r)

-- What was measured, if it is a cell, is whole blocks.
abbrev InBlocks : Option Cell → Type 0
InBlocks None = Unit {0}
InBlocks (Some y) = length y.measured % 16 ≡ 0

-- More whole blocks come to it.
more_blocks : (m : Part) → length (part_words m) % 16 ≡ 0 → (y : Cell) → InBlocks (Some y) → InBlocks (Some (measured_on m y))
more_blocks m h y k = omega (arith, length-append y.measured (part_words m), h, k)

module _ (l : Limits) (z : Sized l) (s : State) (I : Invariant l s) where
  -- A thread is one block, and a page 65.
  system_blocks : (o : ℕ) (c : SystemCall) → AllOk InBlocks tt o (system_edits l s c)
  unfolding system_edits cell_in part_words
  system_blocks o how_many = tt
  system_blocks o (new_cell p t) = (inr refl, (inr tt, tt))
  system_blocks o (new_thread p c a) = (inr tt, (inr (more_blocks (thread_from a) refl), tt))
  system_blocks o (new_table p c i) = (inr tt, (tt, tt))
  system_blocks o (hold p c w x) =
      let long = copied_long l s x I in
      (inr tt, (tt, (tt, (inr (more_blocks (page_at w (copied l s x)) (omega (arith, long, z.words_are))), tt))))
  system_blocks o (give p c) = (inr tt, tt)
  system_blocks o (show x c w) = (tt, tt)
  system_blocks o (remove p) = (inr tt, tt)
  system_blocks o (seal c) = (inr (λ y k. k), tt)
  system_blocks o (stop c) = (inr (λ y k. k), tt)
  system_blocks o (enter t a b d) = (tt, tt)
  system_blocks o (resume t) = (tt, tt)

  effect_blocks : (o : ℕ) (c : Call) (es : List Edit) → Effect l s c es → AllOk InBlocks tt o es
  effect_blocks o c es (no_effect _) = tt
  effect_blocks o c es (system_effect d h i f) = system_blocks o d
  effect_blocks o c es (cell_effect d k i h f) = cell_ok InBlocks tt o l k d

  event_blocks : (o : ℕ) (e : Event) → InBlocks (cell_in (entry s o)) → InBlocks (cell_in (entry (event l s e) o))
  unfolding event
  event_blocks o (called c) h = all_keep InBlocks tt o s (edits l s c) h (effect_blocks o c (edits l s c) (effect l s c))
  event_blocks o (wrote p ws) h = h
  event_blocks o (wrote_open p ws) h = h

all_blocks : (l : Limits) (es : List Event) → Sized l → AllPaged l es → (o : ℕ) → InBlocks (cell_in (entry (state l es) o))
unfolding state cell_in
all_blocks l [] z r o = rw (getD_replicated l.pages o free) tt
all_blocks l (e ∷ es) z r o =
    event_blocks l z (state l es) (events_invariant l es r.1) o e (all_blocks l es z r.1 o)

-- 8.
pub events_blocks : MeasuredInBlocks
unfolding cell_in
events_blocks l es z r c x e = rw e at (all_blocks l es z r c)
