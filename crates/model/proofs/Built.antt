-- What was measured of a cell is the words of what it was built of.
use Rattle.std.proofs.Common.{◌≡◌, ℕ, Bool, true, false, cond, eqb, ◌≢◌, ◌⊎◌, List, [], ◌∷◌, ◌++◌, Some, None, Option, sym, refl, ap, ◌∙◌, inl, inr, append_assoc, append-nil, arith, eqb-true}
use borrow.Author.Tests.{eqb-false}
use Rattle.std.specs.Option.{option_map}
use Rattle.model.specs.Calls.{SystemCall, CellCall, Call, by_system, by_cell, garbled}
use Rattle.model.specs.Calls.{how_many, new_cell, new_thread, new_table, hold, give, show, remove, seal, stop, enter, resume}
use Rattle.model.specs.Answers.{Refusal}
use Rattle.model.specs.Measured.{Part, thread_from, page_at, part_words}
use Rattle.model.specs.Pages.{Cell, Entry, free, cell_in, in_cell, kind, kind_number, is_free}
use Rattle.model.specs.State.{Limits, State, entry, Edit, put_entry, measure, apply, apply_all}
use Rattle.model.specs.Refusals.{system_checks, checks, refusal}
use Rattle.model.specs.Monitor.{copied, becomes_held, system_edits, changed, edits_or, edits, after}
use Rattle.model.specs.Machine.{Machine}
use Rattle.model.specs.Worlds.{World, Act, calls, writes, runs, new_world, running_cell, run_of, step, play, ran, ending, after_run}
use Rattle.model.specs.Builds.{built_by, built_or, built_call, built_act, built_from, parts_words}
use Rattle.model.specs.Promises.{MeasuredIsBuilt}
use Rattle.model.proofs.Lists.{changed_here, getD_replicated}
use Rattle.model.proofs.Runs.{written_pages}
use Rattle.model.proofs.CellAt.{AllOk, all_keep, cell_ok, cell_cell, measured_on}
use Rattle.model.proofs.Effects.{Pass, Effect, no_effect, cell_effect, effect, passed}

words_append : (a b : List Part) → parts_words (a ++ b) ≡ parts_words a ++ parts_words b
words_append [] b = refl
words_append (x ∷ a) b =
    ap (λ ws. part_words x ++ ws) (words_append a b) ∙ sym (append_assoc (part_words x) (parts_words a) (parts_words b))

words_more : (b : List Part) (x : Part) → parts_words (b ++ (x ∷ [])) ≡ parts_words b ++ part_words x
words_more b x = words_append b (x ∷ []) ∙ ap (λ ws. parts_words b ++ ws) (append-nil (part_words x))

-- What was measured, if it is a cell, is the words of these parts.
abbrev Tells : List Part → Option Cell → Type 0
Tells b None = Unit {0}
Tells b (Some y) = y.measured ≡ parts_words b

more_tells : (b : List Part) (m : Part) (x : Option Cell) → Tells b x → Tells (b ++ (m ∷ [])) (option_map (measured_on m) x)
more_tells b m None h = h
more_tells b m (Some y) h = ap (λ ws. ws ++ part_words m) h ∙ sym (words_more b m)

measure_tells : (s : State) (o : ℕ) (b : List Part) (m : Part) → Tells b (cell_in (entry s o)) →
    Tells (b ++ (m ∷ [])) (cell_in (entry (apply s (measure o m)) o))
unfolding in_cell
measure_tells s o b m h =
    rw (changed_here s.entries o (in_cell (measured_on m)) free refl, cell_cell (measured_on m) (entry s o))
    (more_tells b m (cell_in (entry s o)) h)

free_none : (e : Entry) → is_free e ≡ true → cell_in e ≡ None
unfolding kind kind_number cell_in
free_none e h = grind arith

either : (p o : ℕ) → ((p ≡ o) × (eqb p o ≡ true)) ⊎ ((p ≢ o) × (eqb p o ≡ false))
either p o = go (eqb p o) refl
  where
    go : (t : Bool) → eqb p o ≡ t → ((p ≡ o) × (eqb p o ≡ true)) ⊎ ((p ≢ o) × (eqb p o ≡ false))
    go true e = inl (eqb-true p o e, e)
    go false e = inr (eqb-false p o e, e)

module _ (l : Limits) (s : State) (o : ℕ) (b : List Part) (h : Tells b (cell_in (entry s o))) where
  -- More is measured of the cell c, after edits that keep it.
  then_more : (es : List Edit) (c : ℕ) (m : Part) → AllOk (Tells b) tt o es →
      Tells (cond (eqb c o) (b ++ (m ∷ [])) b) (cell_in (entry (apply (apply_all s es) (measure c m)) o))
  then_more es c m k = let g = all_keep (Tells b) tt o s es h k in elim (either c o) [
    | inl e ↦ rw (e.1, e.0) (measure_tells (apply_all s es) o b m g)
    | inr e ↦ rw e.1 (all_keep (Tells b) tt o (apply_all s es) (measure c m ∷ []) g (inl e.0, tt))
  ]

  system_tells : (c : SystemCall) → Pass (system_checks l s c) →
      Tells (built_by l s o c b) (cell_in (entry (apply_all s (system_edits l s c)) o))
  unfolding system_edits built_by cell_in system_checks
  system_tells how_many k = h
  system_tells (new_cell p t) k = elim (either p o) [
    | inl e ↦
        let f : is_free (entry s p) ≡ true = grind (arith, k.1.0) in
        let g : cell_in (entry s o) ≡ None = ap (λ q. cell_in (entry s q)) (sym e.0) ∙ free_none (entry s p) f in
        rw e.1 (all_keep (Tells []) tt o s (system_edits l s (new_cell p t)) (rw g tt) (inr refl, (inr tt, tt)))
    | inr e ↦ rw e.1 (all_keep (Tells b) tt o s (system_edits l s (new_cell p t)) h (inl e.0, (inr tt, tt)))
  ]
  system_tells (new_thread p c a) k = then_more (put_entry p _ ∷ []) c (thread_from a) (inr tt, tt)
  system_tells (new_table p c i) k = all_keep (Tells b) tt o s (system_edits l s (new_table p c i)) h (inr tt, (tt, tt))
  system_tells (hold p c w x) k = then_more (becomes_held p c w (copied l s x)) c (page_at w (copied l s x)) (inr tt, (tt, (tt, tt)))
  system_tells (give p c) k = all_keep (Tells b) tt o s (system_edits l s (give p c)) h (inr tt, tt)
  system_tells (show x c w) k = all_keep (Tells b) tt o s (system_edits l s (show x c w)) h (tt, tt)
  system_tells (remove p) k = all_keep (Tells b) tt o s (system_edits l s (remove p)) h (inr tt, tt)
  system_tells (seal c) k = all_keep (Tells b) tt o s (system_edits l s (seal c)) h (inr (λ y z. z), tt)
  system_tells (stop c) k = all_keep (Tells b) tt o s (system_edits l s (stop c)) h (inr (λ y z. z), tt)
  system_tells (enter t x y z) k = h
  system_tells (resume t) k = h

  cell_effects : (c : CellCall) (es : List Edit) → Effect l s (by_cell c) es → AllOk (Tells b) tt o es
  cell_effects c es (no_effect _) = tt
  cell_effects c es (cell_effect d k i j f) = cell_ok (Tells b) tt o l k d

  garbled_effects : (n : ℕ) (es : List Edit) → Effect l s (garbled n) es → AllOk (Tells b) tt o es
  garbled_effects n es (no_effect _) = tt

  call_tells : (c : Call) → Tells (built_call l s o c b) (cell_in (entry (after l s c) o))
  unfolding built_call built_or edits_or changed checks
  call_tells (by_system c) = go (refusal l s (by_system c)) refl
    where
      go : (x : Option Refusal) → refusal l s (by_system c) ≡ x →
          Tells (built_or b (built_by l s o c b) x) (cell_in (entry (apply_all s (edits_or (changed l s (by_system c)) x)) o))
      go None e = system_tells c (passed l s (by_system c) e).1.1
      go (Some r) e = h
  call_tells (by_cell c) =
      let es = edits l s (by_cell c) in all_keep (Tells b) tt o s es h (cell_effects c es (effect l s (by_cell c)))
  call_tells (garbled n) =
      let es = edits l s (garbled n) in all_keep (Tells b) tt o s es h (garbled_effects n es (effect l s (garbled n)))

step_tells : (l : Limits) (m : Machine) (w : World) (o : ℕ) (b : List Part) (a : Act) → Tells b (cell_in (entry w.state o)) →
    Tells (built_act l w o a b) (cell_in (entry (step l m w a).state o))
unfolding built_act step run_of
step_tells l m w o b (calls c) h = call_tells l w.state o b h c
step_tells l m w o b (writes x ws) h = h
step_tells l m w o b (runs chance) h = go (running_cell w.state)
  where
    go : (c : Option ℕ) → Tells b (cell_in (entry (run_of l m w chance c).state o))
    go None = h
    go (Some c) =
        let s = after_run m w c chance in
        let e = (written_pages c (ran m w c chance).words w.state).entries in
        let es = edits l s (by_cell (ending m w c chance)) in
        let g : Tells b (cell_in (entry s o)) = rw e h in
        all_keep (Tells b) tt o s es g (cell_effects l s o b g (ending m w c chance) es (effect l s (by_cell (ending m w c chance))))

run_tells : (l : Limits) (m : Machine) (o : ℕ) (w : World) (b : List Part) (acts : List Act) → Tells b (cell_in (entry w.state o)) →
    Tells (built_from l m o w b acts) (cell_in (entry (play l m w acts).state o))
run_tells l m o w b [] h = h
run_tells l m o w b (a ∷ rest) h = run_tells l m o (step l m w a) (built_act l w o a b) rest (step_tells l m w o b a h)

-- 9.
pub measured_is_built : MeasuredIsBuilt
unfolding cell_in
measured_is_built l m acts o x e =
    rw e at (run_tells l m o (new_world l) [] acts (rw (getD_replicated l.pages o free) tt))
