-- Nothing gets in: calls, runs of other cells, and any run of acts of others.
use Rattle.std.proofs.Common.{◌≡◌, ℕ, Bool, true, false, ◌≢◌, ◌⊎◌, List, [], ◌∷◌, get_or, Some, None, Option, refl, ap, ◌∙◌, subst, inl, inr, arith}
use borrow.Author.Tests.{eqb-false}
use Rattle.std.proofs.lemmas.Bool.Decides.{nat_tests}
use Rattle.model.specs.Calls.{SystemCall, CellCall, Call, by_system, by_cell, how_many, new_cell, new_thread, new_table, hold, give, show}
use Rattle.model.specs.Calls.{remove, seal, stop, enter, resume}
use Rattle.model.specs.Pages.{slot_in, table_at, ◌is◌, Slot, nothing, closed, opened, sealed, Entry, free}
use Rattle.model.specs.Pages.{held_by, kind, kind_number, part_of, is_free, is_spare, is_in, cell_in, cell_is, cell_of, Entries}
use Rattle.model.specs.Pages.{at}
use Rattle.model.specs.State.{Limits, State, entry, Caller, caller, caller_by, Edit, apply, apply_all, put_entry}
use Rattle.model.specs.Refusals.{system_checks}
use Rattle.model.specs.Monitor.{system_edits}
use Rattle.model.specs.Machine.{Machine, GoodMachine, write_behind}
use Rattle.model.specs.Worlds.{World, Act, calls, writes, runs, Possible, AllPossible, step, play, run_of, running_cell, cell_by}
use Rattle.model.specs.Worlds.{PossibleCall, ran, ending, after_run, by_run}
use Rattle.model.specs.Changes.{Untouched, Kept, concerns, stops, OthersCall, Others, AllOthers}
use Rattle.model.specs.Promises.{IntegrityOfCalls, IntegrityOfRuns, IntegrityOverRuns}
use Rattle.model.proofs.Lists.{get_d_set}
use Rattle.model.proofs.Runs.{SamePages, written_pages}
use Rattle.model.proofs.Effects.{Pass, Effect, no_effect, system_effect, cell_effect, effect}
use Rattle.model.proofs.InvCalls.{CallsNow, who_calls, sealed_live, system_good, cell_good}
use Rattle.model.proofs.Written.{written_keeps}
use Rattle.model.proofs.InvHolds.{Inv, Well, well, step_well, ran_inv, own}
use Rattle.model.proofs.IntegrityEdits.{refl_untouched, then_untouched, held_belongs, all_untouched}
use Rattle.model.proofs.IntegrityCalls.{system_apart, cell_apart}

module _ (l : Limits) (o : ℕ) (s : State) (I : Inv l s) where
  -- A call by the system that does not concern the cell, and one by another cell.
  system_untouched : is_in sealed (entry s o) ≡ true → (c : SystemCall) → Pass (system_checks l s c) → concerns s o c ≡ false →
      Untouched o s (apply_all s (system_edits l s c))
  system_untouched h c k n =
      all_untouched o s _ I.sound (system_good l s I.sound I.sizes.entries c k)
      (system_apart o s l I.sound I.sizes.entries h c k n)

  cell_untouched : (c : CellCall) (es : List Edit) → ((k : Caller) → caller s ≡ Some k → k.cell ≢ o) → Effect l s (by_cell c) es →
      Untouched o s (apply_all s es)
  cell_untouched c es n (no_effect _) = refl_untouched o s
  cell_untouched c es n (cell_effect _ k e h f) =
      let w = who_calls s k I.running e in
      all_untouched o s _ I.sound (cell_good l s I.sound I.sizes.entries k c w h) (cell_apart o s l k w (n k e) c h)

  calls_untouched : is_in sealed (entry s o) ≡ true → (c : SystemCall) (es : List Edit) → concerns s o c ≡ false →
      Effect l s (by_system c) es → Untouched o s (apply_all s es)
  calls_untouched h c es n (no_effect _) = refl_untouched o s
  calls_untouched h c es n (system_effect _ k i f) = system_untouched h c k n

-- A run of the cell c writes no page that another holds.
behind_keeps : (o : ℕ) (d : Entries) (z : Slot) (ws : List ℕ) (s t : State) →
    ((p : ℕ) (a b : Bool) → z ≡ closed p a b → kind (at d p) ≢ held_by o) →
    ((p : ℕ) → kind (at d p) ≡ held_by o → get_or t.contents p [] ≡ get_or s.contents p []) →
    (p : ℕ) → kind (at d p) ≡ held_by o → get_or (write_behind z ws t).contents p [] ≡ get_or s.contents p []
unfolding write_behind
behind_keeps o d nothing ws s t n h p k = h p k
behind_keeps o d (closed q true b) ws s t n h p k = elim (get_d_set t.contents q p ws []) [
  | inl e ↦ e ∙ h p k
  | inr e ↦ absurd (n q true b refl (ap (λ r. kind (at d r)) e.0 ∙ k))
]
behind_keeps o d (closed q false b) ws s t n h p k = h p k
behind_keeps o d (opened q true) ws s t n h p k = h p k
behind_keeps o d (opened q false) ws s t n h p k = h p k

module _ (l : Limits) (m : Machine) (g : GoodMachine l m) (o : ℕ) where
  written_untouched : (w : World) (k : Caller) (chance : ℕ) → Well l m g w → CallsNow w.state k → k.cell ≢ o →
      Untouched o w.state (after_run m w k.cell chance)
  written_untouched w k chance W c n =
      let s : State = w.state in
      let f = (ran m w k.cell chance).words in
      let P : SamePages s (after_run m w k.cell chance) = written_pages k.cell f s in
      let same : State → Type 0 = λ t. (p : ℕ) → kind (entry s p) ≡ held_by o → get_or t.contents p [] ≡ get_or s.contents p [] in
      let seen : (i j p : ℕ) (a b : Bool) → slot_in s.entries (table_at s.entries k.cell i) j ≡ closed p a b →
      kind (entry s p) ≡ held_by k.cell =
      λ i j p a b e. (own l s W.inv k.cell (sealed_live (entry s k.cell) c.is_sealed) p
      (record { table = i; slot = j; write = a; run = b }) a b e).1 in
      record {
        entries = λ p h. ap (λ d. at d p) P.entries;
        contents = written_keeps same k.cell f s (λ i j t h. behind_keeps o s.entries _ (f i j) s t
            (λ p a b e z. n (grind (arith, seen i j p a b e, z))) h) (λ p h. refl);
        none_joins = λ p h. subst (λ d. (cell_of p (at d p) is o) ≡ true) P.entries h;
      }

  run_untouched : (w : World) (k : Caller) (chance : ℕ) → Well l m g w → caller w.state ≡ Some k → k.cell ≢ o →
      Untouched o w.state (by_run l m w k.cell chance).state
  run_untouched w k chance W e n =
      let s : State = w.state in
      let c = who_calls s k W.inv.running e in
      let t : State = after_run m w k.cell chance in
      let P : SamePages s t = written_pages k.cell (ran m w k.cell chance).words s in
      let same : caller t ≡ caller s = ap (λ d. caller_by d t.running) P.entries ∙ ap (caller_by s.entries) P.running in
      then_untouched o s t _ (written_untouched w k chance W c n)
      (cell_untouched l o t (ran_inv l m g w k chance W c) (ending m w k.cell chance) _
      (λ j z. λ y. n (grind (arith, same, z, e))) (effect l t (by_cell (ending m w k.cell chance))))

  runs_untouched : (w : World) (chance : ℕ) → Well l m g w → (running_cell w.state is o) ≡ false →
      Untouched o w.state (run_of l m w chance (running_cell w.state)).state
  unfolding run_of cell_by ◌is◌
  runs_untouched w chance W = go (caller w.state) refl
    where
      go : (k : Option Caller) → caller w.state ≡ k → (cell_by k is o) ≡ false →
          Untouched o w.state (run_of l m w chance (cell_by k)).state
      go None e h = refl_untouched o w.state
      go (Some k) e h = run_untouched w k chance W e (eqb-false k.cell o h)

-- 7.
pub integrity_of_calls : IntegrityOfCalls
integrity_of_calls l m w o g r h c n =
    calls_untouched l o w.state (well l m g w r).inv h c _ n (effect l w.state (by_system c))

pub integrity_of_runs : IntegrityOfRuns
unfolding step
integrity_of_runs l m w o g r h chance n = runs_untouched l m g o w chance (well l m g w r) n

-- All but spare pages stays: this follows where nothing is touched, and one thing after the other.
kept_from : (o : ℕ) (s t : State) → Untouched o s t → Kept o s t
kept_from o s t u =
    record { entries = λ p h k. u.entries p h; contents = u.contents; none_joins = λ p h k. u.entries p (u.none_joins p h) }

held_not_spare : (o : ℕ) (x : Entry) → kind x ≡ held_by o → is_spare x ≡ false
unfolding kind_number
held_not_spare o x h = grind arith

then_kept : (o : ℕ) (s t u : State) → Kept o s t → Kept o t u → Kept o s u
then_kept o s t u a b = record {
  entries = λ p h k. let e = a.entries p h k in b.entries p (rw e h) (rw e k) ∙ e;
  contents = λ p h.
      let e = a.entries p (held_belongs o p (entry s p) h) (held_not_spare o (entry s p) h) in
      b.contents p (ap kind e ∙ h) ∙ a.contents p h;
  none_joins = λ p h k. let e = b.none_joins p h k in e ∙ a.none_joins p (rw (← e) h) (rw (← e) k);
}

-- A page becomes something else that was free or spare, and is so then.
loose_kept : (o : ℕ) (s : State) (p : ℕ) (x : Entry) → (is_free (entry s p) ≡ true) ⊎ (is_spare (entry s p) ≡ true) →
    (is_free x ≡ true) ⊎ (is_spare x ≡ true) → Kept o s (apply s (put_entry p x))
unfolding kind_number part_of ◌is◌
loose_kept o s p x h k = record {
  entries = λ q b n. grind (arith, get_d_set s.entries p q x free);
  contents = λ q b. refl;
  none_joins = λ q b n. grind (arith, get_d_set s.entries p q x free);
}

module _ (l : Limits) (o : ℕ) (s : State) (I : Inv l s) (sealed-o : is_in sealed (entry s o) ≡ true) where
  -- The calls that concern the cell, but do not stop it.
  concerned_kept : (c : SystemCall) → Pass (system_checks l s c) → stops o c ≡ false → concerns s o c ≡ true →
      Kept o s (apply_all s (system_edits l s c))
  unfolding system_checks system_edits stops concerns kind kind_number
  concerned_kept how_many h n c = absurd (grind (arith, c))
  concerned_kept (new_cell p t) h n c = absurd (grind (arith, c))
  concerned_kept (new_thread p d a) h n c = absurd (grind (arith, c))
  concerned_kept (new_table p d i) h n c = absurd (grind (arith, c))
  concerned_kept (hold p d w x) h n c = absurd (grind (arith, c))
  concerned_kept (give p d) h n c = loose_kept o s p _ (inl h.1.1.0) (inr refl)
  concerned_kept (show x d w) h n c = absurd (grind (arith, c))
  concerned_kept (remove p) h n c = loose_kept o s p free (inr (grind arith)) (inl refl)
  concerned_kept (seal d) h n c = absurd (grind (arith, c))
  concerned_kept (stop d) h n c = absurd (grind (arith, n, c))
  concerned_kept (enter t x y z) h n c = absurd (grind (arith, c))
  concerned_kept (resume t) h n c = absurd (grind (arith, c))

  call_kept : (c : Call) (es : List Edit) → PossibleCall s c → OthersCall o c → Effect l s c es → Kept o s (apply_all s es)
  unfolding OthersCall PossibleCall caller_by
  call_kept c es p n (no_effect _) = kept_from o s s (refl_untouched o s)
  call_kept c es p n (system_effect d h i f) = go (concerns s o d) refl
    where
      go : (b : Bool) → concerns s o d ≡ b → Kept o s (apply_all s (system_edits l s d))
      go true e = concerned_kept d h n e
      go false e = kept_from o s _ (system_untouched l o s I sealed-o d h e)
  call_kept c es p n (cell_effect d k i h f) = absurd (grind (arith, p, i))

module _ (l : Limits) (m : Machine) (g : GoodMachine l m) (o : ℕ) where
  step_kept : (w : World) (a : Act) → Well l m g w → is_in sealed (entry w.state o) ≡ true → Possible l w a → Others o w a →
      Kept o w.state (step l m w a).state
  unfolding step Possible Others
  step_kept w (calls c) W h p n = call_kept l o w.state W.inv h c _ p n (effect l w.state c)
  step_kept w (writes x ws) W h p n = record { entries = λ q b k. refl; contents = λ q b. refl; none_joins = λ q b k. refl }
  step_kept w (runs chance) W h p n = kept_from o w.state _ (runs_untouched l m g o w chance W n)

  sealed_belongs : (x : Entry) → is_in sealed x ≡ true → ((cell_of o x is o) ≡ true) × (is_spare x ≡ false)
  unfolding kind kind_number cell_in cell_is ◌is◌
  sealed_belongs x h = (grind (arith, nat_tests), grind arith)

  all_kept : (w : World) (acts : List Act) → Well l m g w → is_in sealed (entry w.state o) ≡ true → AllPossible l m w acts →
      AllOthers l m o w acts → Kept o w.state (play l m w acts).state
  all_kept w [] W h p n = kept_from o w.state w.state (refl_untouched o w.state)
  all_kept w (a ∷ rest) W h p n =
      let k = step_kept w a W h p.0 n.0 in
      let b = sealed_belongs (entry w.state o) h in
      then_kept o w.state (step l m w a).state _ k
      (all_kept (step l m w a) rest (step_well l m g w a p.0 W) (rw (k.entries o b.0 b.1) h) p.1 n.1)

pub integrity_over_runs : IntegrityOverRuns
integrity_over_runs l m w o g r h acts p n = all_kept l m g o w acts (well l m g w r) h p n
