-- What the calls write into a state's memory is the memory of the state after them.
use Rattle.std.proofs.Common.{◌≡◌, ℕ, ◌<◌, true, eqb, ltb, length, None, arith, ltb-true, eqb-true}
use Rattle.std.proofs.lemmas.Bool.{and_parts}
use Rattle.model.specs.Calls.{remove, seal, stop}
use Rattle.model.specs.Pages.{Entry, Phase, free, cell, thread, top, table, held, spare, is_cell, sealed, stopped}
use Rattle.model.specs.State.{Limits, State, entry, apply, apply_all, set_phase, all_words}
use Rattle.model.specs.Refusals.{failing, system_checks, cell_there}
use Rattle.model.specs.Invariant.{EntryFits}
use Rattle.model.specs.Monitor.{system_edits}
use Rattle.model.proofs.Effects.{passes}
use Rattle.pages.specs.Layout.{encode}
use Rattle.full_pages.specs.Meaning.{cleared, FitsList}
use Rattle.full_pages.proofs.Edits.{edits_written}
use Rattle.lookups.proofs.Right.{Known, its_cell}
use Rattle.lifecycle.specs.Made.{in_phase}

module _ (l : Limits) (s : State) (k : Known l s) where
  low : (p : ℕ) → ltb p l.pages ≡ true → p < length s.entries
  low p h = omega (arith, ltb-true p l.pages h, k.invariant.entries_long)

  lists_fit : (x : Entry) → EntryFits l x → FitsList x
  unfolding EntryFits
  lists_fit free f = tt
  lists_fit (cell x) f = tt
  lists_fit (thread x) f =
      omega (arith, eqb-true _ _ (and_parts (eqb (length x.registers) 17) (all_words x.registers) f.1).0)
  lists_fit (top x) f = omega (arith, f.0, k.sized.places_are)
  lists_fit (table x) f = omega (arith, f.0, k.sized.slots_are)
  lists_fit (held x) f = tt
  lists_fit (spare x) f = tt

  pub removed_written : (p : ℕ) → failing (system_checks l s (remove p)) ≡ None →
      cleared (encode l s) p ≡ encode l (apply_all s (system_edits l s (remove p)))
  unfolding system_checks system_edits
  removed_written p h =
      let q = passes (system_checks l s (remove p)) h in
      edits_written.let_go l s p (low p q.0) (lists_fit (entry s p) (k.invariant.entries_fit p))

  phase_written : (c : ℕ) (f : Phase) → cell_there l s c ≡ true → in_phase (encode l s) c f ≡ encode l (apply s (set_phase c f))
  phase_written c f h =
      let y = its_cell l s c h in
      edits_written.others.set_phase l s c f y.0 y.1 (low c (and_parts (ltb c l.pages) (is_cell (entry s c)) h).0)

  pub sealed_written : (c : ℕ) → failing (system_checks l s (seal c)) ≡ None →
      in_phase (encode l s) c sealed ≡ encode l (apply_all s (system_edits l s (seal c)))
  unfolding system_checks system_edits
  sealed_written c h = phase_written c sealed (passes (system_checks l s (seal c)) h).0

  pub stopped_written : (c : ℕ) → failing (system_checks l s (stop c)) ≡ None →
      in_phase (encode l s) c stopped ≡ encode l (apply_all s (system_edits l s (stop c)))
  unfolding system_checks system_edits
  stopped_written c h = phase_written c stopped (passes (system_checks l s (stop c)) h).0
