-- The checks over a state's memory come to what the definitions' come to.
use Rattle.std.proofs.Common.{◌≡◌, ℕ, true, not, ◌&&◌, eqb, ltb, is_some, Some, None, Option, sym, refl, ap, ◌∙◌, ap₂, arith, ltb-true}
use borrow.Author.Tests.{not-true}
use Rattle.std.proofs.lemmas.Bool.{and_parts}
use Rattle.model.specs.Calls.{Place, new_cell, new_thread, new_table, hold, give, show}
use Rattle.model.specs.Pages as model
use Rattle.model.specs.Pages.{Cell, cell, is_cell, is_in, stopped, sealed, building, table_at, slot_at}
use Rattle.model.specs.State.{Limits, State, entry}
use Rattle.model.specs.Refusals.{failing, system_checks, cell_there, open_there, vacant, in_range}
use Rattle.pages.specs.Layout.{encode}
use Rattle.lookups.specs.Lookups as look
use Rattle.lookups.proofs.Checking.{check}
use Rattle.lookups.proofs.Right.{Known, both_some, not_stopped, its_cell, live_cell, there_right, open_right, freed_right, cells_right, building_right, sealed_right}
use Rattle.lookups.proofs.Right.{stopped_right, table_by_right, vacant_by_right}
use Rattle.building.specs.Checks.{make_checks, start_checks, add_checks, hold_checks, give_checks, show_checks, source_there}

module _ (l : Limits) (s : State) (k : Known l s) where
  pub make_checked : (p t : ℕ) → failing (make_checks (encode l s) p t) ≡ failing (system_checks l s (new_cell p t))
  unfolding system_checks
  make_checked p t =
      check _ _ _ _ _ (ap₂ (λ a b. (a && b) && not (eqb p t)) (there_right l s k p) (there_right l s k t)) (λ _.
      check _ _ _ _ _ (ap₂ (λ a b. a && b) (freed_right l s k p) (freed_right l s k t)) (λ _. refl))

  pub start_checked : (p c a : ℕ) → failing (start_checks (encode l s) p c) ≡ failing (system_checks l s (new_thread p c a))
  unfolding system_checks
  start_checked p c a =
      check _ _ _ _ _ (cells_right l s k c) (λ _. check _ _ _ _ _ (there_right l s k p) (λ _.
      check _ _ _ _ _ (freed_right l s k p) (λ _. check _ _ _ _ _ (ap not (stopped_right l s k c)) (λ _.
      check _ _ _ _ _ (ap not (sealed_right l s k c)) (λ _. refl)))))

  pub give_checked : (p c : ℕ) → failing (give_checks (encode l s) p c) ≡ failing (system_checks l s (give p c))
  unfolding system_checks
  give_checked p c =
      check _ _ _ _ _ (cells_right l s k c) (λ _. check _ _ _ _ _ (there_right l s k p) (λ _.
      check _ _ _ _ _ (freed_right l s k p) (λ _. check _ _ _ _ _ (ap not (stopped_right l s k c)) (λ _. refl))))

  pub add_checked : (p c i : ℕ) → failing (add_checks (encode l s) p c i) ≡ failing (system_checks l s (new_table p c i))
  unfolding system_checks
  add_checked p c i =
      check _ _ _ _ _ (ap (ltb i) (sym k.sized.places_are)) (λ h. check _ _ _ _ _ (cells_right l s k c) (λ g.
      check _ _ _ _ _ (ap not (stopped_right l s k c)) (λ f.
      let y = its_cell l s c g in
      check _ _ _ _ _
      (ap (λ o. not (is_some o)) (table_by_right l s k c y.0 y.1 (live_cell l s c g (not-true _ f)) i
      (omega (arith, ltb-true i l.places h, k.sized.places_are)))) (λ _.
      check _ _ _ _ _ (there_right l s k p) (λ _. check _ _ _ _ _ (freed_right l s k p) (λ _.
      check _ _ _ _ _ (ap not (sealed_right l s k c)) (λ _. refl)))))))

  -- a place where a cell that is being built sees nothing
  vacant_checked : (c : ℕ) (w : Place) → in_range l w ≡ true → cell_there l s c ≡ true → is_in building (entry s c) ≡ true →
      is_some (look.vacant_by (encode l s) (look.cell_of (encode l s) c) w) ≡ vacant s c w
  vacant_checked c w r h g =
      let y = its_cell l s c h in
      let i = and_parts (ltb w.table l.places) (ltb w.slot l.slots) r in
      ap is_some (vacant_by_right l s k c y.0 y.1 (live_cell l s c h (not_stopped (entry s c) g))
      w (omega (arith, ltb-true _ _ i.0, k.sized.places_are)) (omega (arith, ltb-true _ _ i.1, k.sized.slots_are)))
      ∙ both_some (table_at s.entries c w.table) (model.is_nothing (slot_at s.entries c w))

  source_checked : (o : Option ℕ) → source_there (encode l s) o ≡ open_there l o
  unfolding open_there
  source_checked None = refl
  source_checked (Some o) = open_right l s k o

  pub hold_checked : (p c : ℕ) (w : Place) (o : Option ℕ) → in_range l w ≡ true →
      failing (hold_checks (encode l s) p c w o) ≡ failing (system_checks l s (hold p c w o))
  unfolding system_checks
  hold_checked p c w o r =
      check _ _ _ _ _ (cells_right l s k c) (λ h. check _ _ _ _ _ (building_right l s k c) (λ g.
      check _ _ _ _ _ (vacant_checked c w r h g) (λ _. check _ _ _ _ _ (source_checked o) (λ _.
      check _ _ _ _ _ (there_right l s k p) (λ _. check _ _ _ _ _ (freed_right l s k p) (λ _. refl))))))

  pub show_checked : (o c : ℕ) (w : Place) → in_range l w ≡ true →
      failing (show_checks (encode l s) o c w) ≡ failing (system_checks l s (show o c w))
  unfolding system_checks open_there
  show_checked o c w r =
      check _ _ _ _ _ (cells_right l s k c) (λ h. check _ _ _ _ _ (building_right l s k c) (λ g.
      check _ _ _ _ _ (vacant_checked c w r h g) (λ _. check _ _ _ _ _ (open_right l s k o) (λ _. refl))))
