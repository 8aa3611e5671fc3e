-- The checks over a state's memory come to what the definitions' come to, for one who calls.
use Rattle.std.proofs.Common.{◌≡◌, ℕ, ◌≤◌, Bool, true, false, cond, not, ◌&&◌, ltb, get_or, is_some, Some, None, Option, sym, refl, ap, ◌∙◌, subst, ap₂, arith, ltb-false, ltb-true}
use Rattle.std.proofs.lemmas.List.{get_or_past}
use Rattle.std.proofs.lemmas.Bool.{and_parts}
use Rattle.model.specs.Calls.{Place, grow, shrink, extend}
use Rattle.model.specs.Pages as model
use Rattle.model.specs.Pages.{Slot, nothing, cell, top, table, table_at, slot_at, slot_in, slots_in, tables_by, tables_in, closed_in, ◌is◌}
use Rattle.model.specs.State.{Limits, State, entry, Caller, caller}
use Rattle.model.specs.Refusals as refusals
use Rattle.model.specs.Refusals.{failing, cell_checks}
use Rattle.model.specs.Invariant.{Live, EntryFits}
use Rattle.model.proofs.ConfRunning.{Runs, runs_now}
use Rattle.pages.specs.Layout.{encode}
use Rattle.lookups.specs.Lookups as look
use Rattle.lookups.proofs.Checking.{check}
use Rattle.lookups.proofs.Right.{Known, both_some, the_first, shown_caller, top_had, spares_right, helds_right, its_table}
use Rattle.lookups.proofs.Right.{table_right, no_table, vacant_right, showing_right}
use Rattle.growing.specs.Checks.{in_range, grow_checks, shrink_checks, extend_checks}

-- Two tests of which the second counts only where the first holds.
and_same : (a b c : Bool) → (a ≡ true → b ≡ c) → (a && b) ≡ (a && c)
and_same true b c h = h refl
and_same false b c h = refl

module _ (l : Limits) (s : State) (k : Known l s) (j : Caller) (calls : caller s ≡ Some j) where
  runs : Runs s j
  runs = runs_now l s j k.invariant calls

  pub its_cell : (y : model.Cell) × (entry s j.cell ≡ cell y)
  its_cell = the_first (entry s j.cell) runs.first

  pub live : Live s j.cell
  live = runs.live

  pub top_right : top_had (entry s j.cell) ≡ its_cell.0.top
  unfolding model.cell_in
  top_right = ap top_had its_cell.1

  range_right : (w : Place) → in_range w ≡ refusals.in_range l w
  range_right w = ap₂ (λ a b. ltb w.table a && ltb w.slot b) (sym k.sized.places_are) (sym k.sized.slots_are)

  pub grow_checked : (p : ℕ) (w : Place) →
      failing (grow_checks (encode l s) (shown_caller s j) p w) ≡ failing (cell_checks l s j (grow p w))
  unfolding cell_checks
  grow_checked p w =
      check _ _ _ _ _ (spares_right l s k j p) (λ _.
      check _ _ _ _ _ (and_same (in_range w) _ _ (λ h.
      let i = and_parts (ltb w.table 256) (ltb w.slot 1024) h in
      ap (λ t. is_some (look.vacant (encode l s) t w)) top_right
      ∙ ap is_some (vacant_right l s k j.cell its_cell.0 its_cell.1 live w (ltb-true _ _ i.0) (ltb-true _ _ i.1))
      ∙ both_some (table_at s.entries j.cell w.table) (model.is_nothing (slot_at s.entries j.cell w)))
      ∙ ap (λ b. b && refusals.vacant s j.cell w) (range_right w)) (λ _. refl))

  pub extend_checked : (p i : ℕ) →
      failing (extend_checks (encode l s) (shown_caller s j) p i) ≡ failing (cell_checks l s j (extend p i))
  unfolding cell_checks
  extend_checked p i =
      check _ _ _ _ _ (ap (ltb i) (sym k.sized.places_are)) (λ h. check _ _ _ _ _ (spares_right l s k j p) (λ _.
      check _ _ _ _ _ (ap (λ t. not (is_some (look.table_of (encode l s) t i))) top_right
      ∙ ap (λ o. not (is_some o)) (table_right l s k j.cell its_cell.0 its_cell.1 live i
      (omega (arith, ltb-true i l.places h, k.sized.places_are)))) (λ _. refl)))

  -- A place out of range shows nothing.
  no_slot : (i n : ℕ) (o : Option ℕ) → table_at s.entries j.cell i ≡ o → 1024 ≤ n → slot_in s.entries o n ≡ nothing
  unfolding slot_in slots_in EntryFits
  no_slot i n None e h = refl
  no_slot i n (Some q) e h =
      let t = its_table l s k j.cell its_cell.0 its_cell.1 live i q e in
      let fits = subst (EntryFits l) t.1 (k.invariant.entries_fit q) in
      ap (λ x. get_or (slots_in x) n nothing) t.1 ∙ get_or_past t.0.slots n nothing (omega (arith, h, fits.0, k.sized.slots_are))

  pub none_shown : (w : Place) (p : ℕ) → in_range w ≡ false → (closed_in (slot_at s.entries j.cell w) is p) ≡ false
  unfolding closed_in ◌is◌ slot_in
  none_shown w p h = by (ltb w.table 256) (ltb w.slot 1024) refl refl h
    where
      by : (a b : Bool) → ltb w.table 256 ≡ a → ltb w.slot 1024 ≡ b → (a && b) ≡ false →
          (closed_in (slot_at s.entries j.cell w) is p) ≡ false
      by true true e f g = absurd (grind (arith, g))
      by true false e f g =
          ap (λ z. closed_in z is p) (no_slot w.table w.slot (table_at s.entries j.cell w.table) refl (ltb-false _ _ f))
      by false b e f g = ap (λ o. closed_in (slot_in s.entries o w.slot) is p)
          (no_table l s k j.cell its_cell.0 its_cell.1 live w.table (ltb-false _ _ e))

  -- what is shown is in a table
  some_shown : (w : Place) (p : ℕ) (o : Option ℕ) →
      is_some (cond (closed_in (slot_in s.entries o w.slot) is p) o None) ≡ (closed_in (slot_in s.entries o w.slot) is p)
  unfolding closed_in ◌is◌ slot_in
  some_shown w p None = refl
  some_shown w p (Some q) = by (closed_in (get_or (slots_in (model.at s.entries q)) w.slot nothing) is p)
    where
      by : (b : Bool) → is_some (cond b (Some q) None) ≡ b
      by true = refl
      by false = refl

  shown_right : (w : Place) (p : ℕ) →
      (in_range w && is_some (look.showing (encode l s) (top_had (entry s j.cell)) w p)) ≡ (closed_in (slot_at s.entries j.cell w) is p)
  shown_right w p = by (in_range w) refl
    where
      by : (b : Bool) → in_range w ≡ b →
          (b && is_some (look.showing (encode l s) (top_had (entry s j.cell)) w p)) ≡ (closed_in (slot_at s.entries j.cell w) is p)
      by true h =
          let i = and_parts (ltb w.table 256) (ltb w.slot 1024) h in
          ap (λ t. is_some (look.showing (encode l s) t w p)) top_right
          ∙ ap is_some (showing_right l s k j.cell its_cell.0 its_cell.1 live w p (ltb-true _ _ i.0) (ltb-true _ _ i.1))
          ∙ some_shown w p (table_at s.entries j.cell w.table)
      by false h = sym (none_shown w p h)

  pub shrink_checked : (p : ℕ) (w : Place) →
      failing (shrink_checks (encode l s) (shown_caller s j) p w) ≡ failing (cell_checks l s j (shrink p w))
  unfolding cell_checks
  shrink_checked p w = check _ _ _ _ _ (helds_right l s k j p) (λ _. check _ _ _ _ _ (shown_right w p) (λ _. refl))
