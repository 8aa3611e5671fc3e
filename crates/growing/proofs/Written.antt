-- What the calls write into a state's memory is the memory of the state after them.
use Rattle.std.proofs.Common.{◌≡◌, ℕ, ◌<◌, Bool, true, false, cond, ◌&&◌, ltb, List, [], ◌∷◌, length, replicate, Some, None, Option, unwrap_or, sym, refl, ap, ◌∙◌, subst, arith, ltb-true}
use borrow.Author.Tests.{both_ways}
use lib.ListN.{length-replicate}
use Rattle.std.proofs.lemmas.Bool.{and_parts}
use Rattle.model.specs.Calls.{Place, grow, shrink, extend}
use Rattle.model.specs.Pages as model
use Rattle.model.specs.Pages.{Entry, cell, table, closed, nothing, kind, kind_number, table_at, slot_at, slot_in, closed_in, ◌is◌}
use Rattle.model.specs.State as state
use Rattle.model.specs.State.{Limits, State, entry, apply, apply_all, put_entry, put_slot, Caller, caller}
use Rattle.model.specs.Refusals as refusals
use Rattle.model.specs.Refusals.{failing, cell_checks}
use Rattle.model.specs.Invariant.{EntryFits}
use Rattle.model.specs.Monitor.{cell_edits}
use Rattle.model.proofs.Effects.{passes}
use Rattle.pages.specs.Flat.{flat, page_put}
use Rattle.pages.specs.Layout.{encode}
use Rattle.full_pages.specs.Meaning.{begun, Bare}
use Rattle.pages.specs.declared.values.Record.TheVariants.{Spare}
use Rattle.full_pages.proofs.Edits.{edits_written}
use Rattle.pages.proofs.Flats.{pages_written}
use Rattle.lookups.specs.Lookups as look
use Rattle.lookups.proofs.Right.{Known, shown_caller, its_table, table_fits, vacant_right, showing_right}
use Rattle.lookups.proofs.Edited.{bare_apart, contents_wide, long_slot, slot_other}
use Rattle.building.specs.Made.{made_held, made_table}
use Rattle.building.proofs.Written.{vacant_table, held_made, table_made}
use Rattle.growing.specs.Checks.{in_range}
use Rattle.growing.specs.Made.{grown, grown_pages, shrunk, extended}
use Rattle.growing.proofs.Checked.{its_cell, live, top_right, none_shown}

bare_spare : (x : Entry) → model.is_spare x ≡ true → Bare x
unfolding kind kind_number
bare_spare model.free h = tt
bare_spare (cell x) h = absurd (grind (arith, h))
bare_spare (model.thread x) h = absurd (grind (arith, h))
bare_spare (model.top x) h = absurd (grind (arith, h))
bare_spare (table x) h = absurd (grind (arith, h))
bare_spare (model.held x) h = tt
bare_spare (model.spare x) h = tt

bare_held : (x : Entry) → model.is_held x ≡ true → Bare x
unfolding kind kind_number
bare_held model.free h = tt
bare_held (cell x) h = absurd (grind (arith, h))
bare_held (model.thread x) h = absurd (grind (arith, h))
bare_held (model.top x) h = absurd (grind (arith, h))
bare_held (table x) h = absurd (grind (arith, h))
bare_held (model.held x) h = tt
bare_held (model.spare x) h = tt

-- A place that shows a page is in a table.
shown_table : (d : model.Entries) (o : Option ℕ) (n p : ℕ) → (closed_in (slot_in d o n) is p) ≡ true →
    o ≡ Some (unwrap_or (cond (closed_in (slot_in d o n) is p) o None) 0)
unfolding closed_in ◌is◌ slot_in
shown_table d None n p h = absurd (grind (arith, h))
shown_table d (Some q) n p h = sym (ap (λ b. Some (unwrap_or (cond b (Some q) None) 0)) h)

module _ (l : Limits) (s : State) (k : Known l s) (j : Caller) (calls : caller s ≡ Some j) where
  abbrev y : (y : model.Cell) × (entry s j.cell ≡ cell y)
  y = its_cell l s k j calls

  low : (p : ℕ) → ltb p l.pages ≡ true → p < length s.entries
  low p h = omega (arith, ltb-true p l.pages h, k.invariant.entries_long)

  -- a spare page of the caller
  spare_page : (p : ℕ) → refusals.own_spare l s j p ≡ true → (p < length s.entries) × Bare (entry s p)
  spare_page p h =
      let a = and_parts (ltb p l.pages && model.is_spare (entry s p)) (model.part_of (kind (entry s p)) is j.cell) h in
      let b = and_parts (ltb p l.pages) (model.is_spare (entry s p)) a.0 in
      (low p b.0, bare_spare (entry s p) b.1)

  held_page : (p : ℕ) → refusals.own_held l s j p ≡ true → (p < length s.entries) × Bare (entry s p)
  held_page p h =
      let a = and_parts (ltb p l.pages && model.is_held (entry s p)) (model.part_of (kind (entry s p)) is j.cell) h in
      let b = and_parts (ltb p l.pages) (model.is_held (entry s p)) a.0 in
      (low p b.0, bare_held (entry s p) b.1)

  pub grown_written : (p : ℕ) (w : Place) → failing (cell_checks l s j (grow p w)) ≡ None →
      grown (encode l s) (shown_caller s j) p w ≡ encode l (apply_all s (cell_edits l j (grow p w)))
  unfolding cell_checks cell_edits
  grown_written p w h =
      let q = passes (cell_checks l s j (grow p w)) h in
      let own = spare_page p q.0 in
      let r = and_parts (refusals.in_range l w) (refusals.vacant s j.cell w) q.1.0 in
      let i = and_parts (ltb w.table l.places) (ltb w.slot l.slots) r.0 in
      let a : w.table < 256 = omega (arith, ltb-true _ _ i.0, k.sized.places_are) in
      let b : w.slot < 1024 = omega (arith, ltb-true _ _ i.1, k.sized.slots_are) in
      let f =
      vacant_table (table_at s.entries j.cell w.table) (model.is_nothing (slot_at s.entries j.cell w)) r.1
      ∙ ap (λ o. Some (unwrap_or o 0)) (sym (vacant_right l s k j.cell y.0 y.1 (live l s k j calls) w a b)) in
      ap (λ t. made_held (encode l s) p j.cell (unwrap_or (look.vacant (encode l s) t w) 0) w) (top_right l s k j calls)
      ∙ held_made l s k j.cell y.0 y.1 (live l s k j calls) p own.0 own.1 w _ b f
      ∙ edits_written.others.write_page l
      (apply_all s (put_entry p (model.held (record { cell = j.cell })) ∷ put_slot j.cell w (closed p w.write w.run) ∷ []))
      p (state.zeros l)

  pub pages_grown : (p : ℕ) (w : Place) → failing (cell_checks l s j (grow p w)) ≡ None →
      grown_pages (flat s.contents) p ≡ flat (apply_all s (cell_edits l j (grow p w))).contents
  unfolding cell_checks cell_edits
  pages_grown p w h =
      let own = spare_page p (passes (cell_checks l s j (grow p w)) h).0 in
      ap (λ n. page_put (flat s.contents) p (replicate n 0)) (sym k.sized.words_are)
      ∙ pages_written.put s.contents p (state.zeros l) (contents_wide l s k)
      (omega (arith, own.0, k.invariant.entries_long, k.invariant.contents_long))
      (length-replicate {A = ℕ} l.words 0 ∙ k.sized.words_are)

  pub extended_written : (p i : ℕ) → failing (cell_checks l s j (extend p i)) ≡ None →
      extended (encode l s) (shown_caller s j) p i ≡ encode l (apply_all s (cell_edits l j (extend p i)))
  unfolding cell_checks cell_edits
  extended_written p i h =
      let q = passes (cell_checks l s j (extend p i)) h in
      let own = spare_page p q.1.0 in
      ap (λ t. made_table (encode l s) p j.cell t i) (top_right l s k j calls)
      ∙ table_made l s k j.cell y.0 y.1 (live l s k j calls) p own.0 own.1 i
      (omega (arith, ltb-true i l.places q.0, k.sized.places_are))

  range_of : (w : Place) (p : ℕ) → (closed_in (slot_at s.entries j.cell w) is p) ≡ true → in_range w ≡ true
  range_of w p h = by (in_range w) refl
    where
      by : (b : Bool) → in_range w ≡ b → b ≡ true
      by true e = refl
      by false e = absurd (both_ways _ (none_shown l s k j calls w p e) h)

  pub shrunk_written : (p : ℕ) (w : Place) → failing (cell_checks l s j (shrink p w)) ≡ None →
      shrunk (encode l s) (shown_caller s j) p w ≡ encode l (apply_all s (cell_edits l j (shrink p w)))
  unfolding cell_checks cell_edits EntryFits
  shrunk_written p w h =
      let q = passes (cell_checks l s j (shrink p w)) h in
      let own = held_page p q.0 in
      let r = range_of w p q.1.0 in
      let i = and_parts (ltb w.table 256) (ltb w.slot 1024) r in
      let a : w.table < 256 = ltb-true _ _ i.0 in
      let b : w.slot < 1024 = ltb-true _ _ i.1 in
      let f =
      shown_table s.entries (table_at s.entries j.cell w.table) w.slot p q.1.0
      ∙ ap (λ o. Some (unwrap_or o 0)) (sym (showing_right l s k j.cell y.0 y.1 (live l s k j calls) w p a b)) in
      let t = its_table l s k j.cell y.0 y.1 (live l s k j calls) w.table _ f in
      let fits = subst (EntryFits l) t.1 (k.invariant.entries_fit _) in
      let one : State = apply s (put_slot j.cell w nothing) in
      let stays = slot_other s j.cell w nothing _ p (entry s p) f refl
      (λ g. bare_apart s p _ (table t.0) own.1 t.1 (λ z. z) (sym g)) in
      ap (λ n. shrunk_at n) (top_right l s k j calls)
      ∙ ap (λ m. begun m p (Spare j.cell)) (edits_written.others.put_slot l s j.cell w nothing _ t.0 f t.1
      (omega (arith, k.invariant.entries_long, table_fits l s k j.cell y.0 y.1 (live l s k j calls) w.table _ f))
      (omega (arith, b, fits.0, k.sized.slots_are)) b)
      ∙ edits_written.become l one p (Spare j.cell) (omega (arith, own.0, long_slot s j.cell w nothing)) (subst Bare (sym stays) own.1) tt
    where
      shrunk_at : ℕ → List ℕ
      shrunk_at n = shrunk (encode l s) (record { thread = j.thread; cell = j.cell; top = n }) p w
