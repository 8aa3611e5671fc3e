-- What the calls write into a state's memory is the memory of the state after them.
use Rattle.std.proofs.Common.{◌≡◌, ℕ, ◌%◌, ◌<◌, Bool, true, false, cond, not, ◌&&◌, eqb, ltb, List, [], ◌∷◌, ◌++◌, length, replicate, is_some, Some, None, Option, unwrap_or, sym, refl, ap, ◌∙◌, subst, append_assoc, arith, ltb-true}
use borrow.Author.Tests.{eqb_apart, not-true}
use Rattle.std.proofs.lemmas.Bool.{and_parts}
use Rattle.sha256.specs.Words.{two_words}
use Rattle.sha256.specs.Measures.{Measures, more_measured}
use Rattle.sha256.specs.declared.Measure.{Measure}
use Rattle.sha256.proofs.Measured.{none_measured, more_measures}
use Rattle.model.specs.Calls.{Place, new_cell, new_thread, new_table, hold, give, show}
use Rattle.model.specs.Measured.{thread_from, page_at, part_words, place_word}
use Rattle.model.specs.Pages as model
use Rattle.model.specs.Pages.{Entry, free, cell, thread, top, table, held, spare, closed, opened, nothing, table_at, is_cell, is_in, stopped}
use Rattle.model.specs.State as state
use Rattle.model.specs.State.{Limits, State, entry, apply, apply_all, put_entry, put_slot, put_table}
use Rattle.model.specs.Refusals.{failing, system_checks, cell_there, open_there, vacant}
use Rattle.model.specs.Invariant.{Live, EntryFits}
use Rattle.model.specs.Monitor.{system_edits, copied, becomes_held, becomes_table}
use Rattle.std.proofs.lemmas.List.{get_or_default}
use Rattle.model.proofs.Effects.{passes}
use Rattle.model.proofs.SameBuilt.{copied_long}
use Rattle.pages.specs.Flat.{flat, page_put}
use Rattle.pages.specs.Layout.{encode}
use Rattle.pages.specs.Rows as rows
use Rattle.full_pages.specs.Meaning.{begun, Bare}
use Rattle.pages.specs.Rows.{numbers_put}
use Rattle.pages.specs.Meaning.{measure_words, measure_in}
use Rattle.pages.specs.declared.values.Phase.TheVariants.{Building}
use Rattle.pages.specs.declared.values.Record.TheVariants as rec
use Rattle.full_pages.proofs.Edits.{edits_written}
use Rattle.pages.proofs.Flats.{pages_written}
use Rattle.pages.proofs.Seen.{reads_right}
use Rattle.lookups.specs.Lookups as look
use Rattle.lookups.proofs.Right.{Known, its_cell, live_cell, its_top, its_table, table_fits, had, not_stopped, vacant_by_right}
use Rattle.lookups.proofs.Edited.{the_free, bare_apart, contents_wide, opens_wide, edited, long_edited, other, tables_stay}
use Rattle.lookups.proofs.Edited.{long_slot, slot_other, table_apart}
use Rattle.building.specs.Made as made

-- A place with nothing in its slot is in a table.
pub vacant_table : (o : Option ℕ) (z : Bool) → (is_some o && z) ≡ true → o ≡ Some (unwrap_or (cond z o None) 0)
vacant_table None z h = absurd (grind (arith, h))
vacant_table (Some q) true h = refl
vacant_table (Some q) false h = absurd (grind (arith, h))

module _ (l : Limits) (s : State) (k : Known l s) where
  low : (p : ℕ) → ltb p l.pages ≡ true → p < length s.entries
  low p h = omega (arith, ltb-true p l.pages h, k.invariant.entries_long)

  bare : (p : ℕ) → model.is_free (entry s p) ≡ true → Bare (entry s p)
  bare p h = subst Bare (sym (the_free (entry s p) h)) tt

  pub given_written : (p c : ℕ) → failing (system_checks l s (give p c)) ≡ None →
      made.given (encode l s) p c ≡ encode l (apply_all s (system_edits l s (give p c)))
  unfolding system_checks system_edits
  given_written p c h =
      let q = passes (system_checks l s (give p c)) h in edits_written.become l s p (rec.Spare c) (low p q.1.0) (bare p q.1.1.0) tt

  pub cell_written : (p t : ℕ) → failing (system_checks l s (new_cell p t)) ≡ None →
      made.made_cell (encode l s) p t ≡ encode l (apply_all s (system_edits l s (new_cell p t)))
  unfolding system_checks system_edits
  cell_written p t h =
      let q = passes (system_checks l s (new_cell p t)) h in
      let a = and_parts (ltb p l.pages && ltb t l.pages) (not (eqb p t)) q.0 in
      let b = and_parts (ltb p l.pages) (ltb t l.pages) a.0 in
      let f = and_parts (model.is_free (entry s p)) (model.is_free (entry s t)) q.1.0 in
      let x : Entry = cell (record { top = t; phase = model.building; measured = [] }) in
      let t-free = other s p x t free (the_free (entry s t) f.1) (eqb_apart p t (not-true _ a.1)) in
      ap (λ m. begun m t (rec.Top p)) (edits_written.new_cell l s p t Building made.none_measured (low p b.0) (bare p f.0) none_measured)
      ∙ edits_written.become l (edited s p x) t (rec.Top p) (omega (arith, low t b.1, long_edited s p x)) (subst Bare (sym t-free) tt) tt
      ∙ ap (λ n. encode l (apply (edited s p x) (put_entry t (top (record { cell = p; tables = replicate n None })))))
      (sym k.sized.places_are)

  -- A cell that is there, and what was measured of it with more.
  module _ (c : ℕ) (y : model.Cell) (e : entry s c ≡ cell y) (low-cell : c < length s.entries) where
    measures : (ws : List ℕ) → length ws % 16 ≡ 0 → Measures (more_measured (measure_in (encode l s) c) ws) (y.measured ++ ws)
    measures ws n =
        more_measures (measure_in (encode l s) c) y.measured ws (reads_right.measured l s c y e low-cell (k.blocks c y e)) n

    pub thread_made : (p a : ℕ) → p < length s.entries → Bare (entry s p) →
        made.made_thread (encode l s) p c a
        ≡ encode l (apply_all s (put_entry p (thread (record { cell = c; start = a; under_way = false; registers = state.no_registers }))
        ∷ state.measure c (thread_from a) ∷ []))
    unfolding part_words
    thread_made p a h b =
        let x : Entry = thread (record { cell = c; start = a; under_way = false; registers = state.no_registers }) in
        let w : Measure = more_measured (measure_in (encode l s) c) (two_words 2 a) in
        ap (λ m. numbers_put m c 4 (measure_words w)) (edits_written.become l s p (rec.Thread c a false) h b tt)
        ∙ edits_written.others.measure l (edited s p x) c (thread_from a) y w
        (other s p x c (cell y) e (bare_apart s p c (cell y) b e (λ z. z)))
        (omega (arith, low-cell, long_edited s p x)) (measures (two_words 2 a) refl)

  pub thread_written : (p c a : ℕ) → failing (system_checks l s (new_thread p c a)) ≡ None →
      made.made_thread (encode l s) p c a ≡ encode l (apply_all s (system_edits l s (new_thread p c a)))
  unfolding system_checks system_edits
  thread_written p c a h =
      let q = passes (system_checks l s (new_thread p c a)) h in
      let y = its_cell l s c q.0 in
      thread_made c y.0 y.1 (low c (and_parts (ltb c l.pages) (is_cell (entry s c)) q.0).0) p a (low p q.1.0)
      (bare p q.1.1.0)

  -- A page that becomes a table, or is held, of a cell that is not stopped.
  module _ (c : ℕ) (y : model.Cell) (e : entry s c ≡ cell y) (live : Live s c) (p : ℕ) (h : p < length s.entries)
      (b : Bare (entry s p)) where
    not_cell : p ≡ c → ⊥
    not_cell = bare_apart s p c (cell y) b e (λ z. z)

    its : (x : model.Top) × (entry s y.top ≡ top x)
    its = its_top l s k c y e live

    not_top : p ≡ y.top → ⊥
    not_top = bare_apart s p y.top (top its.0) b its.1 (λ z. z)

    top_low : y.top < length s.entries
    unfolding EntryFits
    top_low = omega (arith, k.invariant.entries_long, subst (EntryFits l) e (k.invariant.entries_fit c))

    pub table_made : (i : ℕ) → i < 256 →
        made.made_table (encode l s) p c y.top i ≡ encode l (apply_all s (becomes_table l p c i))
    unfolding EntryFits
    table_made i g =
        let x : Entry = table (record { cell = c; slots = replicate 1024 nothing }) in
        let fits = subst (EntryFits l) its.1 (k.invariant.entries_fit y.top) in
        ap (λ m. rows.table_put m y.top i p) (edits_written.become l s p (rec.Table c) h b tt)
        ∙ edits_written.others.put_table l (edited s p x) c i p y its.0 (other s p x c (cell y) e not_cell)
        (other s p x y.top (top its.0) its.1 not_top) (omega (arith, top_low, long_edited s p x))
        (omega (arith, g, fits.0, k.sized.places_are)) g
        ∙ ap (λ n. encode l (apply_all s (put_entry p (table (record { cell = c; slots = replicate n nothing })) ∷ put_table c i p ∷ [])))
        (sym k.sized.slots_are)

    pub held_made : (w : Place) (q : ℕ) → w.slot < 1024 → table_at s.entries c w.table ≡ Some q →
        made.made_held (encode l s) p c q w
        ≡ encode l (apply_all s (put_entry p (held (record { cell = c })) ∷ put_slot c w (closed p w.write w.run) ∷ []))
    unfolding EntryFits
    held_made w q g f =
        let x : Entry = held (record { cell = c }) in
        let t = its_table l s k c y e live w.table q f in
        let fits = subst (EntryFits l) t.1 (k.invariant.entries_fit q) in
        let low_table : q < length s.entries = omega (arith, k.invariant.entries_long, table_fits l s k c y e live w.table q f) in
        ap (λ m. rows.slot_put m q w.slot (closed p w.write w.run)) (edits_written.become l s p (rec.Held c) h b tt)
        ∙ edits_written.others.put_slot l (edited s p x) c w (closed p w.write w.run) q t.0
        (tables_stay s p x c w.table y its.0 e its.1 not_cell not_top ∙ f)
        (other s p x q (table t.0) t.1 (bare_apart s p q (table t.0) b t.1 (λ z. z)))
        (omega (arith, low_table, long_edited s p x)) (omega (arith, g, fits.0, k.sized.slots_are)) g

  pub table_written : (p c i : ℕ) → failing (system_checks l s (new_table p c i)) ≡ None →
      made.made_table (encode l s) p c (look.top_of (look.cell_of (encode l s) c)) i
      ≡ encode l (apply_all s (system_edits l s (new_table p c i)))
  unfolding system_checks system_edits
  table_written p c i h =
      let q = passes (system_checks l s (new_table p c i)) h in
      let y = its_cell l s c q.1.0 in
      let live = live_cell l s c q.1.0 (not-true _ q.1.1.0) in
      ap (λ o. made.made_table (encode l s) p c (look.top_of o) i) (had l s k c y.0 y.1 live)
      ∙ table_made c y.0 y.1 live p (low p q.1.1.1.1.0) (bare p q.1.1.1.1.1.0) i
      (omega (arith, ltb-true i l.places q.0, k.sized.places_are))

  -- A place where a cell that is being built sees nothing: the table that it is in.
  its_place : (c : ℕ) (w : Place) → cell_there l s c ≡ true → is_in model.building (entry s c) ≡ true → vacant s c w ≡ true →
      w.table < 256 → w.slot < 1024 → table_at s.entries c w.table ≡ Some (made.table_for (encode l s) c w)
  its_place c w h g f i j =
      let y = its_cell l s c h in
      vacant_table (table_at s.entries c w.table) (model.is_nothing (model.slot_at s.entries c w)) f
      ∙ ap (λ o. Some (unwrap_or o 0)) (sym (vacant_by_right l s k c y.0 y.1 (live_cell l s c h (not_stopped (entry s c) g)) w i j))

  pub shown_written : (o c : ℕ) (w : Place) → w.table < 256 → w.slot < 1024 → failing (system_checks l s (show o c w)) ≡ None →
      made.shown (encode l s) o c w ≡ encode l (apply_all s (system_edits l s (show o c w)))
  unfolding system_checks system_edits EntryFits
  shown_written o c w i j h =
      let q = passes (system_checks l s (show o c w)) h in
      let y = its_cell l s c q.0 in
      let live = live_cell l s c q.0 (not_stopped (entry s c) q.1.0) in
      let f = its_place c w q.0 q.1.0 q.1.1.0 i j in
      let t = its_table l s k c y.0 y.1 live w.table _ f in
      let fits = subst (EntryFits l) t.1 (k.invariant.entries_fit _) in
      edits_written.others.put_slot l s c w (opened o w.write) _ t.0 f t.1
      (omega (arith, k.invariant.entries_long, table_fits l s k c y.0 y.1 live w.table _ f))
      (omega (arith, j, fits.0, k.sized.slots_are)) j

  -- What a page gets that is held.
  pub source_right : (o : Option ℕ) → open_there l o ≡ true → made.source_words (flat s.open_pages) o ≡ copied l s o
  unfolding copied open_there
  source_right None h = ap (λ n. replicate n 0) (sym k.sized.words_are)
  source_right (Some o) h =
      let g : o < length s.open_pages = omega (arith, ltb-true o l.opens h, k.invariant.opens_long) in
      pages_written.read s.open_pages o (opens_wide l s k) g ∙ get_or_default s.open_pages o [] (state.zeros l) g

  copied_1024 : (o : Option ℕ) → length (copied l s o) ≡ 1024
  copied_1024 o = copied_long l s o k.invariant ∙ k.sized.words_are

  pub pages_held : (p c : ℕ) (w : Place) (o : Option ℕ) → failing (system_checks l s (hold p c w o)) ≡ None →
      made.held_pages (flat s.contents) (flat s.open_pages) p o ≡ flat (apply_all s (system_edits l s (hold p c w o))).contents
  unfolding system_checks system_edits
  pages_held p c w o h =
      let q = passes (system_checks l s (hold p c w o)) h in
      ap (page_put (flat s.contents) p) (source_right o q.1.1.1.0)
      ∙ pages_written.put s.contents p (copied l s o) (contents_wide l s k)
      (omega (arith, ltb-true p l.pages q.1.1.1.1.0, k.invariant.contents_long)) (copied_1024 o)

  pub held_written : (p c : ℕ) (w : Place) (o : Option ℕ) → w.table < 256 → w.slot < 1024 →
      failing (system_checks l s (hold p c w o)) ≡ None →
      made.held_memory (encode l s) (flat s.open_pages) p c w o ≡ encode l (apply_all s (system_edits l s (hold p c w o)))
  unfolding system_checks system_edits part_words
  held_written p c w o i j h =
      let q = passes (system_checks l s (hold p c w o)) h in
      let y = its_cell l s c q.0 in
      let low-cell = low c (and_parts (ltb c l.pages) (is_cell (entry s c)) q.0).0 in
      let live = live_cell l s c q.0 (not_stopped (entry s c) q.1.0) in
      let f = its_place c w q.0 q.1.0 q.1.1.0 i j in
      let b = bare p q.1.1.1.1.1.0 in
      let ws : List ℕ = copied l s o in
      let x : Entry = held (record { cell = c }) in
      let one : State = edited s p x in
      let t = its_top l s k c y.0 y.1 live in
      let u = its_table l s k c y.0 y.1 live w.table _ f in
      let held_state : State = apply_all s (becomes_held p c w ws) in
      let first : Measure = more_measured (measure_in (encode l s) c) (two_words 4 (place_word w)) in
      let measured = more_measures first _ ws (measures c y.0 y.1 low-cell (two_words 4 (place_word w)) refl)
      (omega (arith, copied_1024 o)) in
      ap (λ z. numbers_put (made.made_held (encode l s) p c (made.table_for (encode l s) c w) w) c 4
      (measure_words (made.held_measure (encode l s) c w z))) (source_right o q.1.1.1.0)
      ∙ ap (λ m. numbers_put m c 4 (measure_words (more_measured first ws)))
      (held_made c y.0 y.1 live p (low p q.1.1.1.1.0) b w _ j f
      ∙ edits_written.others.write_page l (apply one (put_slot c w (closed p w.write w.run))) p ws)
      ∙ edits_written.others.measure l held_state c (page_at w ws) y.0 (more_measured first ws)
      (slot_other one c w (closed p w.write w.run) _ c (cell y.0)
      (tables_stay s p x c w.table y.0 t.0 y.1 t.1 (bare_apart s p c _ b y.1 (λ z. z)) (bare_apart s p _ _ b t.1 (λ z. z)) ∙ f)
      (other s p x c _ y.1 (bare_apart s p c _ b y.1 (λ z. z)))
      (table_apart s _ c u.0 y.0 u.1 y.1))
      (omega (arith, low-cell, long_edited s p x, long_slot one c w (closed p w.write w.run)))
      (subst (Measures (more_measured first ws)) (append_assoc y.0.measured (two_words 4 (place_word w)) ws) measured)
