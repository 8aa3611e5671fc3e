-- What is answered and written over a state's memory is what the definitions say.
use Rattle.std.proofs.Common.{◌≡◌, ℕ, ◌%◌, ◌<◌, Bool, true, eqb, ltb, List, [], ◌∷◌, ◌++◌, length, replicate, Some, None, sym, refl, ap, ◌∙◌, subst, ap₂, arith, ltb-true, eqb-true}
use Rattle.std.specs.Option.{option_map}
use Rattle.std.proofs.lemmas.Bool.{and_parts}
use Rattle.sha256.specs.Measures.{name_words}
use Rattle.sha256.proofs.Measured.{named}
use Rattle.model.specs.Answers.{enters}
use Rattle.model.specs.Measured.{name}
use Rattle.model.specs.Pages as model
use Rattle.model.specs.Pages.{cell, thread, kind, part_of, is_thread, is_in, sealed}
use Rattle.model.specs.State as state
use Rattle.model.specs.State.{Limits, State, entry, apply_all, set_thread, run, all_words, owner, owner_by, is_owner_in}
use Rattle.model.specs.Refusals as refusals
use Rattle.model.specs.Refusals.{thread_there}
use Rattle.model.specs.Invariant.{EntryFits}
use Rattle.model.specs.Monitor as monitor
use Rattle.model.specs.Monitor.{entered, name_in}
use Rattle.pages.specs.Layout.{encode}
use Rattle.pages.specs.Rows as rows
use Rattle.pages.specs.Meaning.{measure_in}
use Rattle.pages.proofs.Edits.{edits_written}
use Rattle.pages.proofs.Seen.{reads_right}
use Rattle.lookups.specs.Lookups as look
use Rattle.lookups.proofs.Right.{Known, shown_cell, cell_right}
use Rattle.running.specs.Made.{top_for, start_of, first_registers, kept_registers, run_ended}
use Rattle.running.proofs.Checked.{its_thread, had_thread}

-- A cell in some phase is one.
the_sealed : (x : model.Entry) → is_in sealed x ≡ true → (y : model.Cell) × (x ≡ cell y)
unfolding model.cell_is model.cell_in
the_sealed model.free h = absurd (grind (arith, h))
the_sealed (cell x) h = (x, refl)
the_sealed (thread x) h = absurd (grind (arith, h))
the_sealed (model.top x) h = absurd (grind (arith, h))
the_sealed (model.table x) h = absurd (grind (arith, h))
the_sealed (model.held x) h = absurd (grind (arith, h))
the_sealed (model.spare x) h = absurd (grind (arith, h))

module _ (l : Limits) (s : State) (k : Known l s) where
  -- What is entered: a thread of a sealed cell, with registers.
  module _ (t : ℕ) (there : thread_there l s t ≡ true) (may : refusals.may_run s t ≡ true) where
    its : (h : model.Thread) × (entry s t ≡ thread h)
    its = its_thread l s k t there

    low_thread : t < length s.entries
    low_thread = omega (arith, ltb-true _ _ (and_parts (ltb t l.pages) (is_thread (entry s t)) there).0, k.invariant.entries_long)

    fits : EntryFits l (thread its.0)
    fits = subst (EntryFits l) its.1 (k.invariant.entries_fit t)

    its_owner : (y : model.Cell) × (entry s its.0.cell ≡ cell y)
    unfolding is_owner_in kind part_of
    its_owner = the_sealed (entry s its.0.cell) (ap (λ x. is_owner_in sealed s.entries (part_of (kind x))) (sym its.1) ∙ may)

    pub entered_right : (rs qs : List ℕ) → qs ≡ rs →
        enters (top_for (encode l s) (look.thread_of (encode l s) t)) qs ≡ entered (owner s t) rs
    unfolding entered owner_by kind part_of model.cell_in
    entered_right rs qs e =
        let y = its_owner in
        let had : owner s t ≡ Some y.0 =
        ap (λ x. owner_by s.entries (part_of (kind x))) its.1 ∙ ap model.cell_in y.1 in
        ap (λ o. enters (top_for (encode l s) o) qs) (had_thread l s k t its.0 its.1)
        ∙ ap₂ enters (ap look.top_of (cell_right l s k its.0.cell ∙ ap (λ x. option_map shown_cell (model.cell_in x)) y.1)) e
        ∙ sym (ap (λ o. entered o rs) had)

    pub first_right : (x y z : ℕ) →
        first_registers (encode l s) t x y z ≡ monitor.first_registers (model.thread_in (entry s t)) x y z
    unfolding monitor.first_registers model.thread_in EntryFits
    first_right x y z =
        let a : its.0.start % 4294967296 ≡ its.0.start = omega (arith, ltb-true its.0.start 4294967296 fits.0) in
        let had-start = ap (λ o. start_of o % 4294967296) (had_thread l s k t its.0 its.1) ∙ a in
        ap (λ n. x ∷ (y ∷ (z ∷ (replicate 12 0 ++ (n ∷ (0 ∷ [])))))) had-start
        ∙ sym (ap (λ e. monitor.first_registers (model.thread_in e) x y z) its.1)

    pub kept_right : kept_registers (encode l s) t ≡ monitor.kept_registers (model.thread_in (entry s t))
    unfolding monitor.kept_registers model.thread_in EntryFits
    kept_right =
        reads_right.registers l s t its.0 its.1 low_thread fits.1
        ∙ sym (ap (λ e. monitor.kept_registers (model.thread_in e)) its.1)

  -- A run that ends.
  pub ended_written : (t : ℕ) (h : model.Thread) (u : Bool) (rs : List ℕ) → entry s t ≡ thread h → t < length s.entries → length rs ≡ 17 →
      run_ended (encode l s) t u rs ≡ encode l (apply_all s (set_thread t u rs ∷ run None ∷ []))
  unfolding EntryFits
  ended_written t h u rs e low n =
      let fits = subst (EntryFits l) e (k.invariant.entries_fit t) in
      let long = eqb-true _ _ (and_parts (eqb (length h.registers) 17) (all_words h.registers) fits.1).0 in
      ap (λ m. rows.running_put m None) (edits_written.set_thread l s t u rs h e low long n)
      ∙ edits_written.run l (state.apply s (set_thread t u rs)) None

  -- A cell's name.
  pub name_right : (c : ℕ) (y : model.Cell) → entry s c ≡ cell y → c < length s.entries →
      name_words (measure_in (encode l s) c) ≡ name_in (model.cell_in (entry s c))
  unfolding name name_in model.cell_in
  name_right c y e low =
      named (measure_in (encode l s) c) y.measured (reads_right.measured l s c y e low (k.blocks c y e))
      ∙ sym (ap (λ x. name_in (model.cell_in x)) e)
