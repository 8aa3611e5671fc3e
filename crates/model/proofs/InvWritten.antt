-- What a run writes are pages, and pages stay pages.
use Rattle.std.proofs.Common.{◌≡◌, ℕ, true, false, List, [], get_or, Some, None, Option, refl}
use Rattle.model.specs.Pages.{Slot, nothing, closed, opened, writable, Entry, free, cell, thread, top, table, held, spare, Entries}
use Rattle.model.specs.Pages.{at, slots_in, slot_in, table_at}
use Rattle.model.specs.State.{Limits, State, Page}
use Rattle.model.specs.Machine.{ViewWell, sight, words_behind, write_behind, written}
use Rattle.model.specs.Invariant.{SlotFits, EntryFits}
use Rattle.model.proofs.Written.{written_keeps}
use Rattle.model.proofs.InvFits.{below_set, EntriesFit, PagesFit}

module _ (l : Limits) where
  -- All slots of a page are in range.
  slots_fit : (x : Entry) → EntryFits l x → (j : ℕ) → SlotFits l (get_or (slots_in x) j nothing)
  unfolding EntryFits SlotFits slots_in
  slots_fit free h j = tt
  slots_fit (cell y) h j = tt
  slots_fit (thread y) h j = tt
  slots_fit (top y) h j = tt
  slots_fit (table y) h j = h.1 j
  slots_fit (held y) h j = tt
  slots_fit (spare y) h j = tt

  pub seen_fits : (d : Entries) (q : Option ℕ) (j : ℕ) → EntriesFit l d → SlotFits l (slot_in d q j)
  unfolding slot_in SlotFits
  seen_fits d None j h = tt
  seen_fits d (Some q) j h = slots_fit (at d q) (h q) j

  pub record PagesWell (s : State) : Type 0 where
    pub contents : PagesFit l l.pages s.contents
    pub opens : PagesFit l l.opens s.open_pages

  seen_well : (s : State) (z : Slot) → PagesWell s → SlotFits l z → ViewWell l z (words_behind s z)
  unfolding ViewWell SlotFits words_behind
  seen_well s nothing w h = tt
  seen_well s (closed p a b) w h = w.contents p h
  seen_well s (opened o a) w h = w.opens o h

  pub sight_well : (s : State) (c : ℕ) → EntriesFit l s.entries → PagesWell s → (i j : ℕ) →
      ViewWell l (sight s c i j).slot (sight s c i j).words
  sight_well s c h w i j = seen_well s _ w (seen_fits s.entries (table_at s.entries c i) j h)

  behind_well : (z : Slot) (ws : List ℕ) (s : State) → PagesWell s → (writable z ≡ true → Page l ws) → PagesWell (write_behind z ws s)
  unfolding write_behind writable
  behind_well nothing ws s w h = w
  behind_well (closed p true b) ws s w h =
      record { contents = below_set (Page l) l.pages s.contents p ws [] w.contents (h refl); opens = w.opens }
  behind_well (closed p false b) ws s w h = w
  behind_well (opened o true) ws s w h =
      record { contents = w.contents; opens = below_set (Page l) l.opens s.open_pages o ws [] w.opens (h refl) }
  behind_well (opened o false) ws s w h = w

  pub written_well : (c : ℕ) (f : ℕ → ℕ → List ℕ) (s : State) → PagesWell s →
      ((i j : ℕ) → writable (sight s c i j).slot ≡ true → Page l (f i j)) → PagesWell (written c f s)
  written_well c f s w h = written_keeps PagesWell c f s (λ i j t v. behind_well _ (f i j) t v (h i j)) w
