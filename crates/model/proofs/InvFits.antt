-- Everything in a state is in range: which edits keep this, and that those of every call do.
use Rattle.std.proofs.Common.{◌≡◌, ℕ, zero, suc, ◌<◌, true, List, [], ◌∷◌, length, get_or, set, replicate, Some, None, Option, refl, ◌∙◌, inl, inr, arith, length-set, ltb-true}
use lib.ListN.{length-replicate}
use Rattle.std.proofs.lemmas.List.{get_or_default}
use Rattle.model.specs.Calls.{SystemCall, CellCall, how_many, new_cell, new_thread, new_table, hold, give, show, remove, seal, stop, enter}
use Rattle.model.specs.Calls.{resume, leave, interrupt, fault, grow, shrink, extend, who, draw}
use Rattle.model.specs.Pages.{Slot, nothing, Cell, Thread, Top, Table, Entry, free, cell, thread, top, table, held, spare, in_cell}
use Rattle.model.specs.Pages.{in_thread, in_top, in_table, Entries, at, cell_in, table_at, slot_put_in, table_put_by}
use Rattle.model.specs.State.{Limits, State, entry, zeros, all_words, seventeen, Page, Caller, Edit, put_entry, put_slot, put_table}
use Rattle.model.specs.State.{measure, set_phase, set_thread, write_page, run, apply, apply_all}
use Rattle.model.specs.Refusals.{open_there, system_checks, cell_checks, system_fits, cell_fits}
use Rattle.model.specs.Monitor.{copied, system_edits, cell_edits}
use Rattle.model.specs.Invariant.{SlotFits, EntryFits}
use Rattle.model.proofs.Lists.{get_d_set, getD_replicated}
use Rattle.model.proofs.Effects.{Pass}

-- What holds of an entry holds of one in which what it has is changed, if it does where it has that.
module _ (P : Entry → Type 0) where
  by_cell : (f : Cell → Cell) → ((y : Cell) → P (cell y) → P (cell (f y))) → (x : Entry) → P x → P (in_cell f x)
  unfolding in_cell
  by_cell f g free h = h
  by_cell f g (cell y) h = g y h
  by_cell f g (thread y) h = h
  by_cell f g (top y) h = h
  by_cell f g (table y) h = h
  by_cell f g (held y) h = h
  by_cell f g (spare y) h = h

  by_thread : (f : Thread → Thread) → ((y : Thread) → P (thread y) → P (thread (f y))) → (x : Entry) → P x → P (in_thread f x)
  unfolding in_thread
  by_thread f g free h = h
  by_thread f g (cell y) h = h
  by_thread f g (thread y) h = g y h
  by_thread f g (top y) h = h
  by_thread f g (table y) h = h
  by_thread f g (held y) h = h
  by_thread f g (spare y) h = h

  by_top : (f : Top → Top) → ((y : Top) → P (top y) → P (top (f y))) → (x : Entry) → P x → P (in_top f x)
  unfolding in_top
  by_top f g free h = h
  by_top f g (cell y) h = h
  by_top f g (thread y) h = h
  by_top f g (top y) h = g y h
  by_top f g (table y) h = h
  by_top f g (held y) h = h
  by_top f g (spare y) h = h

  by_table : (f : Table → Table) → ((y : Table) → P (table y) → P (table (f y))) → (x : Entry) → P x → P (in_table f x)
  unfolding in_table
  by_table f g free h = h
  by_table f g (cell y) h = h
  by_table f g (thread y) h = h
  by_table f g (top y) h = h
  by_table f g (table y) h = g y h
  by_table f g (held y) h = h
  by_table f g (spare y) h = h

module _ {A : Type 0} (P : A → Type 0) where
  -- What holds everywhere in a list still does where what is put into it has it.
  pub all_set : (xs : List A) (i : ℕ) (a d : A) → ((j : ℕ) → P (get_or xs j d)) → P a → (j : ℕ) → P (get_or (set xs i a) j d)
  all_set xs i a d h g j = elim (get_d_set xs i j a d) [ inl e ↦ rw e (h j) | inr e ↦ rw e.1 g ]

  pub below_set : (n : ℕ) (xs : List A) (i : ℕ) (a d : A) → ((j : ℕ) → j < n → P (get_or xs j d)) → P a →
      (j : ℕ) → j < n → P (get_or (set xs i a) j d)
  below_set n xs i a d h g j m = elim (get_d_set xs i j a d) [ inl e ↦ rw e (h j m) | inr e ↦ rw e.1 g ]

-- What is asked of an edit.
abbrev pub Fits : Limits → Edit → Type 0
Fits l (put_entry p x) = EntryFits l x
Fits l (put_slot c w z) = SlotFits l z
Fits l (put_table c i p) = p < l.pages
Fits l (measure c m) = Unit {0}
Fits l (set_phase c f) = Unit {0}
Fits l (set_thread t u rs) = seventeen rs ≡ true
Fits l (write_page p ws) = Page l ws
Fits l (run r) = Unit {0}

abbrev pub AllFit : Limits → List Edit → Type 0
AllFit l [] = Unit {0}
AllFit l (e ∷ es) = Fits l e × AllFit l es

module _ (l : Limits) where
  abbrev pub EntriesFit : Entries → Type 0
  EntriesFit d = (p : ℕ) → EntryFits l (at d p)

  slot_fits : (d : Entries) (q : Option ℕ) (j : ℕ) (z : Slot) → EntriesFit d → SlotFits l z → EntriesFit (slot_put_in d q j z)
  unfolding slot_put_in EntryFits
  slot_fits d None j z h g = h
  slot_fits d (Some q) j z h g =
      all_set (EntryFits l) d q _ free h (by_table (EntryFits l) _ (λ y k. (
        length-set y.slots j z ∙ k.0,
        all_set (SlotFits l) y.slots j z nothing k.1 g,
      )) (at d q) (h q))

  table_fits : (d : Entries) (y : Option Cell) (i p : ℕ) → EntriesFit d → p < l.pages → EntriesFit (table_put_by d y i p)
  unfolding table_put_by EntryFits
  table_fits d None i p h g = h
  table_fits d (Some x) i p h g =
      let P : Option ℕ → Type 0 = λ o. (q : ℕ) → o ≡ Some q → q < l.pages in
      all_set (EntryFits l) d x.top _ free h (by_top (EntryFits l) _ (λ y k. (
        length-set y.tables i (Some p) ∙ k.0,
        all_set P y.tables i (Some p) None k.1 (λ q e. grind (arith, e)),
      )) (at d x.top) (h x.top))

  edit_fits : (s : State) (e : Edit) → EntriesFit s.entries → Fits l e → EntriesFit (apply s e).entries
  unfolding EntryFits
  edit_fits s (put_entry p x) h g = all_set (EntryFits l) s.entries p x free h g
  edit_fits s (put_slot c w z) h g = slot_fits s.entries (table_at s.entries c w.table) w.slot z h g
  edit_fits s (put_table c i p) h g = table_fits s.entries (cell_in (entry s c)) i p h g
  edit_fits s (measure c m) h g =
      all_set (EntryFits l) s.entries c _ free h (by_cell (EntryFits l) _ (λ y k. k) (entry s c) (h c))
  edit_fits s (set_phase c f) h g =
      all_set (EntryFits l) s.entries c _ free h (by_cell (EntryFits l) _ (λ y k. k) (entry s c) (h c))
  edit_fits s (set_thread t u rs) h g =
      all_set (EntryFits l) s.entries t _ free h (by_thread (EntryFits l) _ (λ y k. (k.0, g)) (entry s t) (h t))
  edit_fits s (write_page p ws) h g = h
  edit_fits s (run r) h g = h

  abbrev pub PagesFit : ℕ → List (List ℕ) → Type 0
  PagesFit n xs = (p : ℕ) → p < n → Page l (get_or xs p [])

  edit_pages : (s : State) (e : Edit) → PagesFit l.pages s.contents → Fits l e → PagesFit l.pages (apply s e).contents
  edit_pages s (put_entry p x) h g = h
  edit_pages s (put_slot c w z) h g = h
  edit_pages s (put_table c i p) h g = h
  edit_pages s (measure c m) h g = h
  edit_pages s (set_phase c f) h g = h
  edit_pages s (set_thread t u rs) h g = h
  edit_pages s (write_page p ws) h g = below_set (Page l) l.pages s.contents p ws [] h g
  edit_pages s (run r) h g = h

  pub all_fits : (s : State) (es : List Edit) → EntriesFit s.entries → PagesFit l.pages s.contents → AllFit l es →
      EntriesFit (apply_all s es).entries × PagesFit l.pages (apply_all s es).contents
  all_fits s [] h g k = (h, g)
  all_fits s (e ∷ es) h g k = all_fits (apply s e) es (edit_fits s e h k.0) (edit_pages s e g k.0) k.1

zero_words : (n : ℕ) → all_words (replicate n 0) ≡ true
unfolding all_words
zero_words zero = refl
zero_words (suc n) = zero_words n

pub zeros_page : (l : Limits) → Page l (zeros l)
zeros_page l = (length-replicate l.words 0, zero_words l.words)

module _ (l : Limits) (s : State) (opens_long : length s.open_pages ≡ l.opens) (opens : PagesFit l l.opens s.open_pages) where
  copied_page : (o : Option ℕ) → open_there l o ≡ true → Page l (copied l s o)
  unfolding copied open_there
  copied_page None h = zeros_page l
  copied_page (Some o) h =
      let low : o < l.opens = ltb-true o l.opens h in
      rw (get_or_default s.open_pages o (zeros l) [] (rw opens_long low)) (opens o low)

  empty_table : (p : ℕ) → (length (replicate l.slots nothing) ≡ l.slots)
      × ((j : ℕ) → SlotFits l (get_or (replicate l.slots nothing) j nothing))
  unfolding SlotFits
  empty_table p = (length-replicate l.slots nothing, λ j. rw (getD_replicated l.slots j nothing) tt)

  pub system_fit : (c : SystemCall) → Pass (system_checks l s c) → system_fits l c ≡ true → AllFit l (system_edits l s c)
  unfolding system_edits system_checks system_fits EntryFits SlotFits all_words open_there
  system_fit how_many h f = tt
  system_fit (new_cell p t) h f = (
    ltb-true t l.pages (grind (arith, h.0)),
    ((length-replicate l.places None, λ i q e. absurd (grind (arith, e, getD_replicated {A = Option ℕ} l.places i None))), tt),
  )
  system_fit (new_thread p c a) h f = ((f, refl), (tt, tt))
  system_fit (new_table p c i) h f = (empty_table p, (ltb-true p l.pages h.1.1.1.1.0, tt))
  system_fit (hold p c w o) h f = (tt, (ltb-true p l.pages h.1.1.1.1.0, (copied_page o h.1.1.1.0, (tt, tt))))
  system_fit (give p c) h f = (tt, tt)
  system_fit (show o c w) h f = (ltb-true o l.opens h.1.1.1.0, tt)
  system_fit (remove p) h f = (tt, tt)
  system_fit (seal c) h f = (tt, tt)
  system_fit (stop c) h f = (tt, tt)
  system_fit (enter t x y z) h f = (tt, tt)
  system_fit (resume t) h f = (tt, tt)

  pub cell_fit : (k : Caller) (c : CellCall) → Pass (cell_checks l s k c) → cell_fits c ≡ true → AllFit l (cell_edits l k c)
  unfolding cell_edits cell_checks cell_fits EntryFits SlotFits all_words
  cell_fit k (leave n) h f = (refl, (tt, tt))
  cell_fit k (interrupt rs) h f = (f, (tt, tt))
  cell_fit k (fault n) h f = (refl, (tt, tt))
  cell_fit k (grow p w) h f = (tt, (ltb-true p l.pages (grind (arith, h.0)), (zeros_page l, tt)))
  cell_fit k (shrink p w) h f = (tt, (tt, tt))
  cell_fit k (extend p i) h f = (empty_table p, (ltb-true p l.pages (grind (arith, h.1.0)), tt))
  cell_fit k who h f = tt
  cell_fit k (draw n) h f = tt
