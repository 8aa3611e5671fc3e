-- What the processor does on the lent words is what it does on the pages in place.
use Rattle.std.proofs.Common.{◌≡◌, ℕ, ◌+◌, ◌*◌, ◌<◌, Bool, true, false, cond, ltb, List, [], length, get_or, set, Some, None, Option, sym, refl, ap, ◌∙◌, subst, arith, length-set, ltb-false, ltb-true, lt-ltb}
use mathlib.Core.Path.{fun_ext}
use Rattle.std.proofs.ByRecursion.{All-get_or, All-set}
use Rattle.model.specs.Pages as model
use Rattle.model.specs.Pages.{Slot, nothing, closed, opened, cell, table_at, slot_in, slots_in}
use Rattle.model.specs.State.{Limits, State, entry}
use Rattle.model.specs.Invariant.{Live, SlotFits, EntryFits}
use Rattle.model.specs.Machine.{words_behind, write_behind}
use Rattle.model.specs.Processor as processor
use Rattle.model.specs.Processor.{Seen, seen, seen_in, in_place, steps, table_number, slot_number, word_number}
use Rattle.model.proofs.InPlace.{SameCame, simulates}
use Rattle.pages.specs.Flat.{flat, Wide}
use Rattle.pages.specs.Layout.{encode}
use Rattle.pages.specs.Rows as rows
use Rattle.pages.proofs.Flats.{flat_nth, flat_set}
use Rattle.lookups.specs.Lookups as look
use Rattle.lookups.proofs.Right.{Known, there_right, open_right, table_right, its_table, no_table, slot_right}
use Rattle.machine.specs.Instructions.{made_up}
use Rattle.machine.specs.Lent.{if_there, slot_by, slot_for, seen_by, closed_put, open_put, Words, lent}

module _ (l : Limits) (s : State) (k : Known l s) (c : ℕ) (y : model.Cell) (e : entry s c ≡ cell y) (live : Live s c) where
  -- a slot of a table names a page that is there
  fits_there : (z : Slot) → SlotFits l z → if_there (encode l s) z ≡ z
  unfolding SlotFits
  fits_there nothing f = refl
  fits_there (closed p w x) f = ap (λ b. cond b (closed p w x) nothing) (there_right l s k p ∙ lt-ltb p l.pages f)
  fits_there (opened o w) f = ap (λ b. cond b (opened o w) nothing) (open_right l s k o ∙ lt-ltb o l.opens f)

  slot_fits : (i j q : ℕ) → table_at s.entries c i ≡ Some q → SlotFits l (slot_in s.entries (Some q) j)
  unfolding slot_in slots_in EntryFits
  slot_fits i j q h =
      let t = its_table l s k c y e live i q h in
      subst (λ x. SlotFits l (get_or (slots_in x) j nothing)) (sym t.1)
      ((subst (EntryFits l) t.1 (k.invariant.entries_fit q)).1 j)

  by_right : (i j : ℕ) (o : Option ℕ) → j < 1024 → table_at s.entries c i ≡ o →
      slot_by (encode l s) j o ≡ slot_in s.entries o j
  unfolding slot_in
  by_right i j None h g = refl
  by_right i j (Some q) h g =
      let same = slot_right l s k c y e live i j q h g ∙ ap (λ o. slot_in s.entries o j) g in
      ap (if_there (encode l s)) same ∙ fits_there (slot_in s.entries (Some q) j) (slot_fits i j q g)

  slot_for_right : (a : ℕ) → slot_for (encode l s) y.top a ≡ processor.slot_for s c a
  unfolding slot_in
  slot_for_right a = by (ltb (table_number a) 256) refl
    where
      by : (b : Bool) → ltb (table_number a) 256 ≡ b →
          cond b (slot_by (encode l s) (slot_number a) (look.table_of (encode l s) y.top (table_number a))) nothing
          ≡ processor.slot_for s c a
      by true h =
          ap (slot_by (encode l s) (slot_number a)) (table_right l s k c y e live (table_number a) (ltb-true _ _ h))
          ∙ by_right (table_number a) (slot_number a) (table_at s.entries c (table_number a)) (omega arith) refl
      by false h = sym (ap (λ o. slot_in s.entries o (slot_number a)) (no_table l s k c y e live (table_number a) (ltb-false _ _ h)))

  -- whatever is looked at, the page is there
  only_there : (z : Slot) → SlotFits l (if_there (encode l s) z)
  unfolding SlotFits
  only_there nothing = tt
  only_there (closed p w x) = by (look.there (encode l s) p) refl
    where
      by : (b : Bool) → look.there (encode l s) p ≡ b → SlotFits l (cond b (closed p w x) nothing)
      by true h = ltb-true p l.pages (sym (there_right l s k p) ∙ h)
      by false h = tt
  only_there (opened o w) = by (look.open_there (encode l s) o) refl
    where
      by : (b : Bool) → look.open_there (encode l s) o ≡ b → SlotFits l (cond b (opened o w) nothing)
      by true h = ltb-true o l.opens (sym (open_right l s k o) ∙ h)
      by false h = tt

  there_fits : (a : ℕ) → SlotFits l (slot_for (encode l s) y.top a)
  unfolding SlotFits
  there_fits a = by (ltb (table_number a) 256) (look.table_of (encode l s) y.top (table_number a))
    where
      by : (b : Bool) (o : Option ℕ) → SlotFits l (cond b (slot_by (encode l s) (slot_number a) o) nothing)
      by true None = tt
      by true (Some q) = only_there (rows.slot_in (encode l s) q (slot_number a))
      by false o = tt

  -- the words are those of a state with the same tables
  pub record Has (w : Words) (t : State) : Type 0 where
    pub entries : t.entries ≡ s.entries
    pub running : t.running ≡ s.running
    pub closed_pages : w.closed_pages ≡ flat t.contents
    pub open_pages : w.open_pages ≡ flat t.open_pages
    pub contents_long : length t.contents ≡ l.pages
    pub opens_long : length t.open_pages ≡ l.opens
    pub contents_wide : Wide 1024 t.contents
    pub opens_wide : Wide 1024 t.open_pages

  seen_right : (w : Words) (t : State) (n : ℕ) (z : Slot) → Has w t → n < 1024 → SlotFits l z →
      seen_by w.closed_pages w.open_pages n z ≡ seen_in z (words_behind t z) n
  unfolding seen_in words_behind SlotFits
  seen_right w t n nothing h g f = refl
  seen_right w t n (closed p v x) h g f =
      ap (λ cs. seen v x (get_or cs (p * 1024 + n) 0)) h.closed_pages
      ∙ ap (seen v x) (flat_nth 1024 t.contents p n h.contents_wide (omega (arith, f, h.contents_long)) g)
  seen_right w t n (opened o v) h g f =
      ap (λ os. seen v false (get_or os (o * 1024 + n) 0)) h.open_pages
      ∙ ap (seen v false) (flat_nth 1024 t.open_pages o n h.opens_wide (omega (arith, f, h.opens_long)) g)

  looks : (w : Words) (t : State) → Has w t → (lent (encode l s) y.top).look w ≡ (in_place c).look t
  looks w t h =
      fun_ext (λ a. let same = slot_for_right a ∙ ap (λ d. slot_in d (table_at d c (table_number a)) (slot_number a)) (sym h.entries) in
      ap (seen_by w.closed_pages w.open_pages (word_number a)) same
      ∙ seen_right w t (word_number a) (processor.slot_for t c a) h (omega arith) (subst (SlotFits l) same (there_fits a)))

  -- a word that is stored
  put_right : (w : Words) (t : State) (n v : ℕ) (z : Slot) → Has w t → n < 1024 → SlotFits l z →
      Has (record { closed_pages = closed_put w.closed_pages n v z; open_pages = open_put w.open_pages n v z })
      (write_behind z (set (words_behind t z) n v) t)
  unfolding write_behind words_behind SlotFits
  put_right w t n v nothing h g f = h
  put_right w t n v (closed p false x) h g f = h
  put_right w t n v (closed p true x) h g f =
      let low : p < length t.contents = omega (arith, f, h.contents_long) in
      record {
        entries = h.entries;
        running = h.running;
        closed_pages = ap (λ cs. set cs (p * 1024 + n) v) h.closed_pages ∙ flat_set 1024 t.contents p n v h.contents_wide low g;
        open_pages = h.open_pages;
        contents_long = length-set t.contents p _ ∙ h.contents_long;
        opens_long = h.opens_long;
        contents_wide = All-set (λ x. length x ≡ 1024) t.contents p _
            (length-set (get_or t.contents p []) n v ∙ All-get_or (λ x. length x ≡ 1024) t.contents p [] low h.contents_wide)
            h.contents_wide;
        opens_wide = h.opens_wide;
      }
  put_right w t n v (opened o false) h g f = h
  put_right w t n v (opened o true) h g f =
      let low : o < length t.open_pages = omega (arith, f, h.opens_long) in
      record {
        entries = h.entries;
        running = h.running;
        closed_pages = h.closed_pages;
        open_pages = ap (λ os. set os (o * 1024 + n) v) h.open_pages ∙ flat_set 1024 t.open_pages o n v h.opens_wide low g;
        contents_long = h.contents_long;
        opens_long = length-set t.open_pages o _ ∙ h.opens_long;
        contents_wide = h.contents_wide;
        opens_wide = All-set (λ x. length x ≡ 1024) t.open_pages o _
            (length-set (get_or t.open_pages o []) n v ∙ All-get_or (λ x. length x ≡ 1024) t.open_pages o [] low h.opens_wide)
            h.opens_wide;
      }

  stores_same : (w : Words) (t : State) (a v : ℕ) → Has w t → Has ((lent (encode l s) y.top).store w a v) ((in_place c).store t a v)
  stores_same w t a v h =
      let same = slot_for_right a ∙ ap (λ d. slot_in d (table_at d c (table_number a)) (slot_number a)) (sym h.entries) in
      subst (λ z. Has (record {
        closed_pages = closed_put w.closed_pages (word_number a) v z;
        open_pages = open_put w.open_pages
            (word_number a) v z;
      }) ((in_place c).store t a v)) (sym same)
      (put_right w t (word_number a) v (processor.slot_for t c a) h (omega arith) (subst (SlotFits l) same (there_fits a)))

  -- So a run comes to the same.
  pub ran_right : (n chance : ℕ) (rs : List ℕ) (w : Words) → Has w s →
      SameCame Has (steps (lent (encode l s) y.top) made_up n chance rs w) (steps (in_place c) made_up n chance rs s)
  ran_right n chance rs w h = simulates (lent (encode l s) y.top) (in_place c) Has made_up looks stores_same n chance rs w s h
