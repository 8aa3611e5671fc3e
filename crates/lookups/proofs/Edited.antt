-- States in which a page became something else: what is there besides stays.
use Rattle.std.proofs.Common.{◌≡◌, ℕ, suc, ◌<◌, true, List, [], ◌∷◌, length, get_or, Some, None, Option, sym, refl, ap, ◌∙◌, subst, arith, length-set}
use Rattle.std.proofs.lemmas.List.{get_or-set_other}
use Rattle.model.specs.Calls.{Place}
use Rattle.model.specs.Pages as model
use Rattle.model.specs.Pages.{Entry, free, cell, thread, top, table, held, spare, kind, kind_number, at, table_at, tables_by, tables_in}
use Rattle.model.specs.State.{Limits, State, entry, apply, put_entry, put_slot}
use Rattle.pages.specs.Flat.{Wide}
use Rattle.full_pages.specs.Meaning.{Bare}
use Rattle.lookups.proofs.Right.{Known}

pub the_free : (x : Entry) → model.is_free x ≡ true → x ≡ free
unfolding kind kind_number
the_free x h = grind (arith, h)

-- a page with nothing in its record's list is no cell, no top table, no table and no thread
pub bare_apart : (s : State) (p q : ℕ) (x : Entry) → Bare (entry s p) → entry s q ≡ x → (Bare x → ⊥) → p ≡ q → ⊥
bare_apart s p q x b e f h = f (subst Bare (ap (entry s) h ∙ e) b)

-- Pages that are as long as they should be, one by one.
pub wide : (w : ℕ) (xs : List (List ℕ)) → ((i : ℕ) → i < length xs → length (get_or xs i []) ≡ w) → Wide w xs
wide w [] h = tt
wide w (x ∷ xs) h = (h 0 (omega arith), wide w xs (λ i g. h (suc i) (omega arith)))

pub contents_wide : (l : Limits) (s : State) → Known l s → Wide 1024 s.contents
contents_wide l s k =
    wide 1024 s.contents (λ p h. (k.invariant.contents_fit p (omega (arith, h, k.invariant.contents_long))).0 ∙ k.sized.words_are)

pub opens_wide : (l : Limits) (s : State) → Known l s → Wide 1024 s.open_pages
opens_wide l s k =
    wide 1024 s.open_pages (λ o h. (k.invariant.opens_fit o (omega (arith, h, k.invariant.opens_long))).0 ∙ k.sized.words_are)

module _ (s : State) (p : ℕ) (x : Entry) where
  abbrev pub edited : State
  edited = apply s (put_entry p x)

  pub long_edited : length edited.entries ≡ length s.entries
  long_edited = length-set s.entries p x

  pub other : (q : ℕ) (y : Entry) → entry s q ≡ y → (p ≡ q → ⊥) → entry edited q ≡ y
  other q y e h = get_or-set_other s.entries p q x free (λ g. h (sym g)) ∙ e

  -- the tables of a cell whose first page and top table stay
  pub tables_stay : (c i : ℕ) (y : model.Cell) (t : model.Top) → entry s c ≡ cell y → entry s y.top ≡ top t → (p ≡ c → ⊥) →
      (p ≡ y.top → ⊥) → table_at edited.entries c i ≡ table_at s.entries c i
  unfolding model.cell_in tables_by tables_in
  tables_stay c i y t e g h f =
      let had : (d : model.Entries) → at d c ≡ cell y → at d y.top ≡ top t → table_at d c i ≡ get_or t.tables i None =
      λ d a b. ap (λ z. get_or (tables_by d (model.cell_in z)) i None) a ∙ ap (λ z. get_or (tables_in z) i None) b in
      had edited.entries (other c (cell y) e h) (other y.top (top t) g f) ∙ sym (had s.entries e g)

-- States in which something was put into a slot.
pub long_slot : (s : State) (c : ℕ) (w : Place) (z : model.Slot) → length (apply s (put_slot c w z)).entries ≡ length s.entries
unfolding model.slot_put_in
long_slot s c w z = by (table_at s.entries c w.table)
  where
    by : (o : Option ℕ) → length (model.slot_put_in s.entries o w.slot z) ≡ length s.entries
    by None = refl
    by (Some q) = length-set s.entries q _

pub slot_other : (s : State) (c : ℕ) (w : Place) (z : model.Slot) (q d : ℕ) (y : Entry) → table_at s.entries c w.table ≡ Some q →
    entry s d ≡ y → (q ≡ d → ⊥) → entry (apply s (put_slot c w z)) d ≡ y
unfolding model.slot_put_in
slot_other s c w z q d y h e f =
    ap (λ o. at (model.slot_put_in s.entries o w.slot z) d) h ∙ get_or-set_other s.entries q d _ free (λ g. f (sym g)) ∙ e

-- a table is no cell
pub table_apart : (s : State) (q d : ℕ) (t : model.Table) (y : model.Cell) → entry s q ≡ table t → entry s d ≡ cell y → q ≡ d → ⊥
table_apart s q d t y e f h = let g : table t ≡ cell y = sym e ∙ ap (entry s) h ∙ f in grind (arith, g)
