-- Which edits leave a cell untouched: those that are made to pages of others.
use Rattle.std.proofs.Common.{◌≡◌, ℕ, true, false, cond, eqb, ◌≢◌, ◌⊎◌, List, [], ◌∷◌, set, Some, None, Option, sym, refl, ap, ◌∙◌, subst, inl, inr, arith}
use Rattle.std.proofs.lemmas.Bool.Decides.{nat_tests}
use Rattle.model.specs.Pages.{◌is◌, Cell, Thread, Top, Table, Entry, free, cell, top_of, table_of, held_by, kind, kind_number, part_of}
use Rattle.model.specs.Pages.{cell_of, cell_in, in_cell, in_thread, in_top, in_table, table_at, slot_put_in, table_put_by}
use Rattle.model.specs.State.{State, entry, with_entries, apply, apply_all, Edit, put_entry, put_slot, put_table, measure, set_phase}
use Rattle.model.specs.State.{set_thread, write_page, run}
use Rattle.model.specs.Changes.{belongs, Untouched}
use Rattle.model.proofs.Lists.{get_d_set}
use Rattle.model.proofs.InvSound.{top_by, Sound}
use Rattle.model.proofs.InvGood.{table_its, Good, AllGood, none, then, makes, good_sound}

-- A page that is x is none of the cell o.
pub record NotOf (o p : ℕ) (x : Entry) : Type 0 where
  pub not_its : (cell_of p x is o) ≡ false

pub refl_untouched : (o : ℕ) (s : State) → Untouched o s s
refl_untouched o s = record { entries = λ p h. refl; contents = λ p h. refl; none_joins = λ p h. h }

-- A held page belongs to its cell.
pub held_belongs : (o p : ℕ) (x : Entry) → kind x ≡ held_by o → (cell_of p x is o) ≡ true
unfolding kind_number part_of ◌is◌
held_belongs o p x h = grind (arith, nat_tests)

pub then_untouched : (o : ℕ) (s t u : State) → Untouched o s t → Untouched o t u → Untouched o s u
then_untouched o s t u a b = record {
  entries = λ p h. let e = a.entries p h in b.entries p (rw e h) ∙ e;
  contents = λ p h. let e = a.entries p (held_belongs o p (entry s p) h) in b.contents p (ap kind e ∙ h) ∙ a.contents p h;
  none_joins = λ p h. a.none_joins p (b.none_joins p h);
}

module _ (o : ℕ) (s : State) where
  -- A page is changed that is not the cell's, or is as it was.
  changed_untouched : (p : ℕ) (x : Entry) → (belongs o s p ≡ true → x ≡ entry s p) → ((cell_of p x is o) ≡ true → belongs o s p ≡ true) →
      Untouched o s (with_entries s (set s.entries p x))
  changed_untouched p x g j = record {
    entries = λ q h. elim (get_d_set s.entries p q x free) [
      | inl e ↦ e
      | inr e ↦ e.1 ∙ (g (subst (λ r. belongs o s r ≡ true) (sym e.0) h) ∙ ap (entry s) e.0)
    ];
    contents = λ q h. refl;
    none_joins = λ q h. elim (get_d_set s.entries p q x free) [
      | inl e ↦ subst (λ y. (cell_of q y is o) ≡ true) e h
      | inr e ↦ subst (λ r. belongs o s r ≡ true) e.0
          (j (subst (λ r. (cell_of r x is o) ≡ true) (sym e.0) (subst (λ y. (cell_of q y is o) ≡ true) e.1 h)))
    ];
  }

  -- A page stays what it is that is another cell's.
  kept_untouched : (p : ℕ) (x : Entry) → belongs o s p ≡ false → kind x ≡ kind (entry s p) →
      Untouched o s (with_entries s (set s.entries p x))
  kept_untouched p x n k =
      changed_untouched p x (λ h. absurd (grind arith)) (λ h. ap (λ y. cond (eqb (kind_number y) 1) (Some p) (part_of y) is o) (sym k) ∙ h)

  -- What is asked of an edit.
  abbrev pub Apart : Edit → Type 0
  Apart (put_entry p x) = NotOf o p (entry s p) × NotOf o p x
  Apart (put_slot c w z) = c ≢ o
  Apart (put_table c i p) = c ≢ o
  Apart (measure c m) = c ≢ o
  Apart (set_phase c f) = c ≢ o
  Apart (set_thread t u rs) = NotOf o t (entry s t)
  Apart (write_page p ws) = kind (entry s p) ≢ held_by o
  Apart (run r) = Unit {0}

  pub put_untouched : (p : ℕ) (x : Entry) → Apart (put_entry p x) → Untouched o s (apply s (put_entry p x))
  put_untouched p x a = changed_untouched p x (λ h. absurd (grind (arith, a.0))) (λ h. absurd (grind (arith, a.1)))

  cell_untouched : (c : ℕ) (f : Cell → Cell) → c ≢ o → Untouched o s (with_entries s (set s.entries c (in_cell f (entry s c))))
  unfolding in_cell kind kind_number part_of ◌is◌
  cell_untouched c f n = changed_untouched c (in_cell f (entry s c)) (λ h. grind (arith, nat_tests)) (λ h. grind (arith, nat_tests))

  -- Whose a table is, and a top table.
  part_apart : (p c : ℕ) → (kind (entry s p) ≡ table_of c) ⊎ (kind (entry s p) ≡ top_of c) → c ≢ o → belongs o s p ≡ false
  unfolding kind_number part_of ◌is◌
  part_apart p c h n = grind (arith, nat_tests)

  slot_untouched : (c q : ℕ) (f : Table → Table) → ((y : Table) → (f y).cell ≡ y.cell) → c ≢ o → kind (entry s q) ≡ table_of c →
      Untouched o s (with_entries s (set s.entries q (in_table f (entry s q))))
  unfolding in_table kind
  slot_untouched c q f g n k = kept_untouched q _ (part_apart q c (inl k) n) (grind arith)

  top_untouched : (c q : ℕ) (f : Top → Top) → ((y : Top) → (f y).cell ≡ y.cell) → c ≢ o → kind (entry s q) ≡ top_of c →
      Untouched o s (with_entries s (set s.entries q (in_top f (entry s q))))
  unfolding in_top kind
  top_untouched c q f g n k = kept_untouched q _ (part_apart q c (inr k) n) (grind arith)

  thread_untouched : (t : ℕ) (f : Thread → Thread) → ((y : Thread) → (f y).cell ≡ y.cell) → belongs o s t ≡ false →
      Untouched o s (with_entries s (set s.entries t (in_thread f (entry s t))))
  unfolding in_thread kind
  thread_untouched t f g n = kept_untouched t _ n (grind arith)

  good_untouched : (e : Edit) → Sound s.entries → Good s e → Apart e → Untouched o s (apply s e)
  unfolding slot_put_in table_put_by
  good_untouched (put_entry p x) S g a = put_untouched p x a
  good_untouched (put_slot c w z) S g a = go (table_at s.entries c w.table) refl
    where
      go : (q : Option ℕ) → table_at s.entries c w.table ≡ q → Untouched o s (with_entries s (slot_put_in s.entries q w.slot z))
      go None e = refl_untouched o s
      go (Some q) e = slot_untouched c q _ (λ y. refl) a (table_its s.entries S c w.table q g.0 e)
  good_untouched (put_table c i p) S g a = go (cell_in (entry s c)) refl
    where
      go : (y : Option Cell) → cell_in (entry s c) ≡ y → Untouched o s (with_entries s (table_put_by s.entries y i p))
      go None e = refl_untouched o s
      go (Some y) e =
          top_untouched c y.top _ (λ y. refl) a (subst (λ q. kind (entry s q) ≡ top_of c) (ap top_by e) (S.has_top c g.0))
  good_untouched (measure c m) S g a = cell_untouched c _ a
  good_untouched (set_phase c f) S g a = cell_untouched c _ a
  good_untouched (set_thread t u rs) S g a = thread_untouched t _ (λ y. refl) a.not_its
  good_untouched (write_page p ws) S g a = record {
    entries = λ q h. refl;
    contents = λ q h. elim (get_d_set s.contents p q ws []) [ inl e ↦ e | inr e ↦ absurd (a (ap (λ r. kind (entry s r)) e.0 ∙ h)) ];
    none_joins = λ q h. h;
  }
  good_untouched (run r) S g a = record { entries = λ q h. refl; contents = λ q h. refl; none_joins = λ q h. h }

abbrev pub AllApart : ℕ → State → List Edit → Type 0
AllApart o s [] = Unit {0}
AllApart o s (e ∷ es) = Apart o s e × AllApart o (apply s e) es

pub all_untouched : (o : ℕ) (s : State) (es : List Edit) → Sound s.entries → AllGood s es → AllApart o s es →
    Untouched o s (apply_all s es)
all_untouched o s es S (none _) a = refl_untouched o s
all_untouched o s es S (then _ e rest g h) a =
    then_untouched o s (apply s e) _ (good_untouched o s e S g a.0) (all_untouched o (apply s e) rest (good_sound s e S g) h a.1)
all_untouched o s es S (makes _ p t n x m) a =
    let u : State = apply s (put_entry p (cell x)) in
    then_untouched o s u _ (put_untouched o s p (cell x) a.0) (put_untouched o u t _ a.1.0)
