-- The ways in which a page becomes something else: each keeps what is said of whose pages are.
use Rattle.std.proofs.Common.{◌≡◌, ℕ, zero, suc, Bool, true, false, ◌≢◌, ◌⊎◌, [], ◌∷◌, get_or, set, Some, None, sym, ap, ◌∙◌, inl, inr, arith}
use Rattle.model.specs.Measured.{Part}
use Rattle.model.specs.Pages.{Slot, nothing, closed, Phase, stopped, phase_number, ◌is◌, Thread, Top, Table, Entry, free}
use Rattle.model.specs.Pages.{Kind, first_page, top_of, table_of, held_by, spare_of, kind, part_of, has_parts, cell_in, tables_in}
use Rattle.model.specs.Pages.{slots_in, cell_is, is_in, in_cell, in_thread, in_top, in_table, Entries, at}
use Rattle.model.proofs.CellAt.{measured_on, in_phase}
use Rattle.model.proofs.Lists.{get_d_set}
use Rattle.model.proofs.InvSound.{kind_at, top_in, table_on, slot_on, Alive, Sound, Unseen, MayBeSeen, Turns, turned}

-- No page is a part of itself.
owner_apart : (k : Kind) (c : ℕ) → part_of k ≡ Some c → k ≢ first_page
unfolding part_of
owner_apart k c h e = grind arith

pub slots_put : (x : Entry) (f : Table → Table) (j i : ℕ) (z : Slot) → ((y : Table) → (f y).slots ≡ set y.slots j z) →
    (slot_on (in_table f x) i ≡ slot_on x i) ⊎ ((j ≡ i) × (slot_on (in_table f x) i ≡ z))
unfolding in_table slots_in
slots_put x f j i z h = grind (arith, get_d_set (slots_in x) j i z nothing)

tables_put : (x : Entry) (f : Top → Top) (j i : ℕ) (q : ℕ) → ((y : Top) → (f y).tables ≡ set y.tables j (Some q)) →
    (table_on (in_top f x) i ≡ table_on x i) ⊎ ((j ≡ i) × (table_on (in_top f x) i ≡ Some q))
unfolding in_top tables_in
tables_put x f j i q h = grind (arith, get_d_set (tables_in x) j i (Some q) None)

pub no_parts : (e : Entries) (c q : ℕ) → has_parts e c ≡ false → part_of (kind_at e q) ≢ Some c
unfolding has_parts kind part_of ◌is◌
no_parts [] c q h g = grind (arith, g)
no_parts (x ∷ e) c zero h g = grind arith
no_parts (x ∷ e) c (suc q) h g = no_parts e c q (grind arith) g

-- A page stays what it is.
module _ (d : Entries) (S : Sound d) (p : ℕ) (x : Entry) (n : ℕ) (k : kind x ≡ kind_at d p)
    (a : Alive x → Alive (at d p)) (t : top_in x ≡ top_in (at d p)) where
  kept_turns :
      ((c i q j : ℕ) → Alive (at d c) → kind_at d p ≡ top_of c → table_on x i ≡ Some q →
      (table_on (at d p) i ≡ Some q) ⊎ ((i ≡ n) × (kind_at d q ≡ table_of c) × (table_on (at d p) j ≢ Some q))) →
      ((c j q r i : ℕ) (a b e f : Bool) → Alive (at d c) → kind_at d p ≡ table_of c → slot_on x j ≡ closed q a b →
      ((slot_on (at d p) j ≡ closed q a b)
      ⊎ ((j ≡ n) × (kind_at d q ≡ held_by c) × (kind_at d r ≡ table_of c → slot_on (at d r) i ≢ closed q e f)))) → Turns d p x n
  kept_turns b z = record {
    of_cell = λ c h.
        let f = ap part_of (sym k) ∙ h in
        let g = S.owned p c f in (λ e. owner_apart (kind_at d p) c f (ap (kind_at d) (sym e) ∙ g), g);
    stays_cell = λ q h. inr (k ∙ S.owned q p h);
    no_cell = λ h. (a h, t);
    stays_top = λ c h g. k ∙ g;
    stays_table = λ c h g. k ∙ g;
    stays_held = λ c q j u v h g e. k ∙ S.sees_held c q j p u v h g e;
    tables = b;
    slots = λ c j q r i u v e f h g y. (sym k ∙ g, z c j q r i u v e f h (sym k ∙ g) y);
  }

  same_turns : tables_in x ≡ tables_in (at d p) → slots_in x ≡ slots_in (at d p) → Turns d p x n
  same_turns b z =
      kept_turns (λ c i q j h g e. inl (ap (λ y. get_or y i None) (sym b) ∙ e))
      (λ c j q r i u v e f h g y. inl (ap (λ s. get_or s j nothing) (sym z) ∙ y))

module _ (d : Entries) (S : Sound d) where
  pub measured_sound : (c : ℕ) (m : Part) → Sound (set d c (in_cell (measured_on m) (at d c)))
  unfolding in_cell kind cell_in cell_is tables_in slots_in
  measured_sound c m = turned d c _ 0 S (same_turns d S c _ 0 (grind arith) (grind arith) (grind arith) (grind arith) (grind arith))

  pub phase_sound : (c : ℕ) (f : Phase) → (f ≡ stopped) ⊎ (is_in stopped (at d c) ≡ false) → Sound (set d c (in_cell (in_phase f) (at d c)))
  unfolding in_cell kind cell_in cell_is tables_in slots_in phase_number
  phase_sound c f h = turned d c _ 0 S (same_turns d S c _ 0 (grind arith) (grind arith) (grind arith) (grind arith) (grind arith))

  pub thread_sound : (t : ℕ) (f : Thread → Thread) → ((x : Thread) → (f x).cell ≡ x.cell) → Sound (set d t (in_thread f (at d t)))
  unfolding in_thread kind cell_in cell_is tables_in slots_in
  thread_sound t f h = turned d t _ 0 S (same_turns d S t _ 0 (grind arith) (grind arith) (grind arith) (grind arith) (grind arith))

  pub slot_sound : (c q j : ℕ) (z : Slot) (f : Table → Table) → kind_at d q ≡ table_of c → MayBeSeen d c z →
      ((y : Table) → (f y).cell ≡ y.cell) → ((y : Table) → (f y).slots ≡ set y.slots j z) → Sound (set d q (in_table f (at d q)))
  unfolding in_table kind cell_in cell_is tables_in
  slot_sound c q j z f k m g h =
      turned d q _ j S (kept_turns d S q _ j (grind arith) (grind arith) (grind arith)
      (λ b i p u a e y. inl (grind arith))
      (λ b i p r u v w e n a y s. elim (slots_put (at d q) f j i z h) [
        | inl s2 ↦ inl (sym s2 ∙ s)
        | inr s2 ↦ let o = m p v w (sym s2.1 ∙ s) in inr (sym s2.0, grind (arith, o.0), λ t. o.1 b r u e n a t)
      ]))

  -- Into a top table comes a table of its cell that is not in it.
  pub table_sound : (c t i q : ℕ) (f : Top → Top) → kind_at d t ≡ top_of c → kind_at d q ≡ table_of c →
      ((j : ℕ) → table_on (at d t) j ≢ Some q) →
      ((y : Top) → (f y).cell ≡ y.cell) → ((y : Top) → (f y).tables ≡ set y.tables i (Some q)) → Sound (set d t (in_top f (at d t)))
  unfolding in_top kind cell_in cell_is slots_in
  table_sound c t i q f k m n g h =
      turned d t _ i S (kept_turns d S t _ i (grind arith) (grind arith) (grind arith)
      (λ b j p u a e y. elim (tables_put (at d t) f i j q h) [
        | inl z ↦ inl (sym z ∙ y)
        | inr z ↦ inr (sym z.0, grind arith, λ v. n u (grind arith))
      ])
      (λ b j p r u v w e o a y s. inl (grind arith)))

  -- A page that is no first page, nor a table or a top table, and that no cell sees, becomes a part of the cell c, with nothing in it.
  module _ (p c : ℕ) (x : Entry) (was-cell : kind_at d p ≢ first_page) (was_top : (b : ℕ) → kind_at d p ≢ top_of b)
      (was-table : (b : ℕ) → kind_at d p ≢ table_of b) (no : Unseen d p) (is_cell : kind_at d c ≡ first_page)
      (part : part_of (kind x) ≡ Some c) (no_top : (b : ℕ) → kind x ≢ top_of b) (empty : (j : ℕ) → slot_on x j ≡ nothing) where
    pub fresh_turns : Turns d p x 0
    fresh_turns = record {
      of_cell = λ b h. grind arith;
      stays_cell = λ q h. absurd (was-cell (S.owned q p h));
      no_cell = λ h. absurd (owner_apart (kind x) c part h.0);
      stays_top = λ b h g. absurd (was_top b g);
      stays_table = λ b h g. absurd (was-table b g);
      stays_held = λ b q j u v h g e. absurd (no b q j u v h g e);
      tables = λ b i q j h g e. absurd (was_top b g);
      slots = λ b j q r i u v e f h g y. absurd (grind (arith, empty j));
    }

  -- A page becomes free that is of no cell that is not stopped, or spare.
  pub freed_turns : (p : ℕ) → ((q : ℕ) → part_of (kind_at d q) ≢ Some p) →
      ((c : ℕ) → part_of (kind_at d p) ≡ Some c → (kind_at d p ≡ spare_of c) ⊎ (is_in stopped (at d c) ≡ true)) → Turns d p free 0
  unfolding kind part_of tables_in slots_in
  freed_turns p h g = record {
    of_cell = λ c e. absurd (grind (arith, e));
    stays_cell = λ q e. absurd (h q e);
    no_cell = λ e. absurd (grind (arith, e.0));
    stays_top = λ c e k. absurd (grind (arith, g c));
    stays_table = λ c e k. absurd (grind (arith, g c));
    stays_held = λ c q j a b e k z. absurd (grind (arith, g c, S.sees_held c q j p a b e k z));
    tables = λ c i q j e k z. absurd (grind (arith, g c));
    slots = λ c j q r i u v e f a k z. absurd (grind (arith, k));
  }
