-- Two free pages become a cell's first page and its top table, with nothing in it.
use Rattle.std.proofs.Common.{◌≡◌, ℕ, ◌<◌, Bool, ◌≢◌, ◌⊎◌, length, set, replicate, Some, None, sym, ap, ◌∙◌, inl, inr, arith, length-set, get_or-set_other, get_or-set_same}
use Rattle.model.specs.Pages.{closed, Cell, free, cell, top, first_page, top_of, table_of, held_by, kind, part_of, cell_in}
use Rattle.model.specs.Pages.{tables_in, Entries, at}
use Rattle.model.proofs.Lists.{get_d_set, getD_replicated}
use Rattle.model.proofs.InvSound.{kind_at, top_in, table_on, slot_on, top_at, Alive, Sound}

module _ (d : Entries) (S : Sound d) (p t n : ℕ) (x : Cell) (was-p : at d p ≡ free) (was-t : at d t ≡ free) (apart : p ≢ t)
    (low-p : p < length d) (low-t : t < length d) (its_top : x.top ≡ t) where
  made : Entries
  made = set (set d p (cell x)) t (top (record { cell = p; tables = replicate n None }))

  is_p : at made p ≡ cell x
  unfolding made
  is_p = get_or-set_other (set d p (cell x)) t p _ free apart ∙ get_or-set_same d p (cell x) free low-p

  is_t : at made t ≡ top (record { cell = p; tables = replicate n None })
  unfolding made
  is_t = get_or-set_same (set d p (cell x)) t _ free (rw (length-set d p (cell x)) low-t)

  others : (q : ℕ) → (at made q ≡ at d q) ⊎ ((q ≡ p) ⊎ (q ≡ t))
  unfolding made
  others q = elim (get_d_set (set d p (cell x)) t q (top (record { cell = p; tables = replicate n None })) free) [
    | inl e ↦ elim (get_d_set d p q (cell x) free) [ inl f ↦ inl (e ∙ f) | inr f ↦ inr (inl (sym f.0)) ]
    | inr e ↦ inr (inr (sym e.0))
  ]

  empty : (i : ℕ) → table_on (at made t) i ≡ None
  unfolding tables_in
  empty i = ap (λ y. table_on y i) is_t ∙ getD_replicated n i None

  owned' : (q c : ℕ) → part_of (kind_at made q) ≡ Some c → kind_at made c ≡ first_page
  unfolding kind part_of
  owned' q c h = grind (arith, is_p, is_t, others q, others c, S.owned q c)

  top' : (c : ℕ) → Alive (at made c) → kind (top_at made c) ≡ top_of c
  unfolding kind cell_in
  top' c h = grind (arith, is_p, is_t, others c, others (top_in (at made c)), S.has_top c)

  table' : (c i q : ℕ) → Alive (at made c) → table_on (top_at made c) i ≡ Some q → kind_at made q ≡ table_of c
  unfolding kind cell_in
  table' c i q h k =
      grind (arith, is_p, is_t, others c, others (top_in (at made c)), others q, empty i, S.has_top c, S.has_table c i q)

  one_table' : (c i j q : ℕ) → Alive (at made c) → table_on (top_at made c) i ≡ Some q → table_on (top_at made c) j ≡ Some q → i ≡ j
  unfolding kind cell_in
  one_table' c i j q h k m =
      grind (arith, is_p, is_t, others c, others (top_in (at made c)), empty i, S.has_top c, S.one_table c i j q)

  sees' : (c q j r : ℕ) (a b : Bool) → Alive (at made c) → kind_at made q ≡ table_of c → slot_on (at made q) j ≡ closed r a b →
      kind_at made r ≡ held_by c
  unfolding kind part_of
  sees' c q j r a b h k m = grind (arith, is_p, is_t, others c, others q, others r, S.owned q c, S.sees_held c q j r a b)

  place' : (c q j r k y : ℕ) (a b e f : Bool) → Alive (at made c) → kind_at made q ≡ table_of c → kind_at made r ≡ table_of c →
      slot_on (at made q) j ≡ closed y a b → slot_on (at made r) k ≡ closed y e f → (q ≡ r) × (j ≡ k)
  unfolding kind part_of
  place' c q j r k y a b e f h i m u v =
      grind (arith, is_p, is_t, others c, others q, others r, S.owned q c, S.owned r c, S.one_place c q j r k y a b e f)

  pub cell_made : Sound (set (set d p (cell x)) t (top (record { cell = p; tables = replicate n None })))
  unfolding made
  cell_made = record { owned = owned'; has_top = top'; has_table = table'; one_table = one_table'; sees_held = sees'; one_place = place' }
