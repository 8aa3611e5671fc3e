-- Whose each page is, and what cells see, as the invariant has it; and that it stays when one page becomes something else.
use Rattle.std.proofs.Common.{◌≡◌, ℕ, Bool, false, ◌≢◌, ◌⊎◌, get_or, set, Some, None, Option, ap, ◌∙◌, inl, inr, arith}
use Rattle.model.specs.Pages.{Slot, nothing, closed, stopped, Cell, Entry, free, Kind, first_page, top_of, table_of, held_by, kind, part_of}
use Rattle.model.specs.Pages.{cell_in, tables_in, slots_in, is_in, Entries, at}
use Rattle.model.proofs.Lists.{get_d_set}

abbrev pub kind_at : Entries → ℕ → Kind
kind_at d p = kind (at d p)

-- The page of a cell's top table; 0 of what is no cell.
abbrev pub top_by : Option Cell → ℕ
top_by None = 0
top_by (Some x) = x.top

abbrev pub top_in : Entry → ℕ
top_in x = top_by (cell_in x)

abbrev pub table_on : Entry → ℕ → Option ℕ
table_on x i = get_or (tables_in x) i None

abbrev pub slot_on : Entry → ℕ → Slot
slot_on x j = get_or (slots_in x) j nothing

-- The top table of a cell.
abbrev pub top_at : Entries → ℕ → Entry
top_at d c = at d (top_in (at d c))

abbrev pub Alive : Entry → Type 0
Alive x = (kind x ≡ first_page) × (is_in stopped x ≡ false)

pub record Sound (d : Entries) : Type 0 where
  pub owned : (p c : ℕ) → part_of (kind_at d p) ≡ Some c → kind_at d c ≡ first_page
  pub has_top : (c : ℕ) → Alive (at d c) → kind (top_at d c) ≡ top_of c
  pub has_table : (c i q : ℕ) → Alive (at d c) → table_on (top_at d c) i ≡ Some q → kind_at d q ≡ table_of c
  pub one_table :
      (c i j q : ℕ) → Alive (at d c) → table_on (top_at d c) i ≡ Some q → table_on (top_at d c) j ≡ Some q → i ≡ j
  pub sees_held :
      (c q j p : ℕ) (a b : Bool) → Alive (at d c) → kind_at d q ≡ table_of c → slot_on (at d q) j ≡ closed p a b → kind_at d p ≡ held_by c
  pub one_place :
      (c q j r k p : ℕ) (a b e f : Bool) → Alive (at d c) → kind_at d q ≡ table_of c → kind_at d r ≡ table_of c →
      slot_on (at d q) j ≡ closed p a b → slot_on (at d r) k ≡ closed p e f → (q ≡ r) × (j ≡ k)

-- No cell that is not stopped sees a page.
abbrev pub Unseen : Entries → ℕ → Type 0
Unseen d p = (c q j : ℕ) (a b : Bool) → Alive (at d c) → kind_at d q ≡ table_of c → slot_on (at d q) j ≢ closed p a b

-- Into a slot of a table of the cell c comes nothing, an open page, or a page that the cell holds, and that no cell sees.
abbrev pub MayBeSeen : Entries → ℕ → Slot → Type 0
MayBeSeen d c z = (p : ℕ) (a b : Bool) → z ≡ closed p a b → (kind_at d p ≡ held_by c) × Unseen d p

-- The page p may become x: it stays what others need it for; and of what it has as a table, or as a top table, nothing is new but at the
-- place n, where a page may be named that nothing named.
pub record Turns (d : Entries) (p : ℕ) (x : Entry) (n : ℕ) : Type 0 where
  pub of_cell : (c : ℕ) → part_of (kind x) ≡ Some c → (c ≢ p) × (kind_at d c ≡ first_page)
  pub stays_cell : (q : ℕ) → part_of (kind_at d q) ≡ Some p → (q ≡ p) ⊎ (kind x ≡ first_page)
  pub no_cell : Alive x → Alive (at d p) × (top_in x ≡ top_in (at d p))
  pub stays_top : (c : ℕ) → Alive (at d c) → kind_at d p ≡ top_of c → kind x ≡ top_of c
  pub stays_table : (c : ℕ) → Alive (at d c) → kind_at d p ≡ table_of c → kind x ≡ table_of c
  pub stays_held :
      (c q j : ℕ) (a b : Bool) → Alive (at d c) → kind_at d q ≡ table_of c → slot_on (at d q) j ≡ closed p a b → kind x ≡ held_by c
  pub tables :
      (c i q j : ℕ) → Alive (at d c) → kind_at d p ≡ top_of c → table_on x i ≡ Some q →
      (table_on (at d p) i ≡ Some q) ⊎ ((i ≡ n) × (kind_at d q ≡ table_of c) × (table_on (at d p) j ≢ Some q))
  pub slots :
      (c j q r k : ℕ) (a b e f : Bool) → Alive (at d c) → kind x ≡ table_of c → slot_on x j ≡ closed q a b →
      (kind_at d p ≡ table_of c) × ((slot_on (at d p) j ≡ closed q a b)
      ⊎ ((j ≡ n) × (kind_at d q ≡ held_by c) × (kind_at d r ≡ table_of c → slot_on (at d r) k ≢ closed q e f)))

module _ (d : Entries) (p : ℕ) (x : Entry) (n : ℕ) (S : Sound d) (T : Turns d p x n) where
  d' : Entries
  d' = set d p x

  here : (q : ℕ) → (at d' q ≡ at d q) ⊎ ((p ≡ q) × (at d' q ≡ x))
  unfolding d'
  here q = get_d_set d p q x free

  alive : (c : ℕ) → Alive (at d' c) → Alive (at d c) × (top_in (at d' c) ≡ top_in (at d c))
  alive c h = elim (here c) [
    | inl e ↦ (rw e at h, ap top_in e)
    | inr e ↦ let k = T.no_cell (rw e.1 at h) in (rw e.0 at k.0, ap top_in e.1 ∙ (k.1 ∙ ap (λ q. top_in (at d q)) e.0))
  ]

  owned' : (q c : ℕ) → part_of (kind_at d' q) ≡ Some c → kind_at d' c ≡ first_page
  owned' q c h = grind (arith, here q, here c, S.owned q c, T.of_cell c, T.stays_cell q)

  top' : (c : ℕ) → Alive (at d' c) → kind (top_at d' c) ≡ top_of c
  top' c h = grind (arith, alive c h, here (top_in (at d c)), S.has_top c, T.stays_top c)

  table' : (c i q : ℕ) → Alive (at d' c) → table_on (top_at d' c) i ≡ Some q → kind_at d' q ≡ table_of c
  table' c i q h k =
      grind (arith, alive c h, here (top_in (at d c)), here q, S.has_top c, S.has_table c i q, T.tables c i q i, T.stays_table c)

  one_table' : (c i j q : ℕ) → Alive (at d' c) → table_on (top_at d' c) i ≡ Some q → table_on (top_at d' c) j ≡ Some q → i ≡ j
  one_table' c i j q h k m =
      grind (arith, alive c h, here (top_in (at d c)), S.has_top c, S.one_table c i j q, T.tables c i q j, T.tables c j q i)

  sees' : (c q j r : ℕ) (a b : Bool) → Alive (at d' c) → kind_at d' q ≡ table_of c → slot_on (at d' q) j ≡ closed r a b →
      kind_at d' r ≡ held_by c
  sees' c q j r a b h k m =
      grind (arith, alive c h, here q, here r, S.sees_held c q j r a b, T.slots c j r q j a b a b, T.stays_held c q j a b)

  place' : (c q j r k y : ℕ) (a b e f : Bool) → Alive (at d' c) → kind_at d' q ≡ table_of c → kind_at d' r ≡ table_of c →
      slot_on (at d' q) j ≡ closed y a b → slot_on (at d' r) k ≡ closed y e f → (q ≡ r) × (j ≡ k)
  place' c q j r k y a b e f h i m u v =
      grind (arith, alive c h, here q, here r, S.one_place c q j r k y a b e f, T.slots c j y r k a b e f, T.slots c k y q j e f a b)

  pub turned : Sound (set d p x)
  unfolding d'
  turned = record { owned = owned'; has_top = top'; has_table = table'; one_table = one_table'; sees_held = sees'; one_place = place' }
