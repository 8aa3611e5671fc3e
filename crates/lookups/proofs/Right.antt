-- What is looked up in a state's memory is what the state has.
use Rattle.std.proofs.Common.{◌≡◌, ℕ, zero, suc, ◌%◌, ◌<◌, ◌≤◌, Bool, true, false, cond, ◌&&◌, ◌||◌, ltb, List, [], ◌∷◌, ◌++◌, length, get_or, take, is_some, Some, None, Option, sym, refl, ap, ◌∙◌, subst, ap₂, arith, ltb-false, ltb-true, lt-ltb}
use Rattle.std.specs.Option.{option_map}
use Rattle.std.proofs.lemmas.List.{get_or_past, take_all}
use Rattle.std.proofs.lemmas.Bool.{and_parts}
use Rattle.model.specs.Calls.{Place}
use Rattle.model.specs.Pages as model
use Rattle.model.specs.Pages.{Entry, free, cell, thread, top, table, held, spare, kind, kind_number, at, top_of, table_of}
use Rattle.model.specs.Pages.{table_at, slot_at, tables_by, tables_in, slots_in, ◌is◌}
use Rattle.model.specs.State as state
use Rattle.model.specs.State.{Limits, State, entry}
use Rattle.model.specs.Refusals.{cell_there, thread_there, own_spare, own_held}
use Rattle.model.specs.Invariant.{Invariant, Live, EntryFits}
use Rattle.pages.specs.Layout.{encode}
use Rattle.pages.specs.Rows as rows
use Rattle.pages.specs.Meaning.{record_in, phase_shown, shown}
use Rattle.pages.specs.declared.values.Record.TheVariants.{Free}
use Rattle.pages.proofs.Seen.{reads_right}
use Rattle.lookups.specs.Lookups as look
use Rattle.lookups.specs.Lookups.{there, if_there, record_of}
use Rattle.lookups.specs.declared.Cell.{Cell}
use Rattle.lookups.specs.declared.Thread.{Thread}
use Rattle.lookups.specs.declared.Caller.{Caller}

or_false : (b : Bool) → (b || false) ≡ b
or_false true = refl
or_false false = refl

or_assoc : (a b c : Bool) → ((a || b) || c) ≡ (a || (b || c))
or_assoc true b c = refl
or_assoc false b c = refl

-- What is known of a state that events made.
pub record Known (l : Limits) (s : State) : Type 0 where
  pub sized : state.Sized l
  pub invariant : Invariant l s
  pub blocks : (c : ℕ) (x : model.Cell) → entry s c ≡ cell x → length x.measured % 16 ≡ 0

-- What a page is, by what is read of it.
pub free_shown : (x : Entry) → look.is_free (shown x) ≡ model.is_free x
unfolding kind kind_number
free_shown x = grind arith

pub first_shown : (x : Entry) → look.is_first (shown x) ≡ model.is_cell x
unfolding kind kind_number
first_shown x = grind arith

pub part_shown : (x : Entry) → look.part_of (shown x) ≡ model.part_of (kind x)
unfolding kind model.part_of
part_shown x = grind arith

pub spare_shown : (x : Entry) (c : ℕ) → look.is_part (look.spare_in (shown x)) c ≡ (model.is_spare x && (model.part_of (kind x) is c))
unfolding kind kind_number model.part_of ◌is◌
spare_shown x c = grind arith

pub held_shown : (x : Entry) (c : ℕ) → look.is_part (look.held_in (shown x)) c ≡ (model.is_held x && (model.part_of (kind x) is c))
unfolding kind kind_number model.part_of ◌is◌
held_shown x c = grind arith

-- What a first page has, and a thread's page, as it is read.
abbrev pub shown_cell : model.Cell → Cell
shown_cell x = record { top = x.top; phase = phase_shown x.phase }

abbrev pub shown_thread : model.Thread → Thread
shown_thread x = record { cell = x.cell; start = x.start; under_way = x.under_way }

pub building_shown : (o : Option model.Cell) → look.is_building (option_map shown_cell o) ≡ model.cell_is model.building o
unfolding model.cell_is model.phase_number
building_shown o = grind arith

pub sealed_shown : (o : Option model.Cell) → look.is_sealed (option_map shown_cell o) ≡ model.cell_is model.sealed o
unfolding model.cell_is model.phase_number
sealed_shown o = grind arith

pub stopped_shown : (o : Option model.Cell) → look.is_stopped (option_map shown_cell o) ≡ model.cell_is model.stopped o
unfolding model.cell_is model.phase_number
stopped_shown o = grind arith

pub some_cell : (x : Entry) → is_some (option_map shown_cell (model.cell_in x)) ≡ model.is_cell x
unfolding model.cell_in kind kind_number
some_cell x = grind arith

pub some_thread : (x : Entry) → is_some (option_map shown_thread (model.thread_in x)) ≡ model.is_thread x
unfolding model.thread_in kind kind_number
some_thread x = grind arith

-- What a page of some kind has.
pub the_top : (x : Entry) (c : ℕ) → kind x ≡ top_of c → (y : model.Top) × (x ≡ top y)
unfolding kind
the_top free c h = absurd (grind (arith, h))
the_top (cell x) c h = absurd (grind (arith, h))
the_top (thread x) c h = absurd (grind (arith, h))
the_top (top x) c h = (x, refl)
the_top (table x) c h = absurd (grind (arith, h))
the_top (held x) c h = absurd (grind (arith, h))
the_top (spare x) c h = absurd (grind (arith, h))

pub the_table : (x : Entry) (c : ℕ) → kind x ≡ table_of c → (y : model.Table) × (x ≡ table y)
unfolding kind
the_table free c h = absurd (grind (arith, h))
the_table (cell x) c h = absurd (grind (arith, h))
the_table (thread x) c h = absurd (grind (arith, h))
the_table (top x) c h = absurd (grind (arith, h))
the_table (table x) c h = (x, refl)
the_table (held x) c h = absurd (grind (arith, h))
the_table (spare x) c h = absurd (grind (arith, h))

pub the_first : (x : Entry) → kind x ≡ model.first_page → (y : model.Cell) × (x ≡ cell y)
unfolding kind
the_first free h = absurd (grind (arith, h))
the_first (cell x) h = (x, refl)
the_first (thread x) h = absurd (grind (arith, h))
the_first (top x) h = absurd (grind (arith, h))
the_first (table x) h = absurd (grind (arith, h))
the_first (held x) h = absurd (grind (arith, h))
the_first (spare x) h = absurd (grind (arith, h))

pub the_cell : (x : Entry) → model.is_cell x ≡ true → (y : model.Cell) × (x ≡ cell y)
unfolding kind kind_number
the_cell free h = absurd (grind (arith, h))
the_cell (cell x) h = (x, refl)
the_cell (thread x) h = absurd (grind (arith, h))
the_cell (top x) h = absurd (grind (arith, h))
the_cell (table x) h = absurd (grind (arith, h))
the_cell (held x) h = absurd (grind (arith, h))
the_cell (spare x) h = absurd (grind (arith, h))

pub the_thread : (x : Entry) → model.is_thread x ≡ true → (y : model.Thread) × (x ≡ thread y)
unfolding kind kind_number
the_thread free h = absurd (grind (arith, h))
the_thread (cell x) h = absurd (grind (arith, h))
the_thread (thread x) h = (x, refl)
the_thread (top x) h = absurd (grind (arith, h))
the_thread (table x) h = absurd (grind (arith, h))
the_thread (held x) h = absurd (grind (arith, h))
the_thread (spare x) h = absurd (grind (arith, h))

-- The page of the top table of a cell, by its first page.
abbrev pub top_had : Entry → ℕ
top_had x = look.top_of (option_map shown_cell (model.cell_in x))

-- Who calls, as it is read.
abbrev pub shown_caller : State → state.Caller → Caller
shown_caller s j = record { thread = j.thread; cell = j.cell; top = top_had (entry s j.cell) }

pub both_some : (o : Option ℕ) (b : Bool) → is_some (cond b o None) ≡ (is_some o && b)
both_some None true = refl
both_some None false = refl
both_some (Some q) true = refl
both_some (Some q) false = refl

pub not_stopped : (x : Entry) → model.is_in model.building x ≡ true → model.is_in model.stopped x ≡ false
unfolding model.cell_is model.cell_in model.phase_number
not_stopped x h = grind (arith, h)

-- A cell that is there, and not stopped.
pub its_cell : (l : Limits) (s : State) (c : ℕ) → cell_there l s c ≡ true → (y : model.Cell) × (entry s c ≡ cell y)
its_cell l s c h = the_cell (entry s c) (and_parts (ltb c l.pages) (model.is_cell (entry s c)) h).1

pub live_cell : (l : Limits) (s : State) (c : ℕ) → cell_there l s c ≡ true → model.is_in model.stopped (entry s c) ≡ false → Live s c
live_cell l s c h g = ((and_parts (ltb c l.pages) (model.is_cell (entry s c)) h).1, g)

is_shown : (x : Entry) (c : ℕ) → look.is_part (look.part_of (shown x)) c ≡ (model.part_of (kind x) is c)
unfolding kind model.part_of ◌is◌
is_shown x c = grind arith

-- Parts that are looked for page by page, over a list.
parts_append : (xs : List Entry) (x : Entry) (c : ℕ) →
    model.has_parts (xs ++ (x ∷ [])) c ≡ (model.has_parts xs c || (model.part_of (kind x) is c))
unfolding model.has_parts
parts_append [] x c = or_false (model.part_of (kind x) is c)
parts_append (y ∷ xs) x c =
    ap (λ b. (model.part_of (kind y) is c) || b) (parts_append xs x c)
    ∙ sym (or_assoc (model.part_of (kind y) is c) (model.has_parts xs c) (model.part_of (kind x) is c))

take_one : (d : List Entry) (n : ℕ) → n < length d → take (suc n) d ≡ take n d ++ (at d n ∷ [])
take_one [] n h = absurd (omega arith)
take_one (x ∷ d) zero h = refl
take_one (x ∷ d) (suc n) h = ap (λ (xs : List Entry). x ∷ xs) (take_one d n (omega arith))

parts_upto : (m : List ℕ) (d : List Entry) (c : ℕ) →
    ((i : ℕ) → look.is_part (look.part_of (record_of m i)) c ≡ (model.part_of (kind (at d i)) is c)) → (n : ℕ) → n ≤ length d →
    look.has_parts n m c ≡ model.has_parts (take n d) c
unfolding look.has_parts model.has_parts
parts_upto m d c h zero g = refl
parts_upto m d c h (suc n) g =
    ap₂ (λ a b. a || b) (parts_upto m d c h n (omega arith)) (h n) ∙ sym (parts_append (take n d) (at d n) c)
    ∙ sym (ap (λ xs. model.has_parts xs c) (take_one d n (omega arith)))

module _ (l : Limits) (s : State) (k : Known l s) where
  long : length s.entries ≡ l.pages
  long = k.invariant.entries_long

  pub there_right : (p : ℕ) → there (encode l s) p ≡ ltb p l.pages
  there_right p = ap (ltb p) (reads_right.pages l s)

  pub open_right : (o : ℕ) → look.open_there (encode l s) o ≡ ltb o l.opens
  open_right o = ap (ltb o) (reads_right.opens l s)

  -- a page that is not there is free, and so is nothing else
  past : (p : ℕ) → ltb p l.pages ≡ false → entry s p ≡ free
  past p h = get_or_past s.entries p free (omega (arith, long, ltb-false p l.pages h))

  only_there : (p : ℕ) (b : Bool) → (ltb p l.pages ≡ false → b ≡ false) → b ≡ (ltb p l.pages && b)
  only_there p b h = by (ltb p l.pages) h
    where
      by : (a : Bool) → (a ≡ false → b ≡ false) → b ≡ (a && b)
      by true g = refl
      by false g = g refl

  pub record_right : (p : ℕ) → record_of (encode l s) p ≡ shown (entry s p)
  record_right p = ap (λ b. cond b (record_in (encode l s) p) Free) (there_right p) ∙ by (ltb p l.pages) refl
    where
      by : (b : Bool) → ltb p l.pages ≡ b → cond b (record_in (encode l s) p) Free ≡ shown (entry s p)
      by true h = reads_right.shows l s p (omega (arith, long, ltb-true p l.pages h))
      by false h = ap shown (sym (past p h))

  pub cell_right : (c : ℕ) → look.cell_of (encode l s) c ≡ option_map shown_cell (model.cell_in (entry s c))
  unfolding model.cell_in EntryFits
  cell_right c = ap (look.cell_in (encode l s)) (record_right c) ∙ by (entry s c) (k.invariant.entries_fit c)
    where
      by : (x : Entry) → EntryFits l x → look.cell_in (encode l s) (shown x) ≡ option_map shown_cell (model.cell_in x)
      by free f = refl
      by (cell x) f = ap (λ b. cond b (Some (shown_cell x)) None) (there_right x.top ∙ lt-ltb x.top l.pages f)
      by (thread x) f = refl
      by (top x) f = refl
      by (table x) f = refl
      by (held x) f = refl
      by (spare x) f = refl

  pub thread_right : (t : ℕ) → look.thread_of (encode l s) t ≡ option_map shown_thread (model.thread_in (entry s t))
  unfolding model.thread_in
  thread_right t = ap look.thread_in (record_right t) ∙ by (entry s t)
    where
      by : (x : Entry) → look.thread_in (shown x) ≡ option_map shown_thread (model.thread_in x)
      by x = grind arith

  -- a number of a page that is there
  if_there_right : (o : Option ℕ) → ((q : ℕ) → o ≡ Some q → q < l.pages) → if_there (encode l s) o ≡ o
  if_there_right None h = refl
  if_there_right (Some q) h = ap (λ b. cond b (Some q) None) (there_right q ∙ lt-ltb q l.pages (h q refl))

  -- The tables of a cell that is not stopped.
  module _ (c : ℕ) (y : model.Cell) (e : entry s c ≡ cell y) (live : Live s c) where
    top_there : y.top < length s.entries
    unfolding EntryFits
    top_there = omega (arith, long, subst (EntryFits l) e (k.invariant.entries_fit c))

    pub its_top : (x : model.Top) × (entry s y.top ≡ top x)
    its_top = the_top (entry s y.top) c (k.invariant.has_top c y live e)

    tables_are : (i : ℕ) → table_at s.entries c i ≡ get_or its_top.0.tables i None
    unfolding model.cell_in tables_by tables_in
    tables_are i =
        ap (λ x. get_or (tables_by s.entries (model.cell_in x)) i None) e
        ∙ ap (λ x. get_or (tables_in x) i None) its_top.1

    pub table_fits : (i q : ℕ) → table_at s.entries c i ≡ Some q → q < l.pages
    unfolding EntryFits
    table_fits i q h = (subst (EntryFits l) its_top.1 (k.invariant.entries_fit y.top)).1 i q (sym (tables_are i) ∙ h)

    pub table_right : (i : ℕ) → i < 256 → look.table_of (encode l s) y.top i ≡ table_at s.entries c i
    table_right i h =
        ap (if_there (encode l s)) (reads_right.table l s y.top i its_top.0 its_top.1 top_there h ∙ sym (tables_are i))
        ∙ if_there_right (table_at s.entries c i) (table_fits i)

    pub its_table : (i q : ℕ) → table_at s.entries c i ≡ Some q → (x : model.Table) × (entry s q ≡ table x)
    its_table i q h = the_table (entry s q) c (k.invariant.has_table c i q live h)

    -- a place beyond the top table has no table
    pub no_table : (i : ℕ) → 256 ≤ i → table_at s.entries c i ≡ None
    unfolding EntryFits
    no_table i h =
        let fits = subst (EntryFits l) its_top.1 (k.invariant.entries_fit y.top) in
        tables_are i ∙ get_or_past its_top.0.tables i None (omega (arith, h, fits.0, k.sized.places_are))

    pub slot_right : (i j q : ℕ) → j < 1024 → table_at s.entries c i ≡ Some q →
        rows.slot_in (encode l s) q j ≡ model.slot_in s.entries (table_at s.entries c i) j
    unfolding model.slot_in slots_in
    slot_right i j q g h =
        let x = its_table i q h in
        reads_right.slot l s q j x.0 x.1 (omega (arith, long, table_fits i q h)) g
        ∙ sym (ap (λ o. model.slot_in s.entries o j) h ∙ ap (λ z. get_or (slots_in z) j model.nothing) x.1)

    pub vacant_right : (w : Place) → w.table < 256 → w.slot < 1024 →
        look.vacant (encode l s) y.top w ≡ cond (model.is_nothing (slot_at s.entries c w)) (table_at s.entries c w.table) None
    unfolding model.slot_in model.is_nothing
    vacant_right w g h =
        ap (look.empty_in (encode l s) w.slot) (table_right w.table g) ∙ by (table_at s.entries c w.table) refl
      where
        by : (o : Option ℕ) → table_at s.entries c w.table ≡ o →
            look.empty_in (encode l s) w.slot o ≡ cond (model.is_nothing (model.slot_in s.entries o w.slot)) o None
        by None q = refl
        by (Some r) q =
            ap (λ z. cond (model.is_nothing z) (Some r) None)
            (slot_right w.table w.slot r h q ∙ ap (λ o. model.slot_in s.entries o w.slot) q)

    pub showing_right : (w : Place) (p : ℕ) → w.table < 256 → w.slot < 1024 →
        look.showing (encode l s) y.top w p
        ≡ cond (model.closed_in (slot_at s.entries c w) is p) (table_at s.entries c w.table) None
    unfolding model.slot_in model.closed_in ◌is◌
    showing_right w p g h =
        ap (look.showing_in (encode l s) p w.slot) (table_right w.table g) ∙ by (table_at s.entries c w.table) refl
      where
        by : (o : Option ℕ) → table_at s.entries c w.table ≡ o →
            look.showing_in (encode l s) p w.slot o
            ≡ cond (model.closed_in (model.slot_in s.entries o w.slot) is p) o None
        by None q = refl
        by (Some r) q =
            ap (λ z. cond (model.closed_in z is p) (Some r) None)
            (slot_right w.table w.slot r h q ∙ ap (λ o. model.slot_in s.entries o w.slot) q)

  -- Who calls.
  pub caller_right : look.caller (encode l s) ≡ option_map (shown_caller s) (state.caller s)
  unfolding model.cell_in state.caller_by
  caller_right = ap (look.caller_of (encode l s)) (reads_right.running l s) ∙ by s.running
    where
      owned_by : (t : ℕ) (o : Option ℕ) → model.part_of (kind (entry s t)) ≡ o →
          look.caller_by (encode l s) t o ≡ option_map (shown_caller s) (option_map (λ c. record { thread = t; cell = c }) o)
      owned_by t None h = refl
      owned_by t (Some c) h =
          let y = the_first (entry s c) (k.invariant.owned t c h) in
          let q : look.cell_of (encode l s) c ≡ Some (shown_cell y.0) = cell_right c
          ∙ ap (λ x. option_map shown_cell (model.cell_in x)) y.1 in
          ap (look.caller_in t c) q ∙ ap (λ n. Some (record { thread = t; cell = c; top = n })) (sym (ap top_had y.1))

      by : (r : Option ℕ) → look.caller_of (encode l s) r ≡ option_map (shown_caller s) (state.caller_by s.entries r)
      by None = refl
      by (Some t) =
          ap (look.caller_by (encode l s) t) (ap look.part_of (record_right t) ∙ part_shown (entry s t))
          ∙ owned_by t (model.part_of (kind (entry s t))) refl

  -- Whether a cell has pages besides its first.
  pub parts_right : (c : ℕ) → look.has_parts (get_or (encode l s) 0 0) (encode l s) c ≡ model.has_parts s.entries c
  parts_right c =
      ap (λ n. look.has_parts n (encode l s) c) (reads_right.pages l s ∙ sym long)
      ∙ parts_upto (encode l s) s.entries c (λ i. ap (λ x. look.is_part (look.part_of x) c) (record_right i) ∙ is_shown (entry s i) c)
      (length s.entries) (omega arith)
      ∙ ap (λ d. model.has_parts d c) (take_all (length s.entries) s.entries (omega arith))

  -- The same, by the number of a page that is a cell's first.
  pub cells_right : (c : ℕ) → is_some (look.cell_of (encode l s) c) ≡ cell_there l s c
  unfolding kind kind_number
  cells_right c = ap is_some (cell_right c) ∙ some_cell (entry s c)
      ∙ only_there c (model.is_cell (entry s c)) (λ h. ap model.is_cell (past c h))

  pub freed_right : (p : ℕ) → look.is_free (record_of (encode l s) p) ≡ model.is_free (entry s p)
  freed_right p = ap look.is_free (record_right p) ∙ free_shown (entry s p)

  pub building_right : (c : ℕ) → look.is_building (look.cell_of (encode l s) c) ≡ model.is_in model.building (entry s c)
  building_right c = ap look.is_building (cell_right c) ∙ building_shown (model.cell_in (entry s c))

  pub sealed_right : (c : ℕ) → look.is_sealed (look.cell_of (encode l s) c) ≡ model.is_in model.sealed (entry s c)
  sealed_right c = ap look.is_sealed (cell_right c) ∙ sealed_shown (model.cell_in (entry s c))

  pub stopped_right : (c : ℕ) → look.is_stopped (look.cell_of (encode l s) c) ≡ model.is_in model.stopped (entry s c)
  stopped_right c = ap look.is_stopped (cell_right c) ∙ stopped_shown (model.cell_in (entry s c))

  module _ (c : ℕ) (y : model.Cell) (e : entry s c ≡ cell y) (live : Live s c) where
    pub had : look.cell_of (encode l s) c ≡ Some (shown_cell y)
    unfolding model.cell_in
    had = cell_right c ∙ ap (λ x. option_map shown_cell (model.cell_in x)) e

    pub table_by_right : (i : ℕ) → i < 256 → look.table_by (encode l s) (look.cell_of (encode l s) c) i ≡ table_at s.entries c i
    table_by_right i h = ap (λ o. look.table_by (encode l s) o i) had ∙ table_right c y e live i h

    pub vacant_by_right : (w : Place) → w.table < 256 → w.slot < 1024 →
        look.vacant_by (encode l s) (look.cell_of (encode l s) c) w
        ≡ cond (model.is_nothing (slot_at s.entries c w)) (table_at s.entries c w.table) None
    vacant_by_right w g h = ap (λ o. look.vacant_by (encode l s) o w) had ∙ vacant_right c y e live w g h

  pub threads_right : (t : ℕ) → is_some (look.thread_of (encode l s) t) ≡ thread_there l s t
  unfolding kind kind_number
  threads_right t =
      ap is_some (thread_right t) ∙ some_thread (entry s t)
      ∙ only_there t (model.is_thread (entry s t)) (λ h. ap model.is_thread (past t h))

  -- The pages of one who calls.
  pub spares_right : (j : state.Caller) (p : ℕ) → look.is_part (look.spare_in (record_of (encode l s) p)) j.cell ≡ own_spare l s j p
  unfolding kind kind_number
  spares_right j p =
      ap (λ x. look.is_part (look.spare_in x) j.cell) (record_right p) ∙ spare_shown (entry s p) j.cell
      ∙ ap (λ b. b && (model.part_of (kind (entry s p)) is j.cell))
      (only_there p (model.is_spare (entry s p)) (λ h. ap model.is_spare (past p h)))

  pub helds_right : (j : state.Caller) (p : ℕ) → look.is_part (look.held_in (record_of (encode l s) p)) j.cell ≡ own_held l s j p
  unfolding kind kind_number
  helds_right j p =
      ap (λ x. look.is_part (look.held_in x) j.cell) (record_right p) ∙ held_shown (entry s p) j.cell
      ∙ ap (λ b. b && (model.part_of (kind (entry s p)) is j.cell))
      (only_there p (model.is_held (entry s p)) (λ h. ap model.is_held (past p h)))
