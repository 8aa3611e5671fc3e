-- A processor does on the pages in place what it does as a machine.
use Rattle.std.proofs.Common.{◌≡◌, ℕ, zero, suc, ◌+◌, Bool, true, false, cond, eqb, ◌⊎◌, List, [], ◌∷◌, length, get_or, set, Some, None, Option, sym, refl, ap, ◌∙◌, ap₂, inl, inr, arith}
use mathlib.Core.Path.{fun_ext}
use Rattle.std.proofs.lemmas.List.{ext_get_or}
use Rattle.std.proofs.lemmas.Bool.{eqb-true, eqb-false}
use Rattle.std.proofs.lemmas.Bool.Decides.{nat_tests}
use Rattle.model.specs.Pages.{Slot, nothing, closed, opened, writable, slot_in, slots_in, cell_in, tables_by, table_at, Entries, at}
use Rattle.model.specs.State.{State, entry}
use Rattle.model.specs.Machine.{words_behind, sight, write_behind, write_slots, write_table, write_tables, written, ended_by}
use Rattle.model.specs.Processor.{Step, moves, stores, asks, Processor, Memory, Came, then, steps, writes_to, by_sight, table_number}
use Rattle.model.specs.Processor.{slot_number, word_number, slot_for, in_place, patience, drawn, played}
use Rattle.model.specs.Promises.{PlaysInPlace}
use Rattle.model.proofs.Lists.{get_d_set, changed_here}
use Rattle.model.proofs.Runs.{SamePages, refl_pages, then_pages, behind_pages, table_pages, written_pages}

-- Two kinds of memory that stay related: what a processor comes to on them is the same, and they are related then.
pub record SameCame {A B : Type 0} (R : A → B → Type 0) (x : Came A) (y : Came B) : Type 0 where
  pub registers : x.registers ≡ y.registers
  pub ends : x.ends ≡ y.ends
  pub memory : R x.memory y.memory

module _ {A B : Type 0} (m : Memory A) (n : Memory B) (R : A → B → Type 0) (f : Processor)
    (looks : (a : A) (b : B) → R a b → m.look a ≡ n.look b)
    (stores_same : (a : A) (b : B) (x v : ℕ) → R a b → R (m.store a x v) (n.store b x v)) where
  then_same : (go : List ℕ → A → Came A) (on : List ℕ → B → Came B) (a : A) (b : B) → R a b →
      ((rs : List ℕ) (c : A) (d : B) → R c d → SameCame R (go rs c) (on rs d)) → (s : Step) → SameCame R (then m go a s) (then n on b s)
  unfolding then
  then_same go on a b h k (moves rs) = k rs a b h
  then_same go on a b h k (stores rs x v) = k rs (m.store a x v) (n.store b x v) (stores_same a b x v h)
  then_same go on a b h k (asks rs c) = record { registers = refl; ends = refl; memory = h }

  pub simulates : (i chance : ℕ) (rs : List ℕ) (a : A) (b : B) → R a b → SameCame R (steps m f i chance rs a) (steps n f i chance rs b)
  unfolding steps
  simulates zero chance rs a b h = record { registers = refl; ends = refl; memory = h }
  simulates (suc i) chance rs a b h =
      rw (looks a b h)
      (then_same (steps m f i chance) (steps n f i chance) a b h (λ qs c d. simulates i chance qs c d) (f rs (n.look b) chance))

-- A word that is put into the page behind a slot is seen wherever that page is.
row_put : (xs : List (List ℕ)) (p q k v : ℕ) →
    get_or (set xs p (set (get_or xs p []) k v)) q [] ≡ cond (eqb p q) (set (get_or xs q []) k v) (get_or xs q [])
row_put xs p q k v = go (eqb p q) refl
  where
    go : (b : Bool) → eqb p q ≡ b → get_or (set xs p (set (get_or xs p []) k v)) q [] ≡ cond b (set (get_or xs q []) k v) (get_or xs q [])
    go true e = rw (← eqb-true p q e) (changed_here xs p (λ ws. set ws k v) [] refl)
    go false e = elim (get_d_set xs p q (set (get_or xs p []) k v) []) [ inl z ↦ z | inr z ↦ absurd (eqb-false p q e z.0) ]

put_seen : (s : State) (x y : Slot) (k v : ℕ) →
    cond (writes_to x y) (set (words_behind s y) k v) (words_behind s y) ≡ words_behind (write_behind x (set (words_behind s x) k v) s) y
unfolding writes_to words_behind write_behind
put_seen s x y k v = grind (arith, row_put s.contents, row_put s.open_pages)

-- What the cell c wrote in place from s on: words of pages that it sees where it may write.
abbrev SeenAt : ℕ → State → Slot → Type 0
SeenAt c s z = (i : ℕ) × (j : ℕ) × (slot_in s.entries (table_at s.entries c i) j ≡ z)

-- The same page is behind both slots.
abbrev OnePage : Slot → Slot → Type 0
OnePage y z = (s : State) → words_behind s z ≡ words_behind s y

record Within (c : ℕ) (s t : State) : Type 0 where
  pages : SamePages s t
  words : (y : Slot) → (words_behind t y ≡ words_behind s y) ⊎ ((z : Slot) × (writable z ≡ true) × OnePage y z × SeenAt c s z)

writes_same : (x y : Slot) → writes_to x y ≡ true → (writable x ≡ true) × OnePage y x
unfolding writes_to writable words_behind
writes_same x y h = (grind arith, λ s. grind (arith, nat_tests))

put_within : (c k v : ℕ) (s t : State) (x : Slot) → SeenAt c s x → Within c s t →
    Within c s (write_behind x (set (words_behind t x) k v) t)
put_within c k v s t x i h = record {
  pages = then_pages s t _ (behind_pages x (set (words_behind t x) k v) t) h.pages;
  words = λ y. go y (writes_to x y) refl (put_seen t x y k v);
}
  where
    u : State
    u = write_behind x (set (words_behind t x) k v) t

    go : (y : Slot) (b : Bool) → writes_to x y ≡ b → cond b (set (words_behind t y) k v) (words_behind t y) ≡ words_behind u y →
        (words_behind u y ≡ words_behind s y) ⊎ ((z : Slot) × (writable z ≡ true) × OnePage y z × SeenAt c s z)
    go y true e g = let a = writes_same x y e in inr (x, a.0, a.1, i)
    go y false e g = elim (h.words y) [ inl a ↦ inl (sym g ∙ a) | inr a ↦ inr a ]

-- To write back, place by place, what is seen in t makes t of s.
put_back : (xs ys : List (List ℕ)) (p q : ℕ) → get_or xs q [] ≡ get_or ys q [] → get_or (set xs p (get_or ys p [])) q [] ≡ get_or ys q []
put_back xs ys p q h = elim (get_d_set xs p q (get_or ys p []) []) [ inl e ↦ e ∙ h | inr e ↦ e.1 ∙ ap (λ n. get_or ys n []) e.0 ]

put_there : (xs ys : List (List ℕ)) (p : ℕ) → length xs ≡ length ys → get_or (set xs p (get_or ys p [])) p [] ≡ get_or ys p []
put_there [] [] p h = refl
put_there [] (y ∷ ys) p h = absurd (omega arith)
put_there (x ∷ xs) [] p h = absurd (omega arith)
put_there (x ∷ xs) (y ∷ ys) zero h = refl
put_there (x ∷ xs) (y ∷ ys) (suc p) h = put_there xs ys p (omega arith)

module _ (t : State) (y : Slot) where
  abbrev Got : State → Type 0
  Got s = words_behind s y ≡ words_behind t y

  no_slot : nothing ≡ y → writable y ≡ true → ⊥
  unfolding writable
  no_slot e h = grind (arith, e, h)

  keeps : (z : Slot) (s : State) → Got s → Got (write_behind z (words_behind t z) s)
  unfolding words_behind write_behind
  keeps z s h = grind (arith, put_back s.contents t.contents, put_back s.open_pages t.open_pages)

  lands : (s : State) → SamePages t s → writable y ≡ true → Got (write_behind y (words_behind t y) s)
  unfolding words_behind write_behind writable
  lands s h w = grind (arith, put_there s.contents t.contents, put_there s.open_pages t.open_pages)

  -- As t has it already, or still to be written.
  slots_back : (f : ℕ → List ℕ) (j : ℕ) (zs : List Slot) (s : State) → SamePages t s →
      ((n k : ℕ) → k ≡ n + j → f k ≡ words_behind t (get_or zs n nothing)) →
      Got s ⊎ ((writable y ≡ true) × ((n : ℕ) × (get_or zs n nothing ≡ y))) → Got (write_slots f j zs s)
  unfolding write_slots
  slots_back f j [] s h e g = elim g [ inl a ↦ a | inr a ↦ absurd (no_slot a.1.1 a.0) ]
  slots_back f j (z ∷ zs) s h e g =
      rw (e 0 j (omega arith))
      (slots_back f (suc j) zs (write_behind z (words_behind t z) s) (then_pages t s _ (behind_pages z (words_behind t z) s) h)
      (λ n k i. e (suc n) k (omega arith)) (elim g [ inl a ↦ inl (keeps z s a) | inr a ↦ next a.1.0 a.0 a.1.1 ]))
    where
      next : (n : ℕ) → writable y ≡ true → get_or (z ∷ zs) n nothing ≡ y →
          Got (write_behind z (words_behind t z) s) ⊎ ((writable y ≡ true) × ((k : ℕ) × (get_or zs k nothing ≡ y)))
      next zero w i = inl (rw i (lands s h w))
      next (suc n) w i = inr (w, (n, i))

  table_back : (d : Entries) (f : ℕ → List ℕ) (q : Option ℕ) (s : State) → SamePages t s →
      ((j : ℕ) → f j ≡ words_behind t (slot_in d q j)) →
      Got s ⊎ ((writable y ≡ true) × ((j : ℕ) × (slot_in d q j ≡ y))) → Got (write_table d f q s)
  unfolding write_table slot_in
  table_back d f None s h e g = elim g [ inl a ↦ a | inr a ↦ absurd (no_slot a.1.1 a.0) ]
  table_back d f (Some q) s h e g =
      slots_back f 0 (slots_in (at d q)) s h (λ n k i. let i' : k ≡ n = omega arith in rw i' (e n)) g

  tables_back : (d : Entries) (f : ℕ → ℕ → List ℕ) (i : ℕ) (ts : List (Option ℕ)) (s : State) → SamePages t s →
      ((n k : ℕ) → k ≡ n + i → (j : ℕ) → f k j ≡ words_behind t (slot_in d (get_or ts n None) j)) →
      Got s ⊎ ((writable y ≡ true) × ((n : ℕ) × (j : ℕ) × (slot_in d (get_or ts n None) j ≡ y))) → Got (write_tables d f i ts s)
  unfolding write_tables slot_in
  tables_back d f i [] s h e g = elim g [ inl a ↦ a | inr a ↦ absurd (no_slot a.1.2 a.0) ]
  tables_back d f i (q ∷ ts) s h e g =
      let first = table_back d (f i) q s h (e 0 i (omega arith)) in
      tables_back d f (suc i) ts (write_table d (f i) q s) (then_pages t s _ (table_pages d (f i) q s) h)
      (λ n k a. e (suc n) k (omega arith))
      (elim g [ inl a ↦ inl (first (inl a)) | inr a ↦ next (λ b. first (inr b)) a.1.0 a.1.1 a.0 a.1.2 ])
    where
      next : ((writable y ≡ true) × ((j : ℕ) × (slot_in d q j ≡ y)) → Got (write_table d (f i) q s)) → (n j : ℕ) → writable y ≡ true →
          slot_in d (get_or (q ∷ ts) n None) j ≡ y → Got (write_table d (f i) q s)
          ⊎ ((writable y ≡ true) × ((n : ℕ) × (j : ℕ) × (slot_in d (get_or ts n None) j ≡ y)))
      next first zero j w a = inl (first (w, (j, a)))
      next first (suc n) j w a = inr (w, (n, j, a))

same_state : (a b : State) → a.entries ≡ b.entries → a.contents ≡ b.contents → a.open_pages ≡ b.open_pages →
    a.running ≡ b.running → a ≡ b
same_state a b e f g h = rw (η a, η b, e, f, g, h)
  where
    η : (x : State) → x ≡ record { entries = x.entries; contents = x.contents; open_pages = x.open_pages; running = x.running }
    η x = refl

module _ (c : ℕ) (s t : State) (h : Within c s t) where
  abbrev back : State
  back = written c (λ i j. (sight t c i j).words) s

  from_t : SamePages t s
  from_t = record {
    entries = sym h.pages.entries;
    running = sym h.pages.running;
    contents_long = sym h.pages.contents_long;
    opens_long = sym h.pages.opens_long;
  }

  back_words : (y : Slot) → words_behind back y ≡ words_behind t y
  back_words y = elim (h.words y) [
    | inl a ↦ got y (inl (sym a))
    | inr a ↦ sym (a.2 back) ∙ (got a.0 (inr (a.1, a.3)) ∙ a.2 t)
  ]
    where
      got : (z : Slot) → (words_behind s z ≡ words_behind t z) ⊎ ((writable z ≡ true) × SeenAt c s z) →
          words_behind back z ≡ words_behind t z
      got z g =
          tables_back t z s.entries (λ i j. (sight t c i j).words) 0 (tables_by s.entries (cell_in (entry s c))) s from_t
          (λ n k a j. let a' : k ≡ n = omega arith in rw (a', h.pages.entries)) g

  -- What is seen in t, written back into s, makes t.
  written_back : back ≡ t
  unfolding words_behind
  written_back =
      let p = written_pages c (λ i j. (sight t c i j).words) s in
      same_state back t (p.entries ∙ sym h.pages.entries)
      (ext_get_or [] back.contents t.contents (p.contents_long ∙ sym h.pages.contents_long)
      (λ q a. back_words (closed q true true)))
      (ext_get_or [] back.open_pages t.open_pages (p.opens_long ∙ sym h.pages.opens_long) (λ q a. back_words (opened q true)))
      (p.running ∙ sym h.pages.running)

-- In place, and by sight: what is seen stays what is seen of the pages.
stored_seen : (c : ℕ) (t : State) (a v : ℕ) → by_sight.store (sight t c) a v ≡ sight ((in_place c).store t a v) c
unfolding write_behind
stored_seen c t a v = fun_ext (λ i. fun_ext (λ j. one i j))
  where
    one : (i j : ℕ) → by_sight.store (sight t c) a v i j ≡ sight ((in_place c).store t a v) c i j
    one i j =
        let z = slot_for t c a in
        let y = slot_in t.entries (table_at t.entries c i) j in
        rw (behind_pages z (set (words_behind t z) (word_number a) v) t).entries
        (ap (λ ws. record { slot = y; words = ws }) (put_seen t z y (word_number a) v))

-- 10.
pub plays_in_place : PlaysInPlace
plays_in_place f g w c chance =
    let s = w.state in
    let e = simulates (in_place c) by_sight (λ t u. Within c s t × (sight t c ≡ u)) f
    (λ t u h. ap by_sight.look h.1)
    (λ t u a v h. (
      put_within c (word_number a) v s t (slot_for t c a) (table_number a, slot_number a, rw h.0.pages.entries) h.0,
      sym (stored_seen c t a v) ∙ ap (λ x. by_sight.store x a v) h.1,
    ))
    (patience chance) (drawn chance) w.registers s (sight s c)
    (record { pages = refl_pages s; words = λ y. inl refl }, refl) in (
      ap (λ u. written c (λ i j. (u i j).words) s) (sym e.memory.1) ∙ written_back c s (played f w c chance).memory e.memory.0,
      sym e.registers,
      ap₂ ended_by (sym e.registers) (sym e.ends),
    )
