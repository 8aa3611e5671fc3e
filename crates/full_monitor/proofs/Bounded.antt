-- Each number of a state's memory fits eight bytes.
use Rattle.std.proofs.Common.{◌≡◌, ℕ, zero, suc, ◌/◌, ◌^◌, ◌<◌, ◌≤◌, Bool, true, false, eqb, ltb, List, [], ◌∷◌, ◌++◌, map, length, get_or, take, replicate, Some, None, Option, sym, refl, ap, ◌∙◌, arith, ltb-false, ltb-true}
use Rattle.std.proofs.lemmas.List.{get_or_past}
use Rattle.std.proofs.lemmas.Bool.{and_parts}
use Rattle.fields.specs.Bytes.{Wide}
use Rattle.model.specs.Pages as model
use Rattle.model.specs.Pages.{Slot, nothing, closed, opened, Phase, phase_number, Entry, free, cell, thread, top, table, held, spare, kind, part_of}
use Rattle.model.specs.State.{Limits, State, Sized, entry, word, all_words}
use Rattle.model.specs.Invariant.{SlotFits, EntryFits}
use Rattle.pages.specs.Flat.{flat}
use Rattle.pages.specs.Packing.{bit, slot_number, some_number}
use Rattle.pages.specs.Layout.{padded, running_hash, line, row, rows, header, tail, encode}
use Rattle.pages.proofs.Hashes.{words_hashed}
use Rattle.lookups.proofs.Right.{Known}

abbrev Fits : ℕ → Type 0
Fits n = n < 2 ^ 64

-- Lists of such numbers.
zeros_wide : (n : ℕ) → Wide (replicate n 0)
zeros_wide zero = tt
zeros_wide (suc n) = (omega arith, zeros_wide n)

take_wide : (n : ℕ) (xs : List ℕ) → Wide xs → Wide (take n xs)
take_wide zero xs h = tt
take_wide (suc n) [] h = tt
take_wide (suc n) (x ∷ xs) h = (h.0, take_wide n xs h.1)

append_wide : (xs ys : List ℕ) → Wide xs → Wide ys → Wide (xs ++ ys)
append_wide [] ys h g = g
append_wide (x ∷ xs) ys h g = (h.0, append_wide xs ys h.1 g)

padded_wide : (n : ℕ) (ws : List ℕ) → Wide ws → Wide (padded n ws)
unfolding padded
padded_wide n ws h = take_wide n (ws ++ replicate n 0) (append_wide ws (replicate n 0) h (zeros_wide n))

line_wide : (k c a b : ℕ) (ws : List ℕ) → Fits k → Fits c → Fits a → Fits b → Wide ws → Wide (line k c a b ws)
unfolding line
line_wide k c a b ws h i j m w = (h, (i, (j, (m, padded_wide 2044 ws w))))

words_wide : (ws : List ℕ) → all_words ws ≡ true → Wide ws
unfolding all_words
words_wide [] h = tt
words_wide (w ∷ ws) h =
    let a = and_parts (word w) (all_words ws) h in (omega (arith, ltb-true w 4294967296 a.0), words_wide ws a.1)

hash_wide : (ws : List ℕ) → Wide (running_hash ws)
hash_wide ws =
    let h = words_hashed (length ws / 16) ws in (
      omega arith,
      (
        omega (arith, h.0),
        (
          omega (arith, h.1),
          (
            omega (arith, h.2),
            (
              omega (arith, h.3),
              (
                omega (arith, h.4),
                (omega (arith, h.5), (omega (arith, h.6), (omega (arith, h.7), tt))),
              ),
            ),
          ),
        ),
      ),
    )

phase_fits : (f : Phase) → Fits (phase_number f)
unfolding phase_number
phase_fits model.building = omega arith
phase_fits model.sealed = omega arith
phase_fits model.stopped = omega arith

bit_fits : (b : Bool) → bit b ≤ 1
bit_fits true = omega arith
bit_fits false = omega arith

module _ (l : Limits) (z : Sized l) where
  tables_wide : (ts : List (Option ℕ)) → ((i q : ℕ) → get_or ts i None ≡ Some q → q < l.pages) → Wide (map some_number ts)
  tables_wide [] h = tt
  tables_wide (None ∷ ts) h = (omega arith, tables_wide ts (λ i. h (suc i)))
  tables_wide (Some q ∷ ts) h = (omega (arith, h 0 q refl, z.most_pages), tables_wide ts (λ i. h (suc i)))

  slot_fits : (x : Slot) → SlotFits l x → Fits (slot_number x)
  unfolding SlotFits
  slot_fits nothing f = omega arith
  slot_fits (closed p w x) f = omega (arith, f, z.most_pages, bit_fits w, bit_fits x)
  slot_fits (opened o w) f = omega (arith, f, z.most_opens, bit_fits w)

  slots_wide : (zs : List Slot) → ((j : ℕ) → SlotFits l (get_or zs j nothing)) → Wide (map slot_number zs)
  slots_wide [] h = tt
  slots_wide (x ∷ zs) h = (slot_fits x (h 0), slots_wide zs (λ j. h (suc j)))

  -- a record, if the cell that it names is a page
  row_wide : (x : Entry) → EntryFits l x → ((c : ℕ) → part_of (kind x) ≡ Some c → c < l.pages) → Wide (row x)
  unfolding row EntryFits kind part_of
  row_wide free f h = line_wide 0 0 0 0 [] (omega arith) (omega arith) (omega arith) (omega arith) tt
  row_wide (cell x) f h =
      line_wide 1 0 _ _ _ (omega arith) (omega arith) (omega (arith, f, z.most_pages)) (phase_fits x.phase) (hash_wide x.measured)
  row_wide (thread x) f h =
      line_wide 2 _ _ _ _ (omega arith) (omega (arith, h x.cell refl, z.most_pages)) (omega (arith, ltb-true _ _ f.0))
      (omega (arith, bit_fits x.under_way))
      (words_wide x.registers (and_parts (eqb (length x.registers) 17) (all_words x.registers) f.1).1)
  row_wide (top x) f h =
      line_wide 3 _ 0 0 _ (omega arith) (omega (arith, h x.cell refl, z.most_pages)) (omega arith) (omega arith)
      (tables_wide x.tables f.1)
  row_wide (table x) f h =
      line_wide 4 _ 0 0 _ (omega arith) (omega (arith, h x.cell refl, z.most_pages)) (omega arith) (omega arith)
      (slots_wide x.slots f.1)
  row_wide (held x) f h =
      line_wide 5 _ 0 0 [] (omega arith) (omega (arith, h x.cell refl, z.most_pages)) (omega arith) (omega arith) tt
  row_wide (spare x) f h =
      line_wide 6 _ 0 0 [] (omega arith) (omega (arith, h x.cell refl, z.most_pages)) (omega arith) (omega arith) tt

  rows_wide : (d : List Entry) → ((p : ℕ) → Wide (row (model.at d p))) → Wide (flat (map row d))
  unfolding flat
  rows_wide [] h = tt
  rows_wide (x ∷ d) h = append_wide (row x) (flat (map row d)) (h 0) (rows_wide d (λ p. h (suc p)))

module _ (l : Limits) (s : State) (k : Known l s) where
  -- a page that is something is there
  there : (p : ℕ) → (entry s p ≡ free → ⊥) → p < l.pages
  there p h = by (ltb p l.pages) refl
    where
      by : (b : Bool) → ltb p l.pages ≡ b → p < l.pages
      by true e = ltb-true p l.pages e
      by false e = absurd (h (get_or_past s.entries p free (omega (arith, ltb-false p l.pages e, k.invariant.entries_long))))

  owner_there : (p c : ℕ) → part_of (kind (entry s p)) ≡ Some c → c < l.pages
  unfolding kind
  owner_there p c h = there c (λ e. let q = sym (ap kind e) ∙ k.invariant.owned p c h in grind (arith, q))

  running_there : (r : Option ℕ) → s.running ≡ r → Fits (some_number r)
  unfolding kind
  running_there None h = omega arith
  running_there (Some t) h =
      let b = k.invariant.sealed_runs t h in
      let low = there t (λ e. let q = sym (ap kind e) ∙ b.1 in grind (arith, q)) in
      omega (arith, low, k.sized.most_pages)

  header_wide : Wide (header l s.running)
  unfolding header
  header_wide =
      padded_wide 256 _ (
        omega (arith, k.sized.most_pages),
        (
          omega (arith, k.sized.most_opens),
          (
            omega arith,
            (
              omega arith,
              (
                omega arith,
                (omega arith, (omega arith, (omega arith, (running_there s.running refl, tt)))),
              ),
            ),
          ),
        ),
      )

  pub encode_wide : Wide (encode l s)
  encode_wide =
      append_wide (header l s.running) (rows s.entries ++ tail) header_wide (append_wide (rows s.entries) tail
      (rows_wide l k.sized s.entries (λ p. row_wide l k.sized (entry s p) (k.invariant.entries_fit p) (owner_there p))) tt)
