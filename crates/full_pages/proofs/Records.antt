-- Records of pages, where only what a kind of page has a use for is written.
use Rattle.std.proofs.Common.{◌≡◌, ℕ, suc, ◌+◌, ◌-◌, ◌≤◌, List, [], ◌∷◌, ◌++◌, map, length, take, drop, replicate, sym, refl, ap, ◌∙◌, subst, append_assoc, add-zero, arith, length-append}
use lib.ListN.{length-replicate}
use Rattle.std.proofs.lemmas.List.{drop-drop, drop-replicate, length-map, length-take-le, replicate-append-replicate}
use Rattle.model.specs.Pages.{Entry, free, cell, thread, top, table, held, spare, phase_number}
use Rattle.pages.specs.Layout.{padded, line, row, running_hash}
use Rattle.pages.specs.Packing.{bit, some_number, slot_number}
use Rattle.pages.specs.Flat.{list_put}
use Rattle.pages.specs.Meaning.{shown, beginning, fresh}
use Rattle.pages.specs.declared.values.Phase.{Phase}
use Rattle.pages.specs.declared.values.Record.{Record}
use Rattle.pages.specs.declared.values.Record.TheVariants as rec
use Rattle.pages.proofs.Lists.{drop_after, put_after, padded_nil, padded_is}
use Rattle.pages.proofs.Records.{line_begun, record_made}
use Rattle.full_pages.specs.Meaning.{used, Bare, FitsList, NoCell}

-- a list put right behind one that was put before
pub put_next : (m xs ys : List ℕ) (i j : ℕ) → i ≤ length m → j ≡ i + length xs →
    list_put (list_put m i xs) j ys ≡ list_put m i (xs ++ ys)
put_next m xs ys i j h q =
    let d : List ℕ = drop (length xs) (drop i m) in
    ap (λ n. list_put (list_put m i xs) n ys) (q ∙ ap (λ n. i + n) (sym (add-zero (length xs))))
    ∙ put_after (take i m) (xs ++ d) ys i (length xs + 0) (length-take-le i m h)
    ∙ ap (λ x. take i m ++ x) (put_after xs d ys (length xs) 0 refl)
    ∙ ap (λ x. take i m ++ (xs ++ (ys ++ x))) (drop-drop (length ys) (length xs) (drop i m))
    ∙ simp (append_assoc, length-append)

-- zeros put over the list make all of it zeros
padded_cleared : (n k : ℕ) (xs : List ℕ) → length xs ≤ k → k ≤ n → list_put (padded n xs) 0 (replicate k 0) ≡ padded n []
padded_cleared n k xs h g =
    let i : ℕ = k - length xs in
    let e : k ≡ length xs + i = omega arith in
    ap (λ j. replicate k 0 ++ drop j (padded n xs)) (length-replicate k 0 ∙ e)
    ∙ ap (λ ys. replicate k 0 ++ drop (length xs + i) ys) (padded_is n xs (omega arith))
    ∙ ap (λ ys. replicate k 0 ++ ys) (drop_after xs (replicate (n - length xs) 0) (length xs) i refl ∙ drop-replicate i (n - length xs) 0)
    ∙ replicate-append-replicate k (n - length xs - i) 0 ∙ ap (λ j. replicate j 0) (omega arith) ∙ sym (padded_nil n)

-- a record with no list that is written anew, with any list
put_line : (k c k' c' a b : ℕ) (ws : List ℕ) → length ws ≤ 2044 →
    list_put (line k c 0 0 []) 0 (k' ∷ (c' ∷ (a ∷ (b ∷ ws)))) ≡ line k' c' a b ws
unfolding line
put_line k c k' c' a b ws h =
    ap (λ x. k' ∷ (c' ∷ (a ∷ (b ∷ x))))
    (ap (λ x. ws ++ drop (length ws) x) (padded_nil 2044) ∙ ap (λ x. ws ++ x) (drop-replicate (length ws) 2044 0)
    ∙ sym (padded_is 2044 ws h))

-- what is so of each record with no list is so of a bare entry's
bare_row : (P : List ℕ → Type 0) → ((k c : ℕ) → P (line k c 0 0 [])) → (x : Entry) → Bare x → P (row x)
unfolding row
bare_row P f free h = f 0 0
bare_row P f (cell x) h = absurd h
bare_row P f (thread x) h = absurd h
bare_row P f (top x) h = absurd h
bare_row P f (table x) h = absurd h
bare_row P f (held x) h = f 5 x.cell
bare_row P f (spare x) h = f 6 x.cell

pub row_begun : (x : Entry) (r : Record) → Bare x → NoCell r → list_put (row x) 0 (beginning r) ≡ row (fresh r)
row_begun x r h n =
    bare_row (λ y. list_put y 0 (beginning r) ≡ row (fresh r))
    (λ k c. line_begun k c r ∙ record_made r (λ t f q. subst NoCell q n)) x h

pub cell_begun : (x : Entry) (t : ℕ) (f : Phase) → Bare x →
    list_put (row x) 0 (beginning (rec.Cell t f) ++ running_hash []) ≡ row (fresh (rec.Cell t f))
unfolding row
cell_begun x t f h =
    let g : Record = rec.Cell t f in
    bare_row (λ y. list_put y 0 (beginning g ++ running_hash []) ≡ row (fresh g)) (λ k c. put_line k c _ _ _ _ _ (omega arith)) x h

-- what a record has a use for is inside it
pub used_few : (r : Record) → used r ≤ 2048
used_few rec.Free = omega arith
used_few (rec.Cell t f) = omega arith
used_few (rec.Thread c a u) = omega arith
used_few (rec.Top c) = omega arith
used_few (rec.Table c) = omega arith
used_few (rec.Held c) = omega arith
used_few (rec.Spare c) = omega arith

-- zeros put over all that a record has a use for
line_cleared : (k c a b n : ℕ) (ws : List ℕ) → length ws ≤ n → n ≤ 2044 →
    list_put (line k c a b ws) 0 (replicate (4 + n) 0) ≡ line 0 0 0 0 []
unfolding line
line_cleared k c a b n ws h g =
    let e : 4 + n ≡ suc (suc (suc (suc n))) = omega arith in
    ap (λ j. list_put (line k c a b ws) 0 (replicate j 0)) e ∙ ap (λ (x : List ℕ). 0 ∷ (0 ∷ (0 ∷ (0 ∷ x)))) (padded_cleared 2044 n ws h g)

pub row_cleared : (x : Entry) → FitsList x → list_put (row x) 0 (replicate (used (shown x)) 0) ≡ row free
unfolding row
row_cleared free h = line_cleared 0 0 0 0 0 [] (omega arith) (omega arith)
row_cleared (cell x) h = line_cleared 1 0 x.top (phase_number x.phase) 9 (running_hash x.measured) (omega arith) (omega arith)
row_cleared (thread x) h = line_cleared 2 x.cell x.start (bit x.under_way) 17 x.registers h (omega arith)
row_cleared (top x) h = line_cleared 3 x.cell 0 0 256 (map some_number x.tables) (simp length-map h) (omega arith)
row_cleared (table x) h = line_cleared 4 x.cell 0 0 1024 (map slot_number x.slots) (simp length-map h) (omega arith)
row_cleared (held x) h = line_cleared 5 x.cell 0 0 0 [] (omega arith) (omega arith)
row_cleared (spare x) h = line_cleared 6 x.cell 0 0 0 [] (omega arith) (omega arith)
