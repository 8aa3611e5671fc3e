-- Records of pages, and what a write into one makes of it.
use Rattle.std.proofs.Common.{◌≡◌, ℕ, zero, suc, ◌+◌, ◌-◌, ◌*◌, ◌<◌, ◌≤◌, List, [], ◌∷◌, ◌++◌, map, length, get_or, take, drop, set, replicate, None, sym, refl, ap, ◌∙◌, subst, arith}
use Rattle.std.proofs.lemmas.List.{take-replicate, drop-replicate, replicate-append-replicate, drop_at}
use Rattle.model.specs.Pages.{Entry, free, cell, thread, top, table, held, spare, nothing, phase_number}
use Rattle.pages.specs.Layout.{padded, line, row, running_hash}
use Rattle.pages.specs.Packing.{bit, some_number, slot_number}
use Rattle.pages.specs.Flat.{list_put}
use Rattle.pages.specs.Rows.{numbers_put, row_put, HasPage}
use Rattle.pages.specs.Meaning.{beginning, fresh, phase_of}
use Rattle.pages.specs.declared.values.Phase.{Phase}
use Rattle.pages.specs.declared.values.Record.{Record}
use Rattle.pages.specs.declared.values.Record.TheVariants as rec
use Rattle.pages.proofs.Lists.{length_padded, padded_nil, padded_is, padded_set, padded_nth, put_inside}

pub length_line : (k c a b : ℕ) (ws : List ℕ) → length (line k c a b ws) ≡ 2048
unfolding line
length_line k c a b ws = simp length_padded

pub length_row : (x : Entry) → length (row x) ≡ 2048
unfolding row
length_row free = length_line _ _ _ _ _
length_row (cell x) = length_line _ _ _ _ _
length_row (thread x) = length_line _ _ _ _ _
length_row (top x) = length_line _ _ _ _ _
length_row (table x) = length_line _ _ _ _ _
length_row (held x) = length_line _ _ _ _ _
length_row (spare x) = length_line _ _ _ _ _

-- a free page's record is zeros
pub zeros_free : replicate 2048 0 ≡ row free
unfolding row line
zeros_free = ap (λ (x : List ℕ). 0 ∷ (0 ∷ (0 ∷ (0 ∷ x)))) (sym (padded_nil 2044))

-- four numbers put into a record with no list
put_four : (k c k' c' a b : ℕ) → list_put (line k c 0 0 []) 0 (k' ∷ (c' ∷ (a ∷ (b ∷ [])))) ≡ line k' c' a b []
unfolding line
put_four k c k' c' a b = refl

-- a list put behind them
pub put_list : (k c a b : ℕ) (ws : List ℕ) → length ws ≤ 2044 → list_put (line k c a b []) 4 ws ≡ line k c a b ws
unfolding line
put_list k c a b ws h =
    ap (λ x. k ∷ (c ∷ (a ∷ (b ∷ x))))
    (ap (λ x. ws ++ drop (length ws) x) (padded_nil 2044) ∙ ap (λ x. ws ++ x) (drop-replicate (length ws) 2044 0)
    ∙ sym (padded_is 2044 ws h))

-- zeros at the end of a list make no difference
map_replicate : {A : Type 0} (f : A → ℕ) (n : ℕ) (x : A) → map f (replicate n x) ≡ replicate n (f x)
map_replicate f zero x = refl
map_replicate f (suc n) x = ap (λ (ws : List ℕ). f x ∷ ws) (map_replicate f n x)

padded_zeros : (n k : ℕ) → padded n (replicate k 0) ≡ padded n []
unfolding padded
padded_zeros n k =
    ap (take n) (replicate-append-replicate k n 0) ∙ take-replicate n (k + n) 0 (omega arith) ∙ sym (take-replicate n n 0 (omega arith))

line_zeros : (k c a b n : ℕ) (ws : List ℕ) → ws ≡ replicate n 0 → line k c a b [] ≡ line k c a b ws
unfolding line
line_zeros k c a b n ws q = ap (λ x. k ∷ (c ∷ (a ∷ (b ∷ x)))) (sym (ap (padded 2044) q ∙ padded_zeros 2044 n))

-- what a page that becomes something has, but for a cell's running hash
abbrev pub blank : Record → List ℕ
blank rec.Free = line 0 0 0 0 []
blank (rec.Cell t f) = line 1 0 t (phase_number (phase_of f)) []
blank (rec.Thread c a u) = line 2 c a (bit u) []
blank (rec.Top c) = line 3 c 0 0 []
blank (rec.Table c) = line 4 c 0 0 []
blank (rec.Held c) = line 5 c 0 0 []
blank (rec.Spare c) = line 6 c 0 0 []

pub line_begun : (k c : ℕ) (r : Record) → list_put (line k c 0 0 []) 0 (beginning r) ≡ blank r
line_begun k c rec.Free = put_four _ _ _ _ _ _
line_begun k c (rec.Cell t f) = put_four _ _ _ _ _ _
line_begun k c (rec.Thread d a u) = put_four _ _ _ _ _ _
line_begun k c (rec.Top d) = put_four _ _ _ _ _ _
line_begun k c (rec.Table d) = put_four _ _ _ _ _ _
line_begun k c (rec.Held d) = put_four _ _ _ _ _ _
line_begun k c (rec.Spare d) = put_four _ _ _ _ _ _

free_begun : (r : Record) → list_put (row free) 0 (beginning r) ≡ blank r
unfolding row
free_begun r = line_begun 0 0 r

pub few : (r : Record) → length (beginning r) ≡ 4
few rec.Free = refl
few (rec.Cell t f) = refl
few (rec.Thread c a u) = refl
few (rec.Top c) = refl
few (rec.Table c) = refl
few (rec.Held c) = refl
few (rec.Spare c) = refl

pub record_begun : (m : List ℕ) (p : ℕ) (r : Record) → HasPage m p →
    numbers_put (row_put m p (row free)) p 0 (beginning r) ≡ row_put m p (blank r)
record_begun m p r h =
    put_inside m (row free) (beginning r) (256 + p * 2048) 0 (omega arith) (omega (arith, few r, length_row free))
    ∙ ap (row_put m p) (free_begun r)

pub record_made : (r : Record) → ((t : ℕ) (f : Phase) → r ≡ rec.Cell t f → ⊥) → blank r ≡ row (fresh r)
unfolding row
record_made rec.Free n = refl
record_made (rec.Cell t f) n = absurd (n t f refl)
record_made (rec.Thread c a u) n = line_zeros 2 c a (bit u) 17 _ refl
record_made (rec.Top c) n = line_zeros 3 c 0 0 256 _ (map_replicate some_number 256 None)
record_made (rec.Table c) n = line_zeros 4 c 0 0 1024 _ (map_replicate slot_number 1024 nothing)
record_made (rec.Held c) n = refl
record_made (rec.Spare c) n = refl

pub cell_made : (m : List ℕ) (p t : ℕ) (f : Phase) (r : Record) (ws : List ℕ) → HasPage m p → r ≡ rec.Cell t f → ws ≡ running_hash [] →
    numbers_put (row_put m p (blank r)) p 4 ws ≡ row_put m p (row (fresh r))
unfolding row
cell_made m p t f r ws h e q =
    let P : Record → Type 0 = λ x. numbers_put (row_put m p (blank x)) p 4 ws ≡ row_put m p (row (fresh x)) in
    subst P (sym e)
    (ap (numbers_put (row_put m p (blank (rec.Cell t f))) p 4) q
    ∙ put_inside m (blank (rec.Cell t f)) (running_hash []) (256 + p * 2048) 4 (omega arith)
    (omega (arith, length_line 1 0 t (phase_number (phase_of f)) []))
    ∙ ap (row_put m p) (put_list 1 0 t (phase_number (phase_of f)) (running_hash []) (omega arith)))

-- a list put over one that is as long, and one number of it
pub put_over : (k c a b : ℕ) (ws vs : List ℕ) → length ws ≡ length vs → length ws ≤ 2044 →
    list_put (line k c a b ws) 4 vs ≡ line k c a b vs
unfolding line
put_over k c a b ws vs q h =
    ap (λ x. k ∷ (c ∷ (a ∷ (b ∷ x))))
    (ap (λ x. vs ++ drop (length vs) x) (padded_is 2044 ws h)
    ∙ ap (λ x. vs ++ x) (drop_at ws (replicate (2044 - length ws) 0) (length vs) q)
    ∙ ap (λ n. vs ++ replicate (2044 - n) 0) q ∙ sym (padded_is 2044 vs (omega arith)))

pub set_listed : (k c a b : ℕ) (ws : List ℕ) (j v : ℕ) → j < length ws → set (line k c a b ws) (4 + j) v ≡ line k c a b (set ws j v)
unfolding line
set_listed k c a b ws j v h =
    let e : 4 + j ≡ suc (suc (suc (suc j))) = omega arith in
    ap (λ i. set (k ∷ (c ∷ (a ∷ (b ∷ padded 2044 ws)))) i v) e ∙ ap (λ x. k ∷ (c ∷ (a ∷ (b ∷ x)))) (padded_set 2044 ws j v h)

pub listed_nth : (k c a b : ℕ) (ws : List ℕ) (j : ℕ) → j < 2044 → get_or (line k c a b ws) (4 + j) 0 ≡ get_or ws j 0
unfolding line
listed_nth k c a b ws j h =
    let e : 4 + j ≡ suc (suc (suc (suc j))) = omega arith in
    ap (λ i. get_or (k ∷ (c ∷ (a ∷ (b ∷ padded 2044 ws)))) i 0) e ∙ padded_nth 2044 ws j h
