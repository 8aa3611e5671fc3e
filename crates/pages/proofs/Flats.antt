-- Reads and writes of rows that stand one after another, whatever stands behind them.
use Rattle.std.proofs.Common.{◌≡◌, ℕ, zero, suc, ◌+◌, ◌*◌, ◌<◌, ◌≤◌, List, [], ◌∷◌, ◌++◌, length, get_or, take, drop, set, sym, ap, ◌∙◌, append_assoc, append-nil, add-zero, suc-mul, suc-add, zero-add, zero-mul, arith, length-append}
use Rattle.std.proofs.lemmas.List.{take_all, get_or_append_left, get_or-append-add, set-append_left}
use Rattle.std.proofs.ByRecursion.{All-get_or}
use Rattle.pages.specs.Flat.{flat, Wide, list_put, page_in, page_put}
use Rattle.pages.specs.Promises.{PagesWritten}
use Rattle.pages.proofs.Lists.{put_after, put_before, part_after, part_before, put_whole}

pub length_flat : (w : ℕ) (xs : List (List ℕ)) → Wide w xs → length (flat xs) ≡ length xs * w
unfolding flat
length_flat w [] h = omega (arith, zero-mul w)
length_flat w (x ∷ xs) h = omega (arith, length-append x (flat xs), h.0, length_flat w xs h.1, suc-mul (length xs) w)

pub flat_put : (w : ℕ) (xs : List (List ℕ)) (t : List ℕ) (p k : ℕ) (ws y : List ℕ) → Wide w xs → p < length xs → k + length ws ≤ w →
    list_put (get_or xs p []) k ws ≡ y → list_put (flat xs ++ t) (p * w + k) ws ≡ flat (set xs p y) ++ t
unfolding flat
flat_put w [] t p k ws y a h g q = absurd (omega arith)
flat_put w (x ∷ xs) t zero k ws y a h g q =
    let i : zero * w + k ≡ k = omega (arith, zero-mul w) in
    ap (λ n. list_put ((x ++ flat xs) ++ t) n ws) i ∙ ap (λ m. list_put m k ws) (append_assoc x (flat xs) t)
    ∙ put_before x (flat xs ++ t) ws k (omega (arith, a.0)) ∙ ap (λ z. z ++ (flat xs ++ t)) q ∙ sym (append_assoc y (flat xs) t)
flat_put w (x ∷ xs) t (suc p) k ws y a h g q =
    let i : suc p * w + k ≡ w + (p * w + k) = omega (arith, suc-mul p w) in
    ap (λ n. list_put ((x ++ flat xs) ++ t) n ws) i ∙ ap (λ m. list_put m (w + (p * w + k)) ws) (append_assoc x (flat xs) t)
    ∙ put_after x (flat xs ++ t) ws w (p * w + k) a.0
    ∙ ap (λ z. x ++ z) (flat_put w xs t p k ws y a.1 (omega arith) g q) ∙ sym (append_assoc x (flat (set xs p y)) t)

pub flat_part : (w : ℕ) (xs : List (List ℕ)) (t : List ℕ) (p k n : ℕ) → Wide w xs → p < length xs → k + n ≤ w →
    take n (drop (p * w + k) (flat xs ++ t)) ≡ take n (drop k (get_or xs p []))
unfolding flat
flat_part w [] t p k n a h g = absurd (omega arith)
flat_part w (x ∷ xs) t zero k n a h g =
    let i : zero * w + k ≡ k = omega (arith, zero-mul w) in
    ap (λ j. take n (drop j ((x ++ flat xs) ++ t))) i ∙ ap (λ m. take n (drop k m)) (append_assoc x (flat xs) t)
    ∙ part_before x (flat xs ++ t) k n (omega (arith, a.0))
flat_part w (x ∷ xs) t (suc p) k n a h g =
    let i : suc p * w + k ≡ w + (p * w + k) = omega (arith, suc-mul p w) in
    ap (λ j. take n (drop j ((x ++ flat xs) ++ t))) i ∙ ap (λ m. take n (drop (w + (p * w + k)) m)) (append_assoc x (flat xs) t)
    ∙ part_after x (flat xs ++ t) w (p * w + k) n a.0 ∙ flat_part w xs t p k n a.1 (omega arith) g

-- the words of pages, with nothing behind them
page_written : (cs : List (List ℕ)) (p : ℕ) (ws : List ℕ) → Wide 1024 cs → p < length cs → length ws ≡ 1024 →
    page_put (flat cs) p ws ≡ flat (set cs p ws)
page_written cs p ws a h n =
    ap (λ m. list_put m (p * 1024) ws) (sym (append-nil (flat cs))) ∙ ap (λ i. list_put (flat cs ++ []) i ws) (sym (add-zero (p * 1024)))
    ∙ flat_put 1024 cs [] p 0 ws ws a h (omega arith)
    (put_whole (get_or cs p []) ws (All-get_or (λ x. length x ≡ 1024) cs p [] h a ∙ sym n))
    ∙ append-nil (flat (set cs p ws))

page_read : (cs : List (List ℕ)) (p : ℕ) → Wide 1024 cs → p < length cs → page_in (flat cs) p ≡ get_or cs p []
page_read cs p a h =
    ap (λ m. take 1024 (drop (p * 1024) m)) (sym (append-nil (flat cs)))
    ∙ ap (λ i. take 1024 (drop i (flat cs ++ []))) (sym (add-zero (p * 1024)))
    ∙ flat_part 1024 cs [] p 0 1024 a h (omega arith)
    ∙ take_all 1024 (get_or cs p []) (omega (arith, All-get_or (λ x. length x ≡ 1024) cs p [] h a))

pub pages_written : PagesWritten
pages_written = record {
  long = λ cs a. length_flat 1024 cs a;
  there = λ cs p a h. omega (arith, length_flat 1024 cs a);
  read = page_read;
  put = page_written;
}

-- One number of a row, read and written.
set_after : (xs ys : List ℕ) (n v : ℕ) → set (xs ++ ys) (length xs + n) v ≡ xs ++ set ys n v
set_after [] ys n v = ap (λ i. set ys i v) (zero-add n)
set_after (x ∷ xs) ys n v = ap (λ i. set (x ∷ (xs ++ ys)) i v) (suc-add (length xs) n) ∙ ap (λ z. x ∷ z) (set_after xs ys n v)

pub flat_nth : (w : ℕ) (xs : List (List ℕ)) (p n : ℕ) → Wide w xs → p < length xs → n < w →
    get_or (flat xs) (p * w + n) 0 ≡ get_or (get_or xs p []) n 0
unfolding flat
flat_nth w [] p n a h g = absurd (omega arith)
flat_nth w (x ∷ xs) zero n a h g =
    ap (λ i. get_or (x ++ flat xs) i 0) (omega (arith, zero-mul w)) ∙ get_or_append_left x (flat xs) 0 n (omega (arith, g, a.0))
flat_nth w (x ∷ xs) (suc p) n a h g =
    let i : suc p * w + n ≡ length x + (p * w + n) = omega (arith, suc-mul p w, a.0) in
    ap (λ j. get_or (x ++ flat xs) j 0) i ∙ get_or-append-add x (flat xs) (p * w + n) 0 ∙ flat_nth w xs p n a.1 (omega arith) g

pub flat_set : (w : ℕ) (xs : List (List ℕ)) (p n v : ℕ) → Wide w xs → p < length xs → n < w →
    set (flat xs) (p * w + n) v ≡ flat (set xs p (set (get_or xs p []) n v))
unfolding flat
flat_set w [] p n v a h g = absurd (omega arith)
flat_set w (x ∷ xs) zero n v a h g =
    ap (λ i. set (x ++ flat xs) i v) (omega (arith, zero-mul w)) ∙ set-append_left x (flat xs) n v (omega (arith, g, a.0))
flat_set w (x ∷ xs) (suc p) n v a h g =
    let i : suc p * w + n ≡ length x + (p * w + n) = omega (arith, suc-mul p w, a.0) in
    ap (λ j. set (x ++ flat xs) j v) i ∙ set_after x (flat xs) (p * w + n) v
    ∙ ap (λ z. x ++ z) (flat_set w xs p n v a.1 (omega arith) g)
