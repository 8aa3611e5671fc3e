-- Parts of lists, read and written.
use Rattle.std.proofs.Common.{◌≡◌, ℕ, zero, suc, ◌+◌, ◌-◌, ◌<◌, ◌≤◌, List, [], ◌∷◌, ◌++◌, map, length, get_or, take, drop, set, replicate, sym, refl, ap, ◌∙◌, append_assoc, add-zero, add-one, arith, length-append, length-drop, length-take, ◌*◌, ap₂, add_assoc}
use lib.ListN.{length-replicate}
use borrow.Rule.Slice.PartMut.{put_mid}
use Rattle.std.proofs.lemmas.List.{drop-drop, drop_at, get_or-take, get_or-drop, take_all, append-nil, take-append-le, drop-append-le, take-replicate, length-take-le, set-append_left, set_split, drop_all, take_more_set, map_more}
use Rattle.pages.specs.Layout.{padded}
use Rattle.pages.specs.Flat.{list_put, HasWords, page_in}
use Rattle.pages.specs.Rows.{number_at, numbers_at}

pub width : (a n : ℕ) → a + n - a ≡ n
width a n = omega arith

-- one more word read into an array by a loop
pub read_more : (f : ℕ → ℕ) (got ws : List ℕ) (i v : ℕ) → i < length got → i < length ws → take i got ≡ map f (take i ws) →
    v ≡ f (get_or ws i 0) → take (i + 1) (set got i v) ≡ map f (take (i + 1) ws)
read_more f got ws i v h g q e = take_more_set got i v h ∙ ap₂ (λ xs x. xs ++ x ∷ []) q e ∙ sym (map_more f ws i 0 g)

pub numbers_nth : (m : List ℕ) (p k n i : ℕ) → i < n → get_or (numbers_at m p k n) i 0 ≡ number_at m p (k + i)
numbers_nth m p k n i h =
    get_or-take n (drop (256 + p * 2048 + k) m) i 0 h ∙ get_or-drop (256 + p * 2048 + k) m i 0
    ∙ ap (λ j. get_or m j 0) (add_assoc (256 + p * 2048) k i)

pub length_numbers : (m : List ℕ) (p k n : ℕ) → 256 + p * 2048 + k + n ≤ length m → length (numbers_at m p k n) ≡ n
length_numbers m p k n h = simp (length-take, length-drop) (omega arith)

pub length_page : (all : List ℕ) (p : ℕ) → HasWords all p → length (page_in all p) ≡ 1024
length_page all p h = simp (length-take, length-drop) (omega arith)

-- what a write to a part of a slice leaves
pub part_put : (a k : ℕ) (m ys ws : List ℕ) → ys ≡ ws → k ≡ length ws → put_mid a k m ys ≡ list_put m a ws
part_put a k m ys ws q e = simp (q, e)

-- and zeros that fill one
pub part_zeros : (a n : ℕ) (m ys : List ℕ) → a + n ≤ length m → ys ≡ replicate (length (take (a + n - a) (drop a m))) 0 →
    put_mid a (a + n - a) m ys ≡ list_put m a (replicate n 0)
part_zeros a n m ys h q =
    let k : length (take (a + n - a) (drop a m)) ≡ n = simp (length-take, length-drop) (omega arith) in
    part_put a (a + n - a) m ys (replicate n 0) (q ∙ ap (λ i. replicate i 0) k) (width a n ∙ sym (length-replicate n 0))

pub length_put : (m : List ℕ) (i : ℕ) (ws : List ℕ) → i + length ws ≤ length m → length (list_put m i ws) ≡ length m
length_put m i ws h = simp (length-append, length-take, length-drop) (omega arith)

-- a list put behind a front, and before what follows
take_after : (xs ys : List ℕ) (k a : ℕ) → length xs ≡ k → take (k + a) (xs ++ ys) ≡ xs ++ take a ys
take_after [] ys k a q = ap (λ n. take n ys) (omega arith)
take_after (x ∷ xs) ys k a q =
    let e : k + a ≡ suc (length xs + a) = omega arith in
    ap (λ n. take n (x ∷ (xs ++ ys))) e ∙ ap (λ z. x ∷ z) (take_after xs ys (length xs) a refl)

pub drop_after : (xs ys : List ℕ) (k a : ℕ) → length xs ≡ k → drop (k + a) (xs ++ ys) ≡ drop a ys
drop_after xs ys k a q = sym (drop-drop a k (xs ++ ys)) ∙ ap (drop a) (drop_at xs ys k q)

pub put_after : (xs ys ws : List ℕ) (k a : ℕ) → length xs ≡ k → list_put (xs ++ ys) (k + a) ws ≡ xs ++ list_put ys a ws
put_after xs ys ws k a q = simp (take_after xs ys k a q, drop_after xs ys k a q, append_assoc)

pub put_before : (xs ys ws : List ℕ) (a : ℕ) → a + length ws ≤ length xs → list_put (xs ++ ys) a ws ≡ list_put xs a ws ++ ys
put_before xs ys ws a h =
    let t : take a (xs ++ ys) ≡ take a xs = take-append-le a xs ys (omega arith) in
    let d : drop a (xs ++ ys) ≡ drop a xs ++ ys = drop-append-le a xs ys (omega arith) in
    let e : drop (length ws) (drop a xs ++ ys) ≡ drop (length ws) (drop a xs) ++ ys =
    drop-append-le (length ws) (drop a xs) ys (simp length-drop (omega arith)) in
    simp (t, d, e, append_assoc)

-- a list put inside one that was put before
pub put_inside : (m ws vs : List ℕ) (i k : ℕ) → i ≤ length m → k + length vs ≤ length ws →
    list_put (list_put m i ws) (i + k) vs ≡ list_put m i (list_put ws k vs)
put_inside m ws vs i k h g =
    put_after (take i m) (ws ++ drop (length ws) (drop i m)) vs i k (length-take-le i m h)
    ∙ ap (λ x. take i m ++ x) (put_before ws (drop (length ws) (drop i m)) vs k g)
    ∙ ap (λ n. take i m ++ (list_put ws k vs ++ drop n (drop i m))) (sym (length_put ws k vs g))

pub length_padded : (n : ℕ) (xs : List ℕ) → length (padded n xs) ≡ n
unfolding padded
length_padded n xs = simp (length-take, length-append, length-replicate) (omega arith)

pub padded_nil : (n : ℕ) → padded n [] ≡ replicate n 0
unfolding padded
padded_nil n = take_all n (replicate n 0) (omega (arith, length-replicate {A = ℕ} n 0))

pub padded_is : (n : ℕ) (xs : List ℕ) → length xs ≤ n → padded n xs ≡ xs ++ replicate (n - length xs) 0
unfolding padded
padded_is n xs h =
    let e : n ≡ length xs + (n - length xs) = omega arith in
    ap (λ k. take k (xs ++ replicate n 0)) e ∙ take_after xs (replicate n 0) (length xs) (n - length xs) refl
    ∙ ap (λ ys. xs ++ ys) (take-replicate (n - length xs) n 0 (omega arith))

-- a padded list has what the list has, and zeros
nth_zero : (n j : ℕ) → ◌≡◌ {A = ℕ} (get_or (replicate n 0) j 0) 0
nth_zero zero j = refl
nth_zero (suc n) zero = refl
nth_zero (suc n) (suc j) = nth_zero n j

nth_before_zeros : (xs : List ℕ) (n j : ℕ) → get_or (xs ++ replicate n 0) j 0 ≡ get_or xs j 0
nth_before_zeros [] n j = nth_zero n j
nth_before_zeros (x ∷ xs) n zero = refl
nth_before_zeros (x ∷ xs) n (suc j) = nth_before_zeros xs n j

pub padded_nth : (n : ℕ) (xs : List ℕ) (j : ℕ) → j < n → get_or (padded n xs) j 0 ≡ get_or xs j 0
unfolding padded
padded_nth n xs j h = get_or-take n (xs ++ replicate n 0) j 0 h ∙ nth_before_zeros xs n j

pub padded_set : (n : ℕ) (xs : List ℕ) (j v : ℕ) → j < length xs → set (padded n xs) j v ≡ padded n (set xs j v)
unfolding padded
padded_set n xs j v h = set_take n (xs ++ replicate n 0) j v ∙ ap (take n) (set-append_left xs (replicate n 0) j v h)
  where
    set_take : (k : ℕ) (ys : List ℕ) (i w : ℕ) → set (take k ys) i w ≡ take k (set ys i w)
    set_take zero ys i w = refl
    set_take (suc k) [] i w = refl
    set_take (suc k) (y ∷ ys) zero w = refl
    set_take (suc k) (y ∷ ys) (suc i) w = ap (λ zs. y ∷ zs) (set_take k ys i w)

pub map_nth : {A : Type 0} (f : A → ℕ) (xs : List A) (j : ℕ) (d : A) → f d ≡ 0 → get_or (map f xs) j 0 ≡ f (get_or xs j d)
map_nth f [] j d q = sym q
map_nth f (x ∷ xs) zero d q = refl
map_nth f (x ∷ xs) (suc j) d q = map_nth f xs j d q

-- one number put is a list of one put
pub set_is_put : (m : List ℕ) (i v : ℕ) → i < length m → set m i v ≡ list_put m i (v ∷ [])
set_is_put m i v h =
    set_split m i v h ∙ ap (λ x. take i m ++ v ∷ x) (ap (λ k. drop k m) (sym (add-one i)) ∙ sym (drop-drop 1 i m))

-- a list put in the place of a whole one
pub put_whole : (xs ws : List ℕ) → length xs ≡ length ws → list_put xs 0 ws ≡ ws
put_whole xs ws q = ap (λ x. ws ++ x) (drop_all (length ws) xs (omega arith)) ∙ append-nil ws

-- a part behind a front, and before what follows
pub part_after : (xs ys : List ℕ) (k a n : ℕ) → length xs ≡ k → take n (drop (k + a) (xs ++ ys)) ≡ take n (drop a ys)
part_after xs ys k a n q = ap (take n) (drop_after xs ys k a q)

pub part_before : (xs ys : List ℕ) (a n : ℕ) → a + n ≤ length xs → take n (drop a (xs ++ ys)) ≡ take n (drop a xs)
part_before xs ys a n h =
    ap (take n) (drop-append-le a xs ys (omega arith)) ∙ take-append-le n (drop a xs) ys (simp length-drop (omega arith))

-- a number is a part of one
pub part_of_one : (m : List ℕ) (i : ℕ) → get_or m i 0 ≡ get_or (take 1 (drop i m)) 0 0
part_of_one m i = sym (get_or-take 1 (drop i m) 0 0 (omega arith) ∙ get_or-drop i m 0 0 ∙ ap (λ k. get_or m k 0) (add-zero i))
