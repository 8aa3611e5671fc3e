-- Numbers that are words, one by one.
use Rattle.std.proofs.Common.{◌≡◌, ℕ, zero, suc, ◌+◌, ◌<◌, Bool, true, false, ◌&&◌, List, [], ◌∷◌, ◌++◌, length, take, drop, set, Some, None, Ok, Err, Result, sym, refl, ap, ◌∙◌, add-one, arith, lt-ltb, le-ltb}
use Rattle.std.specs.List.{slice_get}
use Rattle.std.specs.Result.{OkIff, result_ok}
use Rattle.std.proofs.lemmas.List.{take_more_set, drop_more, length-drop}
use Rattle.std.proofs.lemmas.Option.{slice_get-get_or}
use Rattle.std.proofs.lemmas.Bool.{and_parts, and_from}
use Rattle.model.specs.State.{word, all_words}

pub and_false : (a b : Bool) → b ≡ false → (a && b) ≡ false
and_false true b h = h
and_false false b h = refl

false_and : (a b : Bool) → a ≡ false → (a && b) ≡ false
false_and a b h = rw h refl

pub one_wide : (ns : List ℕ) (i n : ℕ) → slice_get ns i ≡ Some n → word n ≡ false → all_words ns ≡ false
unfolding all_words
one_wide [] i n e h = absurd (let z : ◌≡◌ {A = ℕ} 0 1 = cc in omega arith)
one_wide (x ∷ ns) zero n e h = let q : x ≡ n = cc in false_and (word x) (all_words ns) (ap word q ∙ h)
one_wide (x ∷ ns) (suc i) n e h = and_false (word x) (all_words ns) (one_wide ns i n e h)

-- one more
more : (ns : List ℕ) (i n : ℕ) → slice_get ns i ≡ Some n → take (suc i) ns ≡ take i ns ++ (n ∷ [])
more [] i n e = absurd (let z : ◌≡◌ {A = ℕ} 0 1 = cc in omega arith)
more (x ∷ ns) zero n e = let q : x ≡ n = cc in ap (λ (y : ℕ). y ∷ []) q
more (x ∷ ns) (suc i) n e = ap (λ (ys : List ℕ). x ∷ ys) (more ns i n e)

all_append : (xs : List ℕ) (n : ℕ) → all_words xs ≡ true → word n ≡ true → all_words (xs ++ (n ∷ [])) ≡ true
unfolding all_words
all_append [] n h g = and_from (word n) true g refl
all_append (x ∷ xs) n h g =
    let a = and_parts (word x) (all_words xs) h in and_from (word x) (all_words (xs ++ (n ∷ []))) a.0 (all_append xs n a.1 g)

pub words_more : (ns : List ℕ) (i n : ℕ) → slice_get ns i ≡ Some n → word n ≡ true → all_words (take i ns) ≡ true →
    all_words (take (i + 1) ns) ≡ true
words_more ns i n e h g =
    ap (λ k. all_words (take k ns)) (add-one i) ∙ ap all_words (more ns i n e) ∙ all_append (take i ns) n g h

pub read_more : (got ns : List ℕ) (i n : ℕ) → i < length got → slice_get ns i ≡ Some n → take i got ≡ take i ns →
    take (i + 1) (set got i n) ≡ take (i + 1) ns
read_more got ns i n h e q =
    take_more_set got i n h ∙ ap (λ xs. xs ++ (n ∷ [])) q ∙ sym (ap (λ k. take k ns) (add-one i) ∙ more ns i n e)

-- the first of those from i on
pub next_is : (ns : List ℕ) (i n : ℕ) (rest : List ℕ) → drop i ns ≡ n ∷ rest → (slice_get ns i ≡ Some n) × (rest ≡ drop (i + 1) ns)
next_is ns i n rest h =
    let long : i < length ns = omega (arith, ap length h, length-drop i ns) in
    let here = sym (drop_more ns i n long) ∙ h in
    (slice_get-get_or ns i n long ∙ ap Some (grind (arith, here)), grind (arith, here))

-- a number that is a word, or not, by the conversion
pub is_word : {E : Type 0} (r : Result ℕ E) (n w : ℕ) → OkIff r (n < 4294967296) n → Some w ≡ result_ok r → (w ≡ n) × (word n ≡ true)
is_word (Ok x) n w h e = let q : w ≡ x = cc in (q ∙ h.1, lt-ltb _ _ h.0)
is_word (Err e) n w h q = absurd (grind (arith, q))

pub no_word : {E : Type 0} (r : Result ℕ E) (n : ℕ) → OkIff r (n < 4294967296) n → None ≡ result_ok r → word n ≡ false
no_word (Ok x) n h q = absurd (grind (arith, q))
no_word (Err e) n h q = le-ltb _ _ (omega (arith, h))
