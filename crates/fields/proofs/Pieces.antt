-- The pieces of which shapes are made keep their promises.
use Rattle.std.proofs.Common.{◌≡◌, ℕ, zero, suc, ◌+◌, ◌-◌, ◌*◌, ◌/◌, ◌%◌, ◌^◌, ◌<◌, ◌≤◌, Bool, true, false, List, [], ◌∷◌, ◌++◌, length, get_or, take, drop, replicate, sym, refl, ap, ◌∙◌, subst, ⊎_elim, append_assoc, append-nil, arith, length-append, length-drop, le-leb}
use borrow.Author.Tests.{lt-leb}
use lib.ListN.{length-replicate}
use Rattle.std.specs.List.{AllByRecursion}
use Rattle.std.proofs.lemmas.Bool.{cases_lt, cases_Bool}
use Rattle.std.proofs.ByRecursion.{All-append, All-drop}
use Rattle.std.proofs.lemmas.List.{drop_at, take_all, drop-drop, drop_more, drop_all}
use Rattle.fields.specs.Bytes.{Bytes, Wide, number_bytes, number_in, numbers_bytes, numbers_in}
use Rattle.fields.specs.Codec.{Got, got, lost, nothing, read_byte, byte, numbers, Begins}
use Rattle.fields.proofs.Lists.{begins_none, all_parts}
use Rattle.fields.proofs.Lawful.{Lawful, Reached, clash}

pub lawful_nothing : {A : Type 0} (a : A) → Lawful (nothing a)
lawful_nothing a = record {
  back = λ v rest f. rw f refl;
  only = λ bs v rest t e. (cc, cc);
  reached = λ bs r t e. clash a bs r e;
  no_more = λ bs r t e. clash a bs r e;
}

-- a byte of which 0 passes the test, so that there is one
byte_back : (test : ℕ → Bool) (b : ℕ) (rest : List ℕ) → test b ≡ true → read_byte test (b ∷ rest) ≡ got b rest
byte_back test b rest f = rw f refl

byte_only : (test : ℕ → Bool) (bs : List ℕ) (v : ℕ) (rest : List ℕ) → read_byte test bs ≡ got v rest → (test v ≡ true) × (bs ≡ v ∷ rest)
byte_only test [] v rest e = clash v rest 0 (sym e)
byte_only test (b ∷ bs) v rest e =
    ⊎_elim
    (λ y. let g : got b bs ≡ got v rest = rw y at e in let bv : b ≡ v = cc in (rw bv at y, cc))
    (λ n. clash v rest _ (sym (rw n at e)))
    (cases_Bool (test b))

-- no byte that passes begins as one that does not
refused_byte : (test : ℕ → Bool) (b : ℕ) (bs : List ℕ) → test b ≡ false → (v : ℕ) (more : List ℕ) (j : ℕ) → test v ≡ true →
    j ≤ length (b ∷ bs) → Begins (take j (b ∷ bs)) (v ∷ more) → j ≡ 0
refused_byte test b bs n v more zero f h g = refl
refused_byte test b bs n v more (suc j) f h g =
    let e : v ∷ more ≡ b ∷ (take j bs ++ g.0) = g.1 in
    let s : v ≡ b = cc in
    let z : true ≡ false = sym f ∙ ap test s ∙ n in
    let w : ◌≡◌ {A = ℕ} 0 1 = cc in
    omega arith

byte_lost : (test : ℕ → Bool) (bs : List ℕ) (r : ℕ) → read_byte test bs ≡ lost r → (r ≡ length bs) × ((v : ℕ) (more : List ℕ) (j : ℕ) →
    test v ≡ true → j ≤ length bs → Begins (take j bs) (v ∷ more) → j ≡ 0)
byte_lost test [] r e = (cc, λ v more j f h b. omega arith)
byte_lost test (b ∷ bs) r e =
    ⊎_elim
    (λ y. clash b bs r (rw y at e))
    (λ n. let l : ◌≡◌ {A = Got ℕ} (lost (suc (length bs))) (lost r) = rw n at e in (cc, refused_byte test b bs n))
    (cases_Bool (test b))

pub lawful_byte : (test : ℕ → Bool) → test 0 ≡ true → Lawful (byte test)
lawful_byte test zero-passes = record {
  back = byte_back test;
  only = λ bs v rest t e. byte_only test bs v rest e;
  reached = λ bs r t e. (0, 0, omega (arith, (byte_lost test bs r e).0), zero-passes, begins_none _);
  no_more = λ bs r t e v more j f h b.
      let z = (byte_lost test bs r e).1 v more j f h b in omega (arith, (byte_lost test bs r e).0);
}

-- a number and its eight bytes
number_back : (n : ℕ) (rest : List ℕ) → n < 2 ^ 64 → number_in (number_bytes n ++ rest) ≡ n
number_back n rest h = omega arith

front_number : (a b c d e f g h : ℕ) → AllByRecursion (λ b. b < 256) (a ∷ (b ∷ (c ∷ (d ∷ (e ∷ (f ∷ (g ∷ (h ∷ [])))))))) →
    number_bytes (a + b * 256 + c * 256 ^ 2 + d * 256 ^ 3 + e * 256 ^ 4 + f * 256 ^ 5 + g * 256 ^ 6 + h * 256 ^ 7)
    ≡ a ∷ (b ∷ (c ∷ (d ∷ (e ∷ (f ∷ (g ∷ (h ∷ [])))))))
front_number a b c d e f g h t =
    let n : ℕ = a + b * 256 + c * 256 ^ 2 + d * 256 ^ 3 + e * 256 ^ 4 + f * 256 ^ 5 + g * 256 ^ 6 + h * 256 ^ 7 in
    let e0 : n % 256 ≡ a = omega arith in
    let q1 : n / 256 ≡ b + c * 256 + d * 256 ^ 2 + e * 256 ^ 3 + f * 256 ^ 4 + g * 256 ^ 5 + h * 256 ^ 6 = omega arith in
    let e1 : n / 256 % 256 ≡ b = rw q1 (omega arith) in
    let q2 : n / 256 ^ 2 ≡ c + d * 256 + e * 256 ^ 2 + f * 256 ^ 3 + g * 256 ^ 4 + h * 256 ^ 5 = omega arith in
    let e2 : n / 256 ^ 2 % 256 ≡ c = rw q2 (omega arith) in
    let q3 : n / 256 ^ 3 ≡ d + e * 256 + f * 256 ^ 2 + g * 256 ^ 3 + h * 256 ^ 4 = omega arith in
    let e3 : n / 256 ^ 3 % 256 ≡ d = rw q3 (omega arith) in
    let q4 : n / 256 ^ 4 ≡ e + f * 256 + g * 256 ^ 2 + h * 256 ^ 3 = omega arith in
    let e4 : n / 256 ^ 4 % 256 ≡ e = rw q4 (omega arith) in
    let q5 : n / 256 ^ 5 ≡ f + g * 256 + h * 256 ^ 2 = omega arith in
    let e5 : n / 256 ^ 5 % 256 ≡ f = rw q5 (omega arith) in
    let q6 : n / 256 ^ 6 ≡ g + h * 256 = omega arith in
    let e6 : n / 256 ^ 6 % 256 ≡ g = rw q6 (omega arith) in
    let q7 : n / 256 ^ 7 ≡ h = omega arith in
    let e7 : n / 256 ^ 7 % 256 ≡ h = rw q7 (omega arith) in
    rw (e0, e1, e2, e3, e4, e5, e6, e7) refl

-- the first eight bytes, one by one
abbrev front : List ℕ → List ℕ
front bs = get_or bs 0 0 ∷ (get_or bs 1 0 ∷ (get_or bs 2 0
    ∷ (get_or bs 3 0 ∷ (get_or bs 4 0 ∷ (get_or bs 5 0 ∷ (get_or bs 6 0 ∷ (get_or bs 7 0 ∷ [])))))))

eight : (bs : List ℕ) → 8 ≤ length bs → bs ≡ front bs ++ drop 8 bs
eight bs h =
    let next : (k : ℕ) → k < 8 → drop k bs ≡ get_or bs k 0 ∷ drop (k + 1) bs = λ k l. drop_more bs k 0 (omega arith) in
    next 0 (omega arith) ∙ ap (λ t. get_or bs 0 0 ∷ t) (next 1 (omega arith) ∙ ap (λ t. get_or bs 1 0 ∷ t) (next 2 (omega arith)
    ∙ ap (λ t. get_or bs 2 0 ∷ t) (next 3 (omega arith) ∙ ap (λ t. get_or bs 3 0 ∷ t) (next 4 (omega arith)
    ∙ ap (λ t. get_or bs 4 0 ∷ t) (next 5 (omega arith) ∙ ap (λ t. get_or bs 5 0 ∷ t) (next 6 (omega arith)
    ∙ ap (λ t. get_or bs 6 0 ∷ t) (next 7 (omega arith))))))))

number_front : (bs : List ℕ) → Bytes bs → 8 ≤ length bs → (number_bytes (number_in bs) ++ drop 8 bs ≡ bs) × (number_in bs < 2 ^ 64)
number_front bs t h =
    let t8 : Bytes (front bs) = (all_parts _ (front bs) (drop 8 bs) (subst Bytes (eight bs h) t)).0 in
    (ap (λ x. x ++ drop 8 bs) (front_number _ _ _ _ _ _ _ _ t8) ∙ sym (eight bs h), omega arith)

pub length_numbers_bytes : (ns : List ℕ) → length (numbers_bytes ns) ≡ 8 * length ns
unfolding numbers_bytes
length_numbers_bytes [] = refl
length_numbers_bytes (n ∷ ns) = let ih = length_numbers_bytes ns in omega arith

pub length_numbers_in : (n : ℕ) (bs : List ℕ) → length (numbers_in n bs) ≡ n
unfolding numbers_in
length_numbers_in zero bs = refl
length_numbers_in (suc n) bs = ap suc (length_numbers_in n (drop 8 bs))

pub numbers_again : (ns rest : List ℕ) → Wide ns → numbers_in (length ns) (numbers_bytes ns ++ rest) ≡ ns
unfolding numbers_bytes numbers_in
numbers_again [] rest h = refl
numbers_again (n ∷ ns) rest h = rw (number_back n (numbers_bytes ns ++ rest) h.0, numbers_again ns rest h.1) refl

pub numbers_front : (n : ℕ) (bs : List ℕ) → Bytes bs → 8 * n ≤ length bs →
    (numbers_bytes (numbers_in n bs) ++ drop (8 * n) bs ≡ bs) × Wide (numbers_in n bs)
unfolding numbers_bytes numbers_in
numbers_front zero bs t h = (refl, tt)
numbers_front (suc n) bs t h =
    let f = number_front bs t (omega arith) in
    let l : 8 * n ≤ length (drop 8 bs) = rw length-drop (omega arith) in
    let ih = numbers_front n (drop 8 bs) (All-drop _ 8 bs t) l in
    let e : 8 + 8 * n ≡ 8 * suc n = omega arith in
    let d : drop (8 * n) (drop 8 bs) ≡ drop (8 * suc n) bs = drop-drop (8 * n) 8 bs ∙ ap (λ k. drop k bs) e in (
      append_assoc (number_bytes (number_in bs)) (numbers_bytes (numbers_in n (drop 8 bs))) (drop (8 * suc n) bs)
          ∙ ap (λ x. number_bytes (number_in bs) ++ (numbers_bytes (numbers_in n (drop 8 bs)) ++ x)) (sym d)
          ∙ ap (λ x. number_bytes (number_in bs) ++ x) ih.0 ∙ f.0,
      (f.1, ih.1),
    )

numbers_back : (n : ℕ) (ns rest : List ℕ) → (length ns ≡ n) × Wide ns → (numbers n).read (numbers_bytes ns ++ rest) ≡ got ns rest
numbers_back n ns rest f =
    let l : length (numbers_bytes ns) ≡ 8 * n = length_numbers_bytes ns ∙ ap (λ k. 8 * k) f.0 in
    let h : 8 * n ≤ length (numbers_bytes ns ++ rest) = rw length-append (omega arith) in
    let v : numbers_in n (numbers_bytes ns ++ rest) ≡ ns = ap (λ k. numbers_in k (numbers_bytes ns ++ rest)) (sym f.0)
    ∙ numbers_again ns rest f.1 in
    rw (le-leb (8 * n) _ h, v, drop_at (numbers_bytes ns) rest (8 * n) l) refl

numbers_only : (n : ℕ) (bs ns rest : List ℕ) → Bytes bs → (numbers n).read bs ≡ got ns rest →
    ((length ns ≡ n) × Wide ns) × (bs ≡ numbers_bytes ns ++ rest)
numbers_only n bs ns rest t e =
    ⊎_elim
    (λ short. clash ns rest 0 (sym (rw (lt-leb (8 * n) (length bs) short) at e)))
    (λ long.
    let g : got (numbers_in n bs) (drop (8 * n) bs) ≡ got ns rest = rw (le-leb (8 * n) (length bs) long) at e in
    let f = numbers_front n bs t long in
    let v : numbers_in n bs ≡ ns = cc in
    let r : drop (8 * n) bs ≡ rest = cc in (
      (ap length (sym v) ∙ length_numbers_in n bs, subst Wide v f.1),
      sym f.0 ∙ ap (λ x. numbers_bytes x ++ drop (8 * n) bs) v
          ∙ ap (λ x. numbers_bytes ns ++ x) r,
    ))
    (cases_lt (length bs) (8 * n))

numbers_lost : (n : ℕ) (bs : List ℕ) (r : ℕ) → (numbers n).read bs ≡ lost r → (r ≡ 0) × (length bs < 8 * n)
numbers_lost n bs r e =
    ⊎_elim
    (λ short. let g : ◌≡◌ {A = Got (List ℕ)} (lost 0) (lost r) = rw (lt-leb (8 * n) (length bs) short) at e in (cc, short))
    (λ long. clash (numbers_in n bs) (drop (8 * n) bs) r (rw (le-leb (8 * n) (length bs) long) at e))
    (cases_lt (length bs) (8 * n))

zero_bytes : (n : ℕ) → Bytes (replicate n 0)
zero_bytes zero = tt
zero_bytes (suc n) = (omega arith, zero_bytes n)

-- bytes that are too few begin as those of the numbers that zeros complete them to
numbers_reached : (n : ℕ) (bs : List ℕ) (r : ℕ) → Bytes bs → (numbers n).read bs ≡ lost r → Reached (numbers n) bs r
numbers_reached n bs r t e =
    let l = numbers_lost n bs r e in
    let zs : List ℕ = replicate (8 * n - length bs) 0 in
    let lz : length zs ≡ 8 * n - length bs = length-replicate (8 * n - length bs) 0 in
    let la : length (bs ++ zs) ≡ 8 * n = length-append bs zs ∙ omega (arith, l.1) in
    let f = numbers_front n (bs ++ zs) (All-append _ bs zs t (zero_bytes _)) (omega arith) in
    let none : drop (8 * n) (bs ++ zs) ≡ [] = drop_all (8 * n) (bs ++ zs) (omega arith) in
    let w : numbers_bytes (numbers_in n (bs ++ zs)) ≡ bs ++ zs =
    sym (append-nil _) ∙ ap (λ x. numbers_bytes (numbers_in n (bs ++ zs)) ++ x) (sym none) ∙ f.0 in (
      numbers_in n (bs ++ zs),
      length bs,
      omega (arith, l.0),
      (length_numbers_in n (bs ++ zs), f.1),
      (zs, w ∙ ap (λ x. x ++ zs) (sym (take_all (length bs) bs (omega arith)))),
    )

pub lawful_numbers : (n : ℕ) → Lawful (numbers n)
lawful_numbers n = record {
  back = numbers_back n;
  only = numbers_only n;
  reached = numbers_reached n;
  no_more = λ bs r t e v more j f h b. omega (arith, (numbers_lost n bs r e).0);
}
