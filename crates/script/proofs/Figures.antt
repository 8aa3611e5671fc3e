-- How words are numbers.
use Rattle.std.proofs.Common.{◌≡◌, ℕ, ◌+◌, ◌-◌, ◌*◌, ◌^◌, ◌<◌, ◌≤◌, true, ◌&&◌, eqb, ltb, leb, List, [], ◌∷◌, length, get_or, Some, None, decimal, Option, sym, refl, ap, ◌∙◌, ⊎_elim, subst, arith, rules, ltb-true, lt-ltb, eq-eqb, ne_eqb, eqb-true}
use borrow.Author.Tests.{eqb-false}
use Rattle.std.specs.Str.{all_ascii_digits}
use Rattle.std.proofs.lemmas.Str.Parse.{IsNumeralModel, numerals_by_fold}
use Rattle.std.proofs.lemmas.Fmt.{decimal_digit, decimal_nonempty, first_decimal, digits_decimal, digits_value-decimal, decimal-digits_value}
use Rattle.std.proofs.lemmas.Bool.{and_parts, and_from, cases_Bool, cases_eq}
use Rattle.script.specs.Numerals.{digits_on, zero_alone, number_of}

-- a word by its first byte
pub number_none : (w : List ℕ) → length w ≡ 0 → number_of w ≡ None
unfolding number_of
number_none [] h = refl
number_none (c ∷ cs) h = absurd (omega arith)

pub number_leading : (w : List ℕ) → 1 < length w → get_or w 0 0 ≡ 48 → number_of w ≡ None
unfolding number_of
number_leading [] h e = absurd (omega arith)
number_leading (c ∷ []) h e = absurd (omega arith)
number_leading (c ∷ (d ∷ cs)) h e = rw (eq-eqb c 48 e) refl

zero_back : number_of (48 ∷ []) ≡ Some 0
unfolding number_of
zero_back = refl

zero_digit : (c : ℕ) → number_of (c ∷ []) ≡ digits_on 0 (c ∷ [])
unfolding number_of
zero_digit c = ⊎_elim (λ e. let P : ℕ → Type 0 = λ d. number_of (d ∷ []) ≡ digits_on 0 (d ∷ []) in subst P (sym e) refl)
    (λ n. rw (ne_eqb c 48 n) refl)
    (cases_eq c 48)

pub number_digits : (w : List ℕ) → 0 < length w → (1 < length w → get_or w 0 0 ≡ 48 → ⊥) → number_of w ≡ digits_on 0 w
unfolding number_of
number_digits [] h e = absurd (omega arith)
number_digits (c ∷ []) h e = zero_digit c
number_digits (c ∷ (d ∷ cs)) h e = rw (ne_eqb c 48 (e (omega arith))) refl

-- the same of a whole word, in the words of the library
abbrev read_on : ℕ → List ℕ → ℕ
read_on n [] = n
read_on n (c ∷ cs) = read_on (10 * n + (c - 48)) cs

own : IsNumeralModel (λ ds. all_ascii_digits ds ≡ true) (read_on 0)
own = numerals_by_fold _ (search rules) read_on (search rules)

read_on_ge : (n : ℕ) (cs : List ℕ) → n ≤ read_on n cs
read_on_ge n [] = omega arith
read_on_ge n (c ∷ cs) = let h = read_on_ge (10 * n + (c - 48)) cs in omega arith

digits_all : (n : ℕ) (cs : List ℕ) → all_ascii_digits cs ≡ true → read_on n cs < 2 ^ 64 → digits_on n cs ≡ Some (read_on n cs)
digits_all n [] h s = refl
digits_all n (c ∷ cs) h s =
    let p = and_parts _ (all_ascii_digits cs) h in
    let b : 10 * n + (c - 48) < 2 ^ 64 = let g = read_on_ge (10 * n + (c - 48)) cs in omega arith in
    rw (p.0, lt-ltb (10 * n + (c - 48)) (2 ^ 64) b) (digits_all (10 * n + (c - 48)) cs p.1 s)

digits_only : (n : ℕ) (cs : List ℕ) (m : ℕ) → n < 2 ^ 64 → digits_on n cs ≡ Some m →
    (all_ascii_digits cs ≡ true) × (read_on n cs ≡ m) × (m < 2 ^ 64)
digits_only n [] m s e = let i : n ≡ m = cc in (refl, i, omega arith)
digits_only n (c ∷ cs) m s e =
    ⊎_elim
    (λ y.
    let p = and_parts (leb 48 c && leb c 57) (ltb (10 * n + (c - 48)) (2 ^ 64)) y in
    let ih = digits_only (10 * n + (c - 48)) cs m (ltb-true _ _ p.1) (rw y at e) in
    (and_from _ (all_ascii_digits cs) p.0 ih.0, ih.1, ih.2))
    (λ y. let f : ◌≡◌ {A = Option ℕ} None (Some m) = rw y at e in let z : ◌≡◌ {A = ℕ} 0 1 = cc in absurd (omega arith))
    (cases_Bool ((leb 48 c && leb c 57) && ltb (10 * n + (c - 48)) (2 ^ 64)))

pub numbers_back : (n : ℕ) → n < 2 ^ 64 → number_of (decimal n) ≡ Some n
numbers_back n h =
    ⊎_elim
    (λ z. ap number_of (ap decimal z ∙ decimal_digit 0 (omega arith)) ∙ zero_back ∙ ap Some (sym z))
    (λ p.
    let first = first_decimal n (omega arith) h in
    number_digits (decimal n) (decimal_nonempty n h) (λ e. omega arith)
    ∙ digits_all 0 (decimal n) (digits_decimal own n h) (rw (digits_value-decimal own n h) h) ∙ ap Some (digits_value-decimal own n h))
    (cases_eq n 0)

zero_only : (c : ℕ) (cs : List ℕ) (n : ℕ) → c ≡ 48 → zero_alone cs ≡ Some n → (c ∷ cs ≡ decimal n) × (n < 2 ^ 64)
zero_only c [] n e z =
    let i : 0 ≡ n = cc in
    (ap (λ x. x ∷ []) e ∙ sym (decimal_digit 0 (omega arith)) ∙ ap decimal i, omega arith)
zero_only c (d ∷ cs) n e z = let y : ◌≡◌ {A = ℕ} 0 1 = cc in absurd (omega arith)

pub numbers_only : (w : List ℕ) (n : ℕ) → number_of w ≡ Some n → (w ≡ decimal n) × (n < 2 ^ 64)
unfolding number_of
numbers_only [] n e = let z : ◌≡◌ {A = ℕ} 0 1 = cc in absurd (omega arith)
numbers_only (c ∷ cs) n e =
    ⊎_elim
    (λ y. zero_only c cs n (eqb-true c 48 y) (rw y at e))
    (λ y.
    let d = digits_only 0 (c ∷ cs) n (omega arith) (rw y at e) in
    let w = decimal-digits_value own (c ∷ cs) d.0 (omega arith) (λ f. absurd (eqb-false c 48 y f)) (rw d.1 d.2) in
    (sym w ∙ ap decimal d.1, d.2))
    (cases_Bool (eqb c 48))
