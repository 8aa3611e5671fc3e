-- Looking for a part of a cell, page by page.
use Rattle.std.proofs.Common.{◌≡◌, ℕ, zero, suc, ◌+◌, ◌<◌, Bool, true, false, ◌||◌, eqb, nat_eq, List, Some, None, Option, sym, refl, ap, ◌∙◌, add-one, arith, eqb-true}
use borrow.Author.Tests.{eqb_apart, clash}
use Rattle.std.specs.Option.{option_eq}
use Rattle.lookups.specs.Lookups.{record_of, part_of, is_part, has_parts}

no_more : (a b : Bool) → a ≡ false → b ≡ false → (a || b) ≡ false
no_more a b p q = simp (p, q)

found_right : (a b : Bool) → b ≡ true → (a || b) ≡ true
found_right true b h = refl
found_right false b h = h

found_left : (a b : Bool) → a ≡ true → (a || b) ≡ true
found_left true b h = refl
found_left false b h = absurd (clash h)

-- the code's test of the cell that a page is a part of
pub tested : (o : Option ℕ) (c : ℕ) → option_eq nat_eq o (Some c) ≡ is_part o c
tested None c = refl
tested (Some x) c = refl

pub none_yet : (m : List ℕ) (c : ℕ) → has_parts 0 m c ≡ false
unfolding has_parts
none_yet m c = refl

pub none_here : (n : ℕ) (m : List ℕ) (c : ℕ) → has_parts n m c ≡ false → is_part (part_of (record_of m n)) c ≡ false →
    has_parts (n + 1) m c ≡ false
unfolding has_parts
none_here n m c p q = ap (λ k. has_parts k m c) (add-one n) ∙ no_more (has_parts n m c) (is_part (part_of (record_of m n)) c) p q

pub one_found : (n i : ℕ) (m : List ℕ) (c : ℕ) → i < n → is_part (part_of (record_of m i)) c ≡ true → has_parts n m c ≡ true
unfolding has_parts
one_found zero i m c h q = absurd (omega arith)
one_found (suc n) i m c h q = by (eqb i n) refl (λ l. one_found n i m c l q)
  where
    by : (b : Bool) → eqb i n ≡ b → (i < n → has_parts n m c ≡ true) → (has_parts n m c || is_part (part_of (record_of m n)) c) ≡ true
    by true e g = found_right _ _ (ap (λ k. is_part (part_of (record_of m k)) c) (sym (eqb-true i n e)) ∙ q)
    by false e g = found_left _ _ (g (omega (arith, eqb_apart i n e)))
