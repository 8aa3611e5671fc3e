-- What each word is, up to a line's end, one by one.
use Rattle.std.proofs.Common.{◌≡◌, ℕ, ◌+◌, ◌*◌, ◌<◌, ◌≤◌, List, [], ◌∷◌, ◌++◌, length, Some, None, Option, sym, refl, ap, ◌∙◌, append_assoc, arith}
use Rattle.fields.specs.Bytes.{number_bytes, numbers_bytes}
use Rattle.fields.specs.Steps.{Wrote}
use Rattle.fields.proofs.Pieces.{length_numbers_bytes}
use Rattle.fields.proofs.Puts.{wrote_more, wrote_is}
use Rattle.std.specs.Option.{option_map}
use Rattle.script.specs.Lines.{before, each}

-- numbers in front of more, if there are any
abbrev pub prefixed : List ℕ → Option (List ℕ) → Option (List ℕ)
prefixed ns o = option_map (λ more. ns ++ more) o

pub prefixed_none : (o : Option (List ℕ)) → o ≡ prefixed [] o
prefixed_none None = refl
prefixed_none (Some ns) = refl

prefixed_one : (ns : List ℕ) (n : ℕ) (o : Option (List ℕ)) → prefixed ns (before (Some n) o) ≡ prefixed (ns ++ n ∷ []) o
prefixed_one ns n None = refl
prefixed_one ns n (Some more) = ap Some (sym (append_assoc ns (n ∷ []) more))

-- `all` is what all words come to, of which `ns` are those so far
module _ (f : List ℕ → Option ℕ) (all : Option (List ℕ)) (ns : List ℕ) (ws : List (List ℕ)) (so_far : all ≡ prefixed ns (each f ws)) where
  module _ (w : List ℕ) (rest : List (List ℕ)) (cut : ws ≡ w ∷ rest) where
    here : all ≡ prefixed ns (before (f w) (each f rest))
    here = so_far ∙ ap (λ x. prefixed ns (each f x)) cut

    pub series_more : (n : ℕ) → f w ≡ Some n → all ≡ prefixed (ns ++ n ∷ []) (each f rest)
    series_more n e = here ∙ ap (λ x. prefixed ns (before x (each f rest))) e ∙ prefixed_one ns n (each f rest)

-- the same of the numbers as bytes
numbers_bytes_more : (ns : List ℕ) (n : ℕ) → numbers_bytes (ns ++ n ∷ []) ≡ numbers_bytes ns ++ number_bytes n
unfolding numbers_bytes
numbers_bytes_more [] n = refl
numbers_bytes_more (m ∷ ns) n =
    ap (λ t. number_bytes m ++ t) (numbers_bytes_more ns n) ∙ sym (append_assoc (number_bytes m) (numbers_bytes ns) (number_bytes n))

pub numbers_step : (a b c ns : List ℕ) (n k : ℕ) → k ≡ length ns → k < 255 → 2042 ≤ length a → Wrote a b 2 (numbers_bytes ns) (2 + 8 * k) →
    Wrote b c (2 + 8 * k) (number_bytes n) (2 + 8 * k + 8) → Wrote a c 2 (numbers_bytes (ns ++ n ∷ [])) (2 + 8 * (k + 1))
numbers_step a b c ns n k is few room v w =
    let l : length (numbers_bytes ns) ≡ 8 * length ns = length_numbers_bytes ns in
    let u = wrote_is a c _ _ 2 _ (numbers_bytes_more ns n) (wrote_more a b c (numbers_bytes ns) (number_bytes n) 2 _ _ v w (omega arith)) in
    record { there = u.there; ends = omega (arith, u.ends); long = u.long }
