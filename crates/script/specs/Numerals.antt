-- Decimal numbers: no sign, no leading zero but `0` itself, below 2 ^ 64.
use Rattle.std.specs.Prelude.{ℕ, ◌+◌, ◌-◌, ◌*◌, ◌^◌, cond, ◌&&◌, List, [], ◌∷◌, Some, None, Option, ◌==◌, nat_le, nat_lt}

-- digits behind those of a number
abbrev pub digits_on : ℕ → List ℕ → Option ℕ
digits_on n [] = Some n
digits_on n (c ∷ cs) =
    cond ((nat_le 48 c && nat_le c 57) && nat_lt (10 * n + (c - 48)) (2 ^ 64)) (digits_on (10 * n + (c - 48)) cs) None

-- nothing behind a leading zero
abbrev pub zero_alone : List ℕ → Option ℕ
zero_alone [] = Some 0
zero_alone (c ∷ cs) = None

-- the number that a word is
unfoldable pub number_of : List ℕ → Option ℕ
number_of [] = None
number_of (c ∷ cs) = cond (c == 48) (zero_alone cs) (digits_on 0 (c ∷ cs))
