-- Numbers as bytes: eight for each, the low one first.
use Rattle.std.specs.Prelude.{ℕ, zero, suc, ◌+◌, ◌*◌, ◌/◌, ◌%◌, ◌^◌, ◌<◌, List, [], ◌∷◌, ◌++◌, drop, slice_index}
use Rattle.std.specs.List.{AllByRecursion}

-- each is a byte
abbrev pub Bytes : List ℕ → Type 0
Bytes bs = AllByRecursion (λ b. b < 256) bs

-- each fits eight bytes
abbrev pub Wide : List ℕ → Type 0
Wide ns = AllByRecursion (λ n. n < 2 ^ 64) ns

abbrev pub number_bytes : ℕ → List ℕ
number_bytes n =
    n % 256 ∷ (n / 256 % 256 ∷ (n / 256 ^ 2 % 256 ∷ (n / 256 ^ 3 % 256
    ∷ (n / 256 ^ 4 % 256 ∷ (n / 256 ^ 5 % 256 ∷ (n / 256 ^ 6 % 256 ∷ (n / 256 ^ 7 % 256 ∷ [])))))))

-- the number in the first eight bytes
abbrev pub number_in : List ℕ → ℕ
number_in bs =
    slice_index bs 0 + slice_index bs 1 * 256 + slice_index bs 2 * 256 ^ 2 + slice_index bs 3 * 256 ^ 3
    + slice_index bs 4 * 256 ^ 4 + slice_index bs 5 * 256 ^ 5 + slice_index bs 6 * 256 ^ 6 + slice_index bs 7 * 256 ^ 7

unfoldable pub numbers_bytes : List ℕ → List ℕ
numbers_bytes [] = []
numbers_bytes (n ∷ ns) = number_bytes n ++ numbers_bytes ns

-- so many numbers, from the first byte on
unfoldable pub numbers_in : ℕ → List ℕ → List ℕ
numbers_in zero bs = []
numbers_in (suc k) bs = number_in bs ∷ numbers_in k (drop 8 bs)
