-- A list of a known length is the list of its elements.
use Rattle.std.proofs.Common.{◌≡◌, ℕ, zero, suc, ◌+◌, List, [], ◌∷◌, length, get_or, drop, ap, ◌∙◌, arith}
use Rattle.std.proofs.lemmas.List.{drop_more, drop_all}

-- n elements from place i on
abbrev pub elements : List ℕ → ℕ → ℕ → List ℕ
elements xs i zero = []
elements xs i (suc n) = get_or xs i 0 ∷ elements xs (i + 1) n

from : (xs : List ℕ) (n i : ℕ) → length xs ≡ i + n → drop i xs ≡ elements xs i n
from xs zero i h = drop_all i xs (omega arith)
from xs (suc n) i h =
    drop_more xs i 0 (omega arith) ∙ ap (λ r. get_or xs i 0 ∷ r) (from xs n (i + 1) (omega arith))

pub four : (xs : List ℕ) → length xs ≡ 4 → xs ≡ elements xs 0 4
four xs h = from xs 4 0 h

pub sixteen : (xs : List ℕ) → length xs ≡ 16 → xs ≡ elements xs 0 16
sixteen xs h = from xs 16 0 h
