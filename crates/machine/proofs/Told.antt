-- Numbers that are told, one by one.
use Rattle.std.proofs.Common.{◌≡◌, ℕ, zero, suc, ◌+◌, ◌-◌, ◌<◌, List, [], ◌∷◌, take, sym, refl, ap, ◌∙◌, add-one, arith}
use Rattle.machine.specs.Instructions.{with_register, low}
use Rattle.machine.specs.Came.{told_on}

pub told_next : (ns ms rs : List ℕ) (i n : ℕ) → i < 9 → ns ≡ n ∷ ms →
    told_on i (take (9 - i) ns) rs ≡ told_on (i + 1) (take (9 - (i + 1)) ms) (with_register rs i (low n))
unfolding told_on
told_next ns ms rs i n h e =
    let k : 9 - i ≡ suc (9 - (i + 1)) = omega arith in
    ap (λ xs. told_on i (take (9 - i) xs) rs) e ∙ ap (λ j. told_on i (take j (n ∷ ms)) rs) k
    ∙ ap (λ j. told_on j (take (9 - (i + 1)) ms) (with_register rs i (low n))) (sym (add-one i))

pub told_none : (ns rs : List ℕ) (i : ℕ) → ns ≡ [] → told_on i (take (9 - i) ns) rs ≡ rs
unfolding told_on
told_none ns rs i e = ap (λ xs. told_on i (take (9 - i) xs) rs) e ∙ by (9 - i)
  where
    by : (k : ℕ) → told_on i (take k []) rs ≡ rs
    by zero = refl
    by (suc k) = refl

pub told_all : (ns rs : List ℕ) (i : ℕ) → 9 - i ≡ 0 → told_on i (take (9 - i) ns) rs ≡ rs
unfolding told_on
told_all ns rs i e = ap (λ k. told_on i (take k ns) rs) e
