-- How numbers are printed one by one, and how many words of a page are.
use Rattle.std.proofs.Common.{◌≡◌, ℕ, zero, suc, ◌+◌, ◌-◌, ◌<◌, ◌≤◌, List, [], ◌∷◌, ◌++◌, length, get_or, take, decimal, sym, refl, ap, ◌∙◌, append_assoc, append-nil, arith, length-take, ne_eqb}
use Rattle.std.proofs.lemmas.List.{take_more}
use Rattle.script.specs.Shown.{spaced, before_words, trimmed}

spaced_more : (ns : List ℕ) (n : ℕ) → spaced (ns ++ n ∷ []) ≡ spaced ns ++ (32 ∷ decimal n)
spaced_more [] n = ap (λ t. 32 ∷ t) (append-nil (decimal n))
spaced_more (m ∷ ns) n =
    ap (λ t. 32 ∷ (decimal m ++ t)) (spaced_more ns n) ∙ ap (λ t. 32 ∷ t) (sym (append_assoc (decimal m) (spaced ns) (32 ∷ decimal n)))

-- one number more is printed
pub spaced_step : (ns : List ℕ) (i : ℕ) → i < length ns → spaced (take i ns) ++ (32 ∷ decimal (get_or ns i 0)) ≡ spaced (take (i + 1) ns)
spaced_step ns i h = sym (spaced_more (take i ns) (get_or ns i 0)) ∙ ap spaced (sym (take_more ns i 0 h))

-- a word in front of others, of which it or one more is not 0
before_some : (w : ℕ) (ws : List ℕ) → (length ws ≡ 0 → w ≡ 0 → ⊥) → before_words w ws ≡ w ∷ ws
before_some w [] h = rw (ne_eqb w 0 (h refl)) refl
before_some w (v ∷ ws) h = refl

-- the words up to the last that is not 0
pub trimmed_at : (ws : List ℕ) (n : ℕ) → n ≤ length ws → ((k : ℕ) → n ≤ k → k < length ws → get_or ws k 0 ≡ 0) →
    (0 < n → get_or ws (n - 1) 0 ≡ 0 → ⊥) → take n ws ≡ trimmed ws
trimmed_at [] zero within zeros last = refl
trimmed_at [] (suc n) within zeros last = absurd (omega arith)
trimmed_at (w ∷ ws) zero within zeros last =
    let none = trimmed_at ws zero (omega arith) (λ k h l. zeros (suc k) (omega arith) (omega arith)) (λ h. absurd (omega arith)) in
    let zero_first : w ≡ 0 = zeros 0 (omega arith) (omega arith) in
    ap (λ v. before_words v []) (sym zero_first) ∙ ap (before_words w) none
trimmed_at (w ∷ ws) (suc zero) within zeros last =
    let none = trimmed_at ws zero (omega arith) (λ k h l. zeros (suc k) (omega arith) (omega arith)) (λ h. absurd (omega arith)) in
    sym (before_some w [] (λ e h. last (omega arith) h)) ∙ ap (before_words w) none
trimmed_at (w ∷ ws) (suc (suc n)) within zeros last =
    let at : suc (suc n) - 1 ≡ suc (suc n - 1) = omega arith in
    let final : get_or ws (suc n - 1) 0 ≡ 0 → ⊥ = λ e. last (omega arith) (ap (λ k. get_or (w ∷ ws) k 0) at ∙ e) in
    let more = trimmed_at ws (suc n) (omega arith) (λ k h l. zeros (suc k) (omega arith) (omega arith)) (λ h. final) in
    let long : length (take (suc n) ws) ≡ 0 → ⊥ = λ e. omega (arith, length-take (suc n) ws) in
    sym (before_some w (take (suc n) ws) (λ e h. long e)) ∙ ap (before_words w) more
