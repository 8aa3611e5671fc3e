-- What the code does on vectors of four words, lane by lane, is what the definition does word by word.
use Rattle.std.proofs.Common.{◌≡◌, ℕ, List, [], ◌∷◌, ◌++◌, map, length, get_or, sym, refl, ap, ◌∙◌, ap₂, arith}
use lib.Lanes.{zip2, pick_l}
use Rattle.sha256.specs.Sha.{State, ◌⊞◌, σ₀, σ₁, round, rounds}
use Rattle.sha256.specs.Window.{next_four, rolled}
use Rattle.sha256.proofs.Elements.{elements, four}

-- a vector as its four words
abbrev lanes : List ℕ → List ℕ
lanes a = elements a 0 4

-- what is the same of any four vectors that are given as words is the same of any four
by_words : {X : Type 0} (f g : List ℕ → List ℕ → List ℕ → List ℕ → X)
    → ((a b c d : List ℕ) → f (lanes a) (lanes b) (lanes c) (lanes d) ≡ g (lanes a) (lanes b) (lanes c) (lanes d))
    → (a b c d : List ℕ) → length a ≡ 4 → length b ≡ 4 → length c ≡ 4 → length d ≡ 4 → f a b c d ≡ g a b c d
by_words f g same a b c d ha hb hc hd =
    ap₂ (λ a b. f a b c d) (four a ha) (four b hb) ∙ ap₂ (λ c d. f (lanes a) (lanes b) c d) (four c hc) (four d hd)
    ∙ same a b c d
    ∙ sym (ap₂ (λ a b. g a b c d) (four a ha) (four b hb) ∙ ap₂ (λ c d. g (lanes a) (lanes b) c d) (four c hc) (four d hd))

-- ---- the next four words of the schedule, from a window of the vectors a, b, c and d

-- the code's order of a sum, and the standard's
in_order : (a b c d : ℕ) → a ⊞ b ⊞ c ⊞ d ≡ d ⊞ c ⊞ b ⊞ a
in_order a b c d = omega arith

-- what is known at once: s has the σ₀ of the words from 1 on, t the σ₁ of the words 14 and 15, and then the last two words
-- of the four take the σ₁ of the first two
abbrev pub sums : List ℕ → List ℕ → List ℕ → List ℕ → List ℕ
sums a s c d = zip2 ◌⊞◌ (zip2 ◌⊞◌ a s) (pick_l 0 (c ++ d) (1 ∷ 2 ∷ 3 ∷ 4 ∷ []))

abbrev pub joined : List ℕ → List ℕ → List ℕ → List ℕ
joined sum t u = pick_l 0 (zip2 ◌⊞◌ sum t ++ zip2 ◌⊞◌ sum u) (0 ∷ 1 ∷ 6 ∷ 7 ∷ [])

abbrev pub last_sigmas : List ℕ → List ℕ
last_sigmas x = map σ₁ (pick_l 0 (x ++ x) (0 ∷ 1 ∷ 0 ∷ 1 ∷ []))

lanes_next : List ℕ → List ℕ → List ℕ → List ℕ → List ℕ
lanes_next a b c d =
    let sum = sums a (map σ₀ (pick_l 0 (a ++ b) (1 ∷ 2 ∷ 3 ∷ 4 ∷ []))) c d in
    let t = map σ₁ (pick_l 0 (d ++ d) (2 ∷ 3 ∷ 2 ∷ 3 ∷ [])) in
    joined sum t (last_sigmas (zip2 ◌⊞◌ sum t))

next_of_words : (a b c d : List ℕ) → length a ≡ 4 → length b ≡ 4 → length c ≡ 4 → length d ≡ 4
    → lanes_next a b c d ≡ next_four (a ++ (b ++ (c ++ d)))
unfolding lanes_next
next_of_words =
    by_words lanes_next (λ a b c d. next_four (a ++ (b ++ (c ++ d))))
    (λ a b c d.
    let w0 : ℕ → ℕ = λ i. get_or a i 0 in
    let w8 : ℕ → ℕ = λ i. get_or c i 0 in
    let w4 : ℕ = get_or b 0 0 in
    let w12 : ℕ → ℕ = λ i. get_or d i 0 in
    let e0 = in_order (w0 0) (σ₀ (w0 1)) (w8 1) (σ₁ (w12 2)) in
    let e1 = in_order (w0 1) (σ₀ (w0 2)) (w8 2) (σ₁ (w12 3)) in
    let e2 = in_order (w0 2) (σ₀ (w0 3)) (w8 3) _ ∙ ap (λ x. σ₁ x ⊞ w8 3 ⊞ σ₀ (w0 3) ⊞ w0 2) e0 in
    let e3 = in_order (w0 3) (σ₀ w4) (w12 0) _ ∙ ap (λ x. σ₁ x ⊞ w12 0 ⊞ σ₀ w4 ⊞ w0 3) e1 in
    ap₂ ◌∷◌ e0 (ap₂ ◌∷◌ e1 (ap₂ ◌∷◌ e2 (ap₂ ◌∷◌ e3 refl))))

pub next_is : (a b c d s t u : List ℕ) → length a ≡ 4 → length b ≡ 4 → length c ≡ 4 → length d ≡ 4
    → s ≡ map σ₀ (pick_l 0 (a ++ b) (1 ∷ 2 ∷ 3 ∷ 4 ∷ []))
    → t ≡ map σ₁ (pick_l 0 (d ++ d) (2 ∷ 3 ∷ 2 ∷ 3 ∷ []))
    → u ≡ last_sigmas (zip2 ◌⊞◌ (sums a s c d) t)
    → joined (sums a s c d) t u ≡ next_four (a ++ (b ++ (c ++ d)))
unfolding lanes_next
next_is a b c d s t u ha hb hc hd es et eu =
    ap (joined (sums a s c d) t) eu
    ∙ ap₂ (λ s t. joined (sums a s c d) t (last_sigmas (zip2 ◌⊞◌ (sums a s c d) t))) es et
    ∙ next_of_words a b c d ha hb hc hd

-- ---- four rounds over the window

pub four_rounds : (s : State) (k ks a b c d : List ℕ) → length k ≡ 4 → length a ≡ 4 → length b ≡ 4 → length c ≡ 4 → length d ≡ 4
    → rolled s (k ++ ks) (a ++ (b ++ (c ++ d))) ≡ rolled (rounds s k a) ks (b ++ (c ++ (d ++ next_four (a ++ (b ++ (c ++ d))))))
unfolding rolled rounds
four_rounds s k ks a b c d hk ha hb hc hd =
    ap (λ k. rolled s (k ++ ks) (a ++ (b ++ (c ++ d)))) (four k hk)
    ∙ by_words (λ a b c d. rolled s (lanes k ++ ks) (a ++ (b ++ (c ++ d))))
    (λ a b c d. rolled (rounds s (lanes k) a) ks (b ++ (c ++ (d ++ next_four (a ++ (b ++ (c ++ d)))))))
    (λ a b c d. refl) a b c d ha hb hc hd
    ∙ ap (λ k. rolled (rounds s k a) ks (b ++ (c ++ (d ++ next_four (a ++ (b ++ (c ++ d))))))) (sym (four k hk))

-- the sums of constants and words are made at once
abbrev pub stepped : State → List ℕ → State
stepped s x = round (round (round (round s (get_or x 0 0)) (get_or x 1 0)) (get_or x 2 0)) (get_or x 3 0)

pub rounds_stepped : (s : State) (k a : List ℕ) → length k ≡ 4 → length a ≡ 4 → rounds s k a ≡ stepped s (zip2 ◌⊞◌ k a)
unfolding rounds
rounds_stepped s k a hk ha =
    ap₂ (rounds s) (four k hk) (four a ha) ∙ sym (ap₂ (λ k a. stepped s (zip2 ◌⊞◌ k a)) (four k hk) (four a ha))
