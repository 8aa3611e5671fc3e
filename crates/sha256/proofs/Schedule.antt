-- Rounds over the whole message schedule come to what rounds over a moving window come to.
use Rattle.std.proofs.Common.{◌≡◌, ℕ, zero, suc, ◌+◌, ◌-◌, ◌≤◌, List, [], ◌∷◌, ◌++◌, length, get_or, drop, sym, refl, ap, ◌∙◌, ap₂, append_assoc, append-nil, arith, length-append, length-drop}
use Rattle.std.proofs.lemmas.List.{get_or-append-add}
use Rattle.sha256.specs.Sha.{State, ◌⊞◌, σ₀, σ₁, next_word, extended, schedule, round, rounds, constants}
use Rattle.sha256.specs.Window.{moved, rolled}

-- a word counted from the end of a list is one of its last sixteen
from_end : (p w : List ℕ) (k j : ℕ) → length w ≡ k + j → get_or (p ++ w) (length (p ++ w) - k) 0 ≡ get_or w (length w - k) 0
from_end p w k j h =
    let e : length (p ++ w) - k ≡ length p + (length w - k) = omega (arith, length-append p w) in
    ap (λ i. get_or (p ++ w) i 0) e ∙ get_or-append-add p w (length w - k) 0

abbrev mixed : ℕ → ℕ → ℕ → ℕ → ℕ
mixed a b c d = σ₁ a ⊞ b ⊞ σ₀ c ⊞ d

-- the next word of the schedule depends on the last sixteen alone
next_of_window : (p w : List ℕ) → length w ≡ 16 → next_word (p ++ w) ≡ next_word w
next_of_window p w h =
    let at : List ℕ → ℕ → ℕ = λ xs k. get_or xs (length xs - k) 0 in
    ap₂ (λ a b. mixed a b (at (p ++ w) 15) (at (p ++ w) 16)) (from_end p w 2 14 h) (from_end p w 7 9 h)
    ∙ ap₂ (λ c d. mixed (at w 2) (at w 7) c d) (from_end p w 15 1 h) (from_end p w 16 0 h)

length_moved : (w : List ℕ) → length w ≡ 16 → length (moved w) ≡ 16
length_moved w h = simp (length-append, length-drop) (omega arith)

-- the words that leave a window in n moves, and then those that it holds
streamed : ℕ → List ℕ → List ℕ
streamed zero w = w
streamed (suc n) w = get_or w 0 0 ∷ streamed n (moved w)

regroup : (p w : List ℕ) (x : ℕ) → length w ≡ 16 → (p ++ w) ++ x ∷ [] ≡ (p ++ get_or w 0 0 ∷ []) ++ (drop 1 w ++ x ∷ [])
regroup p [] x h = let no : ⊥ = omega arith in absurd no
regroup p (y ∷ w) x h = append_assoc p (y ∷ w) (x ∷ []) ∙ sym (append_assoc p (y ∷ []) (w ++ x ∷ []))

extended_streamed : (n : ℕ) (p w : List ℕ) → length w ≡ 16 → extended n (p ++ w) ≡ p ++ streamed n w
unfolding extended streamed
extended_streamed zero p w h = refl
extended_streamed (suc n) p w h =
    ap (λ x. extended n ((p ++ w) ++ x ∷ [])) (next_of_window p w h)
    ∙ ap (extended n) (regroup p w (next_word w) h)
    ∙ extended_streamed n (p ++ get_or w 0 0 ∷ []) (moved w) (length_moved w h)
    ∙ append_assoc p (get_or w 0 0 ∷ []) (streamed n (moved w))

-- once the window holds as many words as there are constants left, what joins it is not read
last_rounds : (ks w v : List ℕ) (s : State) → length ks ≤ length w → rounds s ks w ≡ rolled s ks (w ++ v)
unfolding rounds rolled
last_rounds [] w v s h = refl
last_rounds (k ∷ ks) [] v s h = let no : ⊥ = omega arith in absurd no
last_rounds (k ∷ ks) (x ∷ w) v s h =
    let new = next_word ((x ∷ w) ++ v) in
    last_rounds ks w (v ++ new ∷ []) (round s (k ⊞ x)) (omega arith)
    ∙ ap (rolled (round s (k ⊞ x)) ks) (sym (append_assoc w v (new ∷ [])))

rounds_streamed : (n : ℕ) (ks w : List ℕ) (s : State) → length w ≡ 16 → length ks ≤ n + 16
    → rounds s ks (streamed n w) ≡ rolled s ks w
unfolding rounds rolled streamed
rounds_streamed zero ks w s h l = last_rounds ks w [] s (omega arith) ∙ ap (rolled s ks) (append-nil w)
rounds_streamed (suc n) [] w s h l = refl
rounds_streamed (suc n) (k ∷ ks) w s h l =
    rounds_streamed n ks (moved w) (round s (k ⊞ get_or w 0 0)) (length_moved w h) (omega arith)

pub rounds_rolled : (s : State) (w : List ℕ) → length w ≡ 16 → rounds s constants (schedule w) ≡ rolled s constants w
rounds_rolled s w h =
    ap (rounds s constants) (extended_streamed 48 [] w h) ∙ rounds_streamed 48 constants w s h (omega arith)
