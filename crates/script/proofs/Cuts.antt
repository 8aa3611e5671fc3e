-- How the first word is cut off a text.
use Rattle.std.proofs.Common.{◌≡◌, ℕ, zero, suc, ◌-◌, ◌<◌, ◌≤◌, true, false, eqb, List, [], ◌∷◌, length, get_or, take, drop, refl, sym, ap, ◌∙◌, subst, add-zero, arith, length-drop, ne_eqb, eqb-true}
use borrow.Author.Tests.{eqb-false}
use Rattle.std.proofs.lemmas.List.{drop_all, get_or-drop}
use Rattle.script.specs.Words.{in_front, parted, words}

words_space : (bs : List ℕ) → words (32 ∷ bs) ≡ words bs
unfolding words
words_space bs = refl

-- spaces in front go
pub words_behind : (text : List ℕ) (n : ℕ) → ((k : ℕ) → k < n → get_or text k 0 ≡ 32) → words (drop n text) ≡ words text
words_behind text zero spaces = refl
words_behind [] (suc n) spaces = refl
words_behind (b ∷ bs) (suc n) spaces =
    words_behind bs n (λ k h. spaces (suc k) (omega arith))
    ∙ sym (ap (λ c. words (c ∷ bs)) (spaces 0 (omega arith)) ∙ words_space bs)

parted_letter : (b : ℕ) (bs : List ℕ) → (b ≡ 32 → ⊥) → parted (b ∷ bs) ≡ (b ∷ (parted bs).0, (parted bs).1)
parted_letter b bs h = rw (ne_eqb b 32 h) refl

parted_space : (b : ℕ) (bs : List ℕ) → b ≡ 32 → parted (b ∷ bs) ≡ ([], words (b ∷ bs))
unfolding words
parted_space b bs e = let P : ℕ → Type 0 = λ c. parted (c ∷ bs) ≡ ([], words (c ∷ bs)) in subst P (sym e) refl

-- the letters in front of the first space, or of the end
parted_at : (text : List ℕ) (n : ℕ) → n ≤ length text → ((k : ℕ) → k < n → get_or text k 0 ≡ 32 → ⊥) →
    (n < length text → get_or text n 0 ≡ 32) → parted text ≡ (take n text, words (drop n text))
unfolding words
parted_at [] zero within letters space = refl
parted_at [] (suc n) within letters space = absurd (omega arith)
parted_at (b ∷ bs) zero within letters space = parted_space b bs (space (omega arith))
parted_at (b ∷ bs) (suc n) within letters space =
    parted_letter b bs (letters 0 (omega arith))
    ∙ ap (λ p. (b ∷ p.0, p.1))
    (parted_at bs n (omega arith) (λ k h. letters (suc k) (omega arith)) (λ h. space (omega arith)))

-- they are the first word
first_word : (text : List ℕ) (n : ℕ) → 0 < n → n ≤ length text → ((k : ℕ) → k < n → get_or text k 0 ≡ 32 → ⊥) →
    (n < length text → get_or text n 0 ≡ 32) → words text ≡ take n text ∷ words (drop n text)
unfolding words
first_word text zero some within letters space = absurd (omega arith)
first_word [] (suc n) some within letters space = absurd (omega arith)
first_word (b ∷ bs) (suc n) some within letters space =
    ap (λ p. in_front p.0 p.1) (parted_at (b ∷ bs) (suc n) within letters space)

-- as code has it: the text from its first letter on, at `start`, and the tests of each byte
pub no_words : (text rest : List ℕ) (start : ℕ) → rest ≡ drop start text → ((k : ℕ) → k < start → eqb (get_or text k 0) 32 ≡ true) →
    true ≡ eqb (length rest) 0 → words text ≡ []
unfolding words
no_words text rest start is spaces empty =
    let none : length rest ≡ 0 = eqb-true _ _ (sym empty) in
    let past : length text ≤ start = omega (arith, none, ap length is, length-drop start text) in
    sym (words_behind text start (λ k h. eqb-true _ _ (spaces k h))) ∙ ap words (drop_all start text past)

next_word_at : (text rest word behind : List ℕ) (start end : ℕ) → rest ≡ drop start text → start < length text →
    ((k : ℕ) → k < start → get_or text k 0 ≡ 32) → (get_or text start 0 ≡ 32 → ⊥) →
    end ≤ length rest → ((k : ℕ) → k < end → get_or rest k 0 ≡ 32 → ⊥) → (end < length rest → get_or rest end 0 ≡ 32) →
    word ≡ take end rest → behind ≡ drop end rest → words text ≡ word ∷ words behind
next_word_at text rest word behind start end is inside spaces letter within letters space front back =
    let first : get_or rest 0 0 ≡ get_or text start 0 = ap (λ t. get_or t 0 0) is ∙ get_or-drop start text 0 0
    ∙ ap (λ k. get_or text k 0) (add-zero start) in
    let long : length rest ≡ length text - start = ap length is ∙ length-drop start text in
    sym (words_behind text start spaces) ∙ ap words (sym is)
    ∙ first_word rest end (by_end end space first long) within letters space
    ∙ ap (λ w. w ∷ words (drop end rest)) (sym front) ∙ ap (λ t. word ∷ words t) (sym back)
  where
    by_end : (n : ℕ) → (n < length rest → get_or rest n 0 ≡ 32) → get_or rest 0 0 ≡ get_or text start 0 →
        length rest ≡ length text - start → 0 < n
    by_end zero space first long = absurd (letter (sym first ∙ space (omega arith)))
    by_end (suc n) space first long = omega arith

pub next_word : (text rest word behind : List ℕ) (start end : ℕ) → rest ≡ drop start text →
    ((k : ℕ) → k < start → eqb (get_or text k 0) 32 ≡ true) → (start < length text → eqb (get_or text start 0) 32 ≡ false) →
    false ≡ eqb (length rest) 0 → end ≤ length rest → ((k : ℕ) → k < end → eqb (get_or rest k 0) 32 ≡ false) →
    (end < length rest → eqb (get_or rest end 0) 32 ≡ true) →
    word ≡ take end rest → behind ≡ drop end rest → words text ≡ word ∷ words behind
next_word text rest word behind start end is spaces letter some within letters space front back =
    let long : length rest ≡ length text - start = ap length is ∙ length-drop start text in
    let inside : start < length text = omega (arith, long, eqb-false _ _ (sym some)) in
    next_word_at text rest word behind start end is inside (λ k h. eqb-true _ _ (spaces k h)) (eqb-false _ _ (letter inside)) within
    (λ k h. eqb-false _ _ (letters k h))
    (λ h. eqb-true _ _ (space h)) front back
