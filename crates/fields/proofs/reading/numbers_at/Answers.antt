use Rattle.std.proofs.Common.{◌≡◌, ℕ, ◌+◌, ◌-◌, List, [], ◌∷◌, ◌++◌, drop, replicate, sym, ap, ◌∙◌, ap₂, arith}
use Rattle.std.proofs.lemmas.List.{drop-drop}
use Rattle.fields.specs.Bytes.{number_in, numbers_in}
use Rattle.fields.proofs.reading.numbers_at.Goals as goal

-- the numbers behind the first, from where they stand
second : (bs : List ℕ) (at v : ℕ) → v ≡ number_in (drop (at + 8) bs) → v ≡ number_in (drop 8 (drop at bs))
second bs at v h = h ∙ ap number_in (sym (drop-drop 8 at bs))

third : (bs : List ℕ) (at v : ℕ) → v ≡ number_in (drop (at + 16) bs) → v ≡ number_in (drop 8 (drop 8 (drop at bs)))
third bs at v h = h ∙ ap number_in (sym (drop-drop 8 8 (drop at bs) ∙ drop-drop 16 at bs))

fourth : (bs : List ℕ) (at v : ℕ) → v ≡ number_in (drop (at + 24) bs) → v ≡ number_in (drop 8 (drop 8 (drop 8 (drop at bs))))
fourth bs at v h =
    h ∙ ap number_in (sym (drop-drop 8 8 (drop 8 (drop at bs)) ∙ drop-drop 16 8 (drop at bs) ∙ drop-drop 24 at bs))

-- all of them, by how many there are
four : List ℕ → ℕ → List ℕ
four bs k = numbers_in k bs ++ replicate (4 - k) 0

pub returns-in-0 : goal.returns-in-0
unfolding numbers_in four
returns-in-0 c = sym (ap (four (drop c.args.at c.args.bytes.now)) c.in-0.is)

pub returns-in-1 : goal.returns-in-1
unfolding numbers_in four
returns-in-1 c =
    ap (λ (x : ℕ). x ∷ 0 ∷ 0 ∷ 0 ∷ []) c.number_at.ensures
    ∙ sym (ap (four (drop c.args.at c.args.bytes.now)) c.in-1.is)

pub returns-in-2 : goal.returns-in-2
unfolding numbers_in four
returns-in-2 c =
    ap₂ (λ (x y : ℕ). x ∷ y ∷ 0 ∷ 0 ∷ []) c.number_at-in-2.ensures
    (second c.args.bytes.now c.args.at _ c.number_at-in-2-2.ensures)
    ∙ sym (ap (four (drop c.args.at c.args.bytes.now)) c.in-2.is)

pub returns-in-3 : goal.returns-in-3
unfolding numbers_in four
returns-in-3 c =
    let bs : List ℕ = c.args.bytes.now in
    ap₂ (λ (x y : ℕ). x ∷ y ∷ c.number_at-in-3-3.result ∷ 0 ∷ []) c.number_at-in-3.ensures
    (second bs c.args.at _ c.number_at-in-3-2.ensures)
    ∙ ap (λ (x : ℕ). number_in (drop c.args.at bs) ∷ number_in (drop 8 (drop c.args.at bs)) ∷ x ∷ 0 ∷ [])
    (third bs c.args.at _ c.number_at-in-3-3.ensures)
    ∙ sym (ap (four (drop c.args.at bs)) c.in-3.is)

pub returns-in_default : goal.returns-in_default
unfolding numbers_in four
returns-in_default c =
    let bs : List ℕ = c.args.bytes.now in
    let all : c.args.count ≡ 4 = omega arith in
    ap₂ (λ (x y : ℕ). x ∷ y ∷ c.number_at-in_default-3.result ∷ c.number_at-in_default-4.result ∷ []) c.number_at-in_default.ensures
    (second bs c.args.at _ c.number_at-in_default-2.ensures)
    ∙ ap₂ (λ (x y : ℕ). number_in (drop c.args.at bs) ∷ number_in (drop 8 (drop c.args.at bs)) ∷ x ∷ y ∷ [])
    (third bs c.args.at _ c.number_at-in_default-3.ensures) (fourth bs c.args.at _ c.number_at-in_default-4.ensures)
    ∙ sym (ap (four (drop c.args.at bs)) all)
