-- Beginnings of lists.
use Rattle.std.proofs.Common.{◌≡◌, ℕ, suc, ◌+◌, ◌≤◌, List, [], ◌∷◌, ◌++◌, length, take, sym, refl, ap, ◌∙◌, append_assoc, arith, length-append}
use Rattle.std.specs.List.{AllByRecursion}
use Rattle.fields.specs.Codec.{Begins}

pub begins_none : (ys : List ℕ) → Begins [] ys
begins_none ys = (ys, refl)

pub begins_more : (xs ys zs : List ℕ) → Begins xs ys → Begins xs (ys ++ zs)
begins_more xs ys zs b = (b.0 ++ zs, rw b.1 (append_assoc xs b.0 zs))

pub begins_behind : (ps xs ys : List ℕ) → Begins xs ys → Begins (ps ++ xs) (ps ++ ys)
begins_behind ps xs ys b = (b.0, rw b.1 (sym (append_assoc ps xs b.0)))

pub begins_long : (xs ys : List ℕ) → Begins xs ys → length xs ≤ length ys
begins_long xs ys b = let e : length ys ≡ length xs + length b.0 = ap length b.1 ∙ length-append xs b.0 in omega arith

-- the beginning of a list that is another's beginning and more
pub take_behind : (ps xs : List ℕ) (k : ℕ) → take (length ps + k) (ps ++ xs) ≡ ps ++ take k xs
take_behind [] xs k = let e : 0 + k ≡ k = omega arith in rw e refl
take_behind (p ∷ ps) xs k = let e : suc (length ps) + k ≡ suc (length ps + k) = omega arith in rw e (ap (λ t. p ∷ t) (take_behind ps xs k))

pub all_parts : {X : Type 0} (P : X → Type 0) (xs ys : List X) → AllByRecursion P (xs ++ ys) → AllByRecursion P xs × AllByRecursion P ys
all_parts P [] ys h = (tt, h)
all_parts P (x ∷ xs) ys h = let p = all_parts P xs ys h.1 in ((h.0, p.0), p.1)

-- beginnings behind a common front
pub taken_behind : (ps mid bs ws : List ℕ) (k r : ℕ) → bs ≡ ps ++ mid → k + r ≡ length mid → Begins (take k mid) ws →
    ((length ps + k) + r ≡ length bs) × Begins (take (length ps + k) bs) (ps ++ ws)
taken_behind ps mid bs ws k r e s b =
    let l : length bs ≡ length ps + length mid = ap length e ∙ length-append ps mid in
    (omega arith, rw (e, take_behind ps mid k) (begins_behind ps (take k mid) ws b))
