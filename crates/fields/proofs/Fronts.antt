-- What the pieces read, under the tests that the code makes.
use Rattle.std.proofs.Common.{◌≡◌, ℕ, zero, suc, ◌+◌, ◌-◌, ◌*◌, ◌/◌, ◌%◌, ◌<◌, ◌≤◌, Bool, cond, eqb, ltb, leb, List, [], ◌∷◌, ◌++◌, length, get_or, take, drop, replicate, Some, Ok, Err, sym, refl, ap, ◌∙◌, ⊎_elim, add-one, arith, length-drop, length-take, le-ltb, lt-ltb, le-leb}
use borrow.Author.Tests.{lt-leb}
use Rattle.std.proofs.lemmas.Bool.{cases_lt}
use Rattle.std.proofs.lemmas.List.{drop_more, drop_all, drop-drop, drop-take, get_or-take}
use Rattle.std.specs.List.{slice_get}
use Rattle.std.specs.Option.{option_map}
use Rattle.std.specs.Simd.{first_chunks}
use Rattle.fields.specs.Bytes.{number_in, numbers_in}
use Rattle.fields.specs.Codec.{Got, got, lost, read_byte, numbers, closed}
use Rattle.fields.specs.Shapes.{padded, place, list, place_if, list_if, body, layout, place_of, numbers_of, body_of}
use Rattle.fields.specs.Steps.{rest_of, Read}
use Rattle.fields.specs.declared.cursor.Cursor.{Cursor}
use Rattle.fields.specs.declared.values.Fields.{Fields}
use Rattle.fields.specs.declared.values.Shape.{Shape}

pub numbers_short : (n : ℕ) (bs : List ℕ) → length bs < 8 * n → (numbers n).read bs ≡ lost 0
numbers_short n bs h = rw (lt-leb (8 * n) (length bs) h) refl

pub numbers_there : (n : ℕ) (bs : List ℕ) → 8 * n ≤ length bs → (numbers n).read bs ≡ got (numbers_in n bs) (drop (8 * n) bs)
numbers_there n bs h = rw (le-leb (8 * n) (length bs) h) refl

pub padded_short : (n : ℕ) (bs : List ℕ) → length bs < 8 * n → (padded n).read bs ≡ lost 0
padded_short n bs h = rw (numbers_short n bs h) refl

pub padded_there : (n : ℕ) (bs : List ℕ) → 8 * n ≤ length bs →
    (padded n).read bs ≡ got (numbers_in n bs ++ replicate (4 - n) 0) (drop (8 * n) bs)
padded_there n bs h = rw (numbers_there n bs h) refl

-- one number more
pub numbers_more : (n : ℕ) (bs : List ℕ) → numbers_in (n + 1) bs ≡ numbers_in n bs ++ (number_in (drop (8 * n) bs) ∷ [])
unfolding numbers_in
numbers_more zero bs = refl
numbers_more (suc n) bs =
    let e : 8 + 8 * n ≡ 8 * suc n = omega arith in
    let d : drop (8 * n) (drop 8 bs) ≡ drop (8 * suc n) bs = drop-drop (8 * n) 8 bs ∙ ap (λ k. drop k bs) e in
    rw add-one (ap (λ t. number_in bs ∷ t) (rw (add-one, d) at (numbers_more n (drop 8 bs))))

-- the number at an index
pub number_of_numbers : (n i : ℕ) (bs : List ℕ) → i < n → slice_get (numbers_in n bs) i ≡ Some (number_in (drop (8 * i) bs))
unfolding numbers_in
number_of_numbers zero i bs h = absurd (omega arith)
number_of_numbers (suc n) zero bs h = refl
number_of_numbers (suc n) (suc i) bs h =
    let e : 8 + 8 * i ≡ 8 * suc i = omega arith in
    number_of_numbers n i (drop 8 bs) (omega arith) ∙ ap (λ x. Some (number_in x)) (drop-drop (8 * i) 8 bs ∙ ap (λ k. drop k bs) e)

-- a byte that stands at k
pub byte_at : (test : ℕ → Bool) (bs : List ℕ) (k : ℕ) → k < length bs →
    read_byte test (drop k bs) ≡ cond (test (get_or bs k 0)) (got (get_or bs k 0) (drop (k + 1) bs)) (lost (length bs - k))
byte_at test bs k h =
    let l : suc (length (drop (k + 1) bs)) ≡ length bs - k = rw length-drop (omega arith) in
    ap (read_byte test) (drop_more bs k 0 h) ∙ ap (λ n. cond (test (get_or bs k 0)) (got (get_or bs k 0) (drop (k + 1) bs)) (lost n)) l

pub byte_none : (test : ℕ → Bool) (bs : List ℕ) (k : ℕ) → length bs ≤ k → read_byte test (drop k bs) ≡ lost 0
byte_none test bs k h = ap (read_byte test) (drop_all k bs h)

-- a place
pub place_short : (bs : List ℕ) → length bs < 17 → place.read bs ≡ lost 0
place_short bs h =
    ⊎_elim
    (λ l. rw (numbers_short 2 bs l) refl)
    (λ l. rw (numbers_there 2 bs l, byte_none (λ b. ltb b 4) bs 16 (omega arith)) refl)
    (cases_lt (length bs) 16)

pub place_bad : (bs : List ℕ) → 17 ≤ length bs → 4 ≤ get_or bs 16 0 → place.read bs ≡ lost (length bs - 16)
place_bad bs h f =
    rw (numbers_there 2 bs (omega arith), byte_at (λ b. ltb b 4) bs 16 (omega arith), le-ltb (get_or bs 16 0) 4 f) refl

pub place_there : (bs : List ℕ) → 17 ≤ length bs → get_or bs 16 0 < 4 → place.read bs ≡ got (record {
  table = number_in bs;
  slot = number_in (drop 8 bs);
  write = eqb (get_or bs 16 0 % 2) 1;
  run = leb 2 (get_or bs 16 0);
}) (drop 17 bs)
unfolding numbers_in
place_there bs h f =
    rw (numbers_there 2 bs (omega arith), byte_at (λ b. ltb b 4) bs 16 (omega arith), lt-ltb (get_or bs 16 0) 4 f) refl

-- a list that stands at k
pub list_none : (most k : ℕ) (bs : List ℕ) → length bs ≤ k → (list most).read (drop k bs) ≡ lost 0
list_none most k bs h = rw (byte_none (λ b. leb b most) bs k h) refl

pub list_many : (most k : ℕ) (bs : List ℕ) → k < length bs → most < get_or bs k 0 → (list most).read (drop k bs) ≡ lost (length bs - k)
list_many most k bs h f = rw (byte_at (λ b. leb b most) bs k h, lt-leb (get_or bs k 0) most f) refl

pub list_short : (most k : ℕ) (bs : List ℕ) → k < length bs → get_or bs k 0 ≤ most → length bs < k + 1 + 8 * get_or bs k 0 →
    (list most).read (drop k bs) ≡ lost 0
list_short most k bs h f g =
    let l : length (drop (k + 1) bs) < 8 * get_or bs k 0 = rw length-drop (omega arith) in
    rw (byte_at (λ b. leb b most) bs k h, le-leb (get_or bs k 0) most f, numbers_short (get_or bs k 0) (drop (k + 1) bs) l) refl

pub list_there : (most k : ℕ) (bs : List ℕ) → k < length bs → get_or bs k 0 ≤ most → k + 1 + 8 * get_or bs k 0 ≤ length bs →
    (list most).read (drop k bs) ≡ got (numbers_in (get_or bs k 0) (drop (k + 1) bs)) (drop (k + 1 + 8 * get_or bs k 0) bs)
list_there most k bs h f g =
    let l : 8 * get_or bs k 0 ≤ length (drop (k + 1) bs) = rw length-drop (omega arith) in
    rw (
      byte_at (λ b. leb b most) bs k h,
      le-leb (get_or bs k 0) most f,
      numbers_there (get_or bs k 0) (drop (k + 1) bs) l,
      drop-drop (8 * get_or bs k 0) (k + 1) bs,
    ) refl

-- numbers in a part of bytes that holds just them
number_take : (k : ℕ) (bs : List ℕ) → number_in (take (8 + k) bs) ≡ number_in bs
number_take k bs =
    let at : (i : ℕ) → i < 8 → get_or (take (8 + k) bs) i 0 ≡ get_or bs i 0 = λ i h. get_or-take (8 + k) bs i 0 (omega arith) in
    rw (
      at 0 (omega arith),
      at 1 (omega arith),
      at 2 (omega arith),
      at 3 (omega arith),
      at 4 (omega arith),
      at 5 (omega arith),
      at 6 (omega arith),
      at 7 (omega arith),
    ) refl

-- the number in a chunk of eight bytes, at its index
pub number_of_chunks : (n i : ℕ) (bs : List ℕ) → option_map number_in (slice_get (first_chunks 8 n bs) i) ≡ slice_get (numbers_in n bs) i
unfolding numbers_in
number_of_chunks zero i bs = refl
number_of_chunks (suc n) zero bs = ap Some (number_take 0 bs)
number_of_chunks (suc n) (suc i) bs = number_of_chunks n i (drop 8 bs)

numbers_take : (n k : ℕ) (bs : List ℕ) → 8 * n ≤ k → numbers_in n (take k bs) ≡ numbers_in n bs
unfolding numbers_in
numbers_take zero k bs h = refl
numbers_take (suc n) k bs h =
    let e : k ≡ 8 + (k - 8) = omega arith in
    rw (e, number_take (k - 8) bs, drop-take 8 (k - 8) bs, numbers_take n (k - 8) (drop 8 bs) (omega arith)) refl

pub part_numbers : (n k : ℕ) (bs : List ℕ) → k ≡ 8 * n → 8 * n ≤ length bs → numbers_in (length (take k bs) / 8)
    (take k bs) ≡ numbers_in n bs
part_numbers n k bs e h =
    let l : length (take k bs) / 8 ≡ n = simp length-take (omega arith) in
    rw l (numbers_take n k bs (omega arith))

-- a shape's fields, one after another
pub body_there : (f : Fields) (s : Shape) (bs : List ℕ) (r a b e : Cursor) → r.bytes.now ≡ bs → r.at ≡ 0 →
    Read (padded s.numbers) (λ v. v) r (Ok f.numbers) a → Read (place_if s.place) place_of a (Ok f.place) b →
    Read (list_if s.list) numbers_of b (Ok f.list) e → (body (layout s)).read bs ≡ got (body_of f) (drop e.at bs)
body_there f s bs r a b e from start n p l =
    let same : e.bytes ≡ r.bytes = l.0 ∙ p.0 ∙ n.0 in
    let rest : rest_of r ≡ bs = ap (λ k. drop k r.bytes.now) start ∙ from in
    let all : (body (layout s)).read (rest_of r) ≡ got (body_of f) (drop e.at e.bytes.now) = rw (n.1, p.1, l.1) refl in
    ap (body (layout s)).read (sym rest) ∙ all ∙ ap (λ x. got (body_of f) (drop e.at x.now)) same ∙ ap (λ x. got (body_of f) (drop e.at x)) from

pub closed_long : {A : Type 0} (g : Got A) (v : A) (bs : List ℕ) (at : ℕ) → g ≡ got v (drop at bs) → at < length bs →
    closed (length bs) g ≡ Err at
closed_long g v bs at e h =
    let l : length bs - suc (length (drop (at + 1) bs)) ≡ at = rw length-drop (omega arith) in
    rw (e, drop_more bs at 0 h, l) refl

pub closed_whole : {A : Type 0} (g : Got A) (v : A) (bs : List ℕ) (at : ℕ) → g ≡ got v (drop at bs) → length bs ≤ at →
    closed (length bs) g ≡ Ok v
closed_whole g v bs at e h = rw (e, drop_all at bs h) refl
