-- Bytes written one after another.
use Rattle.std.proofs.Common.{◌≡◌, ℕ, ◌+◌, ◌-◌, ◌*◌, ◌/◌, ◌<◌, ◌≤◌, Bool, true, false, List, [], ◌∷◌, ◌++◌, length, get_or, take, drop, sym, refl, ap, ◌∙◌, append_assoc, add-zero, arith, length-append, length-drop, length-take}
use borrow.Rule.Slice.PartMut.{put_mid}
use Rattle.std.proofs.lemmas.List.{drop-drop, drop_at, take_at, take-append-drop, take_more}
use Rattle.std.proofs.ByRecursion.{All-from_get_or}
use Rattle.fields.specs.Bytes.{number_bytes, numbers_bytes, numbers_in}
use Rattle.model.specs.Calls as model
use Rattle.fields.specs.Shapes.{Body, place, list, place_if, list_if, body, layout}
use Rattle.fields.specs.declared.values.Shape.{Shape}
use Rattle.fields.specs.Steps.{Wrote, Put, Room}
use Rattle.fields.specs.declared.writing.Writer.{Writer}
use Rattle.fields.proofs.Pieces.{length_numbers_bytes, length_numbers_in, numbers_front}

pub wrote_none : (a : List ℕ) (at : ℕ) → Wrote a a at [] at
wrote_none a at = record { there = rw add-zero (sym (take-append-drop at a)); ends = sym (add-zero at); long = refl }

-- a part that was written over
pub wrote_part : (a ys bs : List ℕ) (at k e : ℕ) → ys ≡ bs → k ≡ length bs → e ≡ at + length bs → at + length bs ≤ length a →
    Wrote a (put_mid at k a ys) at bs e
wrote_part a ys bs at k e s n f h =
    let t : put_mid at k a ys ≡ take at a ++ (bs ++ drop (at + length bs) a) = rw (s, n, drop-drop (length bs) at a) refl in
    let l : length (take at a ++ (bs ++ drop (at + length bs) a)) ≡ length a =
    simp (length-append, length-take, length-drop) (omega arith) in
    record { there = t; ends = f; long = ap length t ∙ l }

-- and then more behind it
pub wrote_more : (a b c x y : List ℕ) (at m e : ℕ) → Wrote a b at x m → Wrote b c m y e → at + (length x + length y) ≤ length a →
    Wrote a c at (x ++ y) e
wrote_more a b c x y at m e v w h =
    let xy : ℕ = at + length x in
    let lx : length (take at a ++ x) ≡ m = simp (length-append, length-take) (omega (arith, v.ends)) in
    let eb : b ≡ (take at a ++ x) ++ drop xy a = v.there ∙ sym (append_assoc (take at a) x (drop xy a)) in
    let tb : take m b ≡ take at a ++ x = ap (take m) eb ∙ take_at (take at a ++ x) (drop xy a) m lx in
    let db : drop m b ≡ drop xy a = ap (drop m) eb ∙ drop_at (take at a ++ x) (drop xy a) m lx in
    let lxy : xy + length y ≡ at + length (x ++ y) = simp length-append (omega arith) in
    let dd : drop (m + length y) b ≡ drop (at + length (x ++ y)) a =
    sym (drop-drop (length y) m b) ∙ ap (drop (length y)) db ∙ drop-drop (length y) xy a ∙ ap (λ k. drop k a) lxy in
    let u : take m b ++ (y ++ drop (m + length y) b) ≡ take at a ++ ((x ++ y) ++ drop (at + length (x ++ y)) a) =
    rw (tb, dd) (simp append_assoc) in
    record { there = w.there ∙ u; ends = simp length-append (omega (arith, v.ends, w.ends)); long = w.long ∙ v.long }

-- the same bytes, said otherwise
pub wrote_is : (a b x y : List ℕ) (at e : ℕ) → y ≡ x → Wrote a b at x e → Wrote a b at y e
wrote_is a b x y at e s w = rw s w

numbers_bytes_append : (xs ys : List ℕ) → numbers_bytes (xs ++ ys) ≡ numbers_bytes xs ++ numbers_bytes ys
unfolding numbers_bytes
numbers_bytes_append [] ys = refl
numbers_bytes_append (x ∷ xs) ys =
    ap (λ t. number_bytes x ++ t) (numbers_bytes_append xs ys) ∙ sym (append_assoc (number_bytes x) (numbers_bytes xs) (numbers_bytes ys))

pub put_none : (w : Writer) → Put w w []
put_none w = record { same = refl; wrote = wrote_none w.out.now w.at }

-- and then more behind it
pub put_more : (a b c : Writer) (x y : List ℕ) → Put a b x → Put b c y → Room a (length x + length y) → Put a c (x ++ y)
put_more a b c x y v w room =
    record { same = w.same ∙ v.same; wrote = wrote_more a.out.now b.out.now c.out.now x y a.at b.at c.at v.wrote w.wrote room }

-- one number more, of those that are written in turn
pub put_next : (a b c : Writer) (ns : List ℕ) (i : ℕ) → i < length ns → Room a (8 * length ns) → Put a b (numbers_bytes (take i ns)) →
    Put b c (number_bytes (get_or ns i 0)) → Put a c (numbers_bytes (take (i + 1) ns))
unfolding numbers_bytes
put_next a b c ns i h room v w =
    let l : length (numbers_bytes (take i ns)) ≡ 8 * i = length_numbers_bytes _ ∙ ap (λ n. 8 * n) (simp length-take (omega arith)) in
    let t : numbers_bytes (take (i + 1) ns) ≡ numbers_bytes (take i ns) ++ number_bytes (get_or ns i 0) =
    ap numbers_bytes (take_more ns i 0 h) ∙ numbers_bytes_append (take i ns) (get_or ns i 0 ∷ []) in
    rw t (put_more a b c _ _ v w (omega arith))

pub room_next : (a b : Writer) (ns : List ℕ) (i : ℕ) → i < length ns → Room a (8 * length ns) → Put a b (numbers_bytes (take i ns)) →
    Room b 8
room_next a b ns i h room v =
    let l : length (numbers_bytes (take i ns)) ≡ 8 * i = length_numbers_bytes _ ∙ ap (λ n. 8 * n) (simp length-take (omega arith)) in
    omega (arith, v.wrote.ends, v.wrote.long)

-- a list's count, and its numbers
pub put_list : (a b c : Writer) (ns : List ℕ) (n : ℕ) → n ≡ length ns → Room a (1 + 8 * length ns) → Put a b (n ∷ []) →
    Put b c (numbers_bytes ns) → Put a c (length ns ∷ numbers_bytes ns)
put_list a b c ns n is room v w =
    let l : length (numbers_bytes ns) ≡ 8 * length ns = length_numbers_bytes ns in
    rw (sym is) (put_more a b c (n ∷ []) (numbers_bytes ns) v w (omega arith))

-- the whole numbers in bytes are written as they stand there
pub lent_bytes : (bs : List ℕ) → ((i : ℕ) → get_or bs i 0 < 256) → numbers_bytes (numbers_in (length bs / 8) bs) ≡ take (8 *
    (length bs / 8)) bs
lent_bytes bs t =
    let k : ℕ = length bs / 8 in
    let f = numbers_front k bs (All-from_get_or _ bs 0 (λ i _. t i)) (omega arith) in
    let l : length (numbers_bytes (numbers_in k bs)) ≡ 8 * k = length_numbers_bytes _ ∙ ap (λ n. 8 * n) (length_numbers_in k bs) in
    sym (ap (take (8 * k)) (sym f.0) ∙ take_at (numbers_bytes (numbers_in k bs)) (drop (8 * k) bs) (8 * k) l)

-- how long fields are
pub length_place : (w : model.Place) → length (place.write w) ≡ 17
unfolding numbers_bytes
length_place w = refl

pub length_place_if : (b : Bool) (w : model.Place) → length ((place_if b).write w) ≤ 17
length_place_if true w = omega (arith, length_place w)
length_place_if false w = omega arith

pub length_list : (most : ℕ) (ns : List ℕ) → length ((list most).write ns) ≡ 1 + 8 * length ns
length_list most ns = let l = length_numbers_bytes ns in omega arith

-- the first of some numbers, as a part of a slice has them
pub put_first : (a b : Writer) (ns : List ℕ) (n : ℕ) → n ≤ length ns → Put a b (numbers_bytes (take (n - 0) ns)) →
    Put a b (numbers_bytes (take n ns)) × (b.at ≡ a.at + 8 * n)
put_first a b ns n h w =
    let z : n ≡ n - 0 = omega arith in
    let v : Put a b (numbers_bytes (take n ns)) = rw z w in
    let l : length (numbers_bytes (take n ns)) ≡ 8 * n = length_numbers_bytes _ ∙ ap (λ k. 8 * k) (simp length-take (omega arith)) in
    (v, omega (arith, v.wrote.ends))

-- a whole message
pub length_message : (s : Shape) (n : ℕ) (f : Body) → length f.numbers ≡ 4 →
    length (n ∷ (body (layout s)).write f) ≡ 1 + 8 * s.numbers + length ((place_if s.place).write f.place) + length ((list_if
    s.list).write f.list)
length_message s n f h =
    let few = s.few in
    let l : length (numbers_bytes (take s.numbers f.numbers)) ≡ 8 * s.numbers =
    length_numbers_bytes _ ∙ ap (λ k. 8 * k) (simp length-take (omega arith)) in
    simp length-append (omega arith)

pub put_message : (s : Shape) (n : ℕ) (f : Body) (a b c d e : Writer) → a.at ≡ 0 → Room a (length (n ∷ (body (layout s)).write f)) →
    Put a b (n ∷ []) → Put b c (numbers_bytes (take s.numbers f.numbers)) → Put c d ((place_if s.place).write f.place) →
    Put d e ((list_if s.list).write f.list) →
    (e.at ≡ length (n ∷ (body (layout s)).write f)) × (e.out.now ≡ (n ∷ (body (layout s)).write f) ++ drop e.at a.out.now)
    × (a.out.ghost_name ≡ e.out.ghost_name)
put_message s n f a b c d e start room p q r t =
    let ns : List ℕ = numbers_bytes (take s.numbers f.numbers) in
    let pl : List ℕ = (place_if s.place).write f.place in
    let ls : List ℕ = (list_if s.list).write f.list in
    let long : length (ns ++ (pl ++ ls)) ≡ length ns + (length pl + length ls) = simp length-append in
    let room2 : a.at + (1 + (length ns + (length pl + length ls))) ≤ length a.out.now = omega (arith, room) in
    let u : Put c e (pl ++ ls) = put_more c d e pl ls r t
    (omega (arith, p.wrote.ends, p.wrote.long, q.wrote.ends, q.wrote.long)) in
    let v : Put b e (ns ++ (pl ++ ls)) = put_more b c e ns (pl ++ ls) q u
    (simp length-append (omega (arith, p.wrote.ends, p.wrote.long))) in
    let w : Put a e (n ∷ (ns ++ (pl ++ ls))) = put_more a b e (n ∷ []) (ns ++ (pl ++ ls)) p v (simp length-append (omega arith)) in
    let front : take a.at a.out.now ≡ [] = ap (λ k. take k a.out.now) start in
    let back : drop (a.at + length (n ∷ (ns ++ (pl ++ ls)))) a.out.now ≡ drop e.at a.out.now =
    ap (λ k. drop k a.out.now) (sym w.wrote.ends) in
    (omega (arith, start, w.wrote.ends), w.wrote.there ∙ rw (front, back) refl, sym w.same)
