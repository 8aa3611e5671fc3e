-- Places, lists and whole shapes keep their promises.
use Rattle.std.proofs.Common.{◌≡◌, ℕ, zero, suc, ◌-◌, ◌%◌, ◌^◌, ◌<◌, Bool, true, false, eqb, ltb, leb, List, [], ◌∷◌, length, get_or, take, replicate, Some, None, Option, refl, arith, ltb-true, lt-ltb, le-leb}
use Rattle.std.proofs.ByRecursion.{All-take}
use Rattle.std.proofs.lemmas.List.{take_at}
use Rattle.model.specs.Calls as model
use Rattle.fields.specs.Bytes.{Wide}
use Rattle.fields.specs.Codec.{numbers}
use Rattle.fields.specs.Shapes.{Layout, padded, rights, to_place, from_place, place, origin, list, place_if, list_if, to_body}
use Rattle.fields.specs.Shapes.{from_body, body}
use Rattle.fields.proofs.Lawful.{Lawful, lawful_both, lawful_via}
use Rattle.fields.proofs.Pieces.{lawful_nothing, lawful_byte, lawful_numbers}

pub lawful_padded : (n : ℕ) → Lawful (padded n)
lawful_padded n = lawful_via _ _ (numbers n) (lawful_numbers n) (λ ns f. take_at ns (replicate (4 - n) 0) n f.0)

pub two : (ns : List ℕ) → length ns ≡ 2 → get_or ns 0 0 ∷ (get_or ns 1 0 ∷ []) ≡ ns
two [] h = absurd (omega arith)
two (x ∷ []) h = absurd (omega arith)
two (x ∷ (y ∷ [])) h = refl
two (x ∷ (y ∷ (z ∷ zs))) h = absurd (omega arith)

-- a byte of rights has nothing but the two
pub rights_again : (b : ℕ) → b < 4 → rights (eqb (b % 2) 1) (leb 2 b) ≡ b
rights_again zero h = refl
rights_again (suc zero) h = refl
rights_again (suc (suc zero)) h = refl
rights_again (suc (suc (suc zero))) h = refl
rights_again (suc (suc (suc (suc b)))) h = absurd (omega arith)

place_again : (v : List ℕ × ℕ) → ((length v.0 ≡ 2) × Wide v.0) × (ltb v.1 4 ≡ true) → from_place (to_place v) ≡ v
place_again v f = rw (two v.0 f.0.0, rights_again v.1 (ltb-true v.1 4 f.1)) refl

pub lawful_place : Lawful place
lawful_place = lawful_via to_place from_place _ (lawful_both (numbers 2) _ (lawful_numbers 2) (λ _ _. lawful_byte _ refl)) place_again

pub lawful_list : (most : ℕ) → Lawful (list most)
lawful_list most =
    lawful_via _ _ _ (lawful_both _ numbers (lawful_byte _ (le-leb 0 most (omega arith))) (λ n _. lawful_numbers n))
    (λ v f. rw f.1.0 refl)

lawful_place_if : (b : Bool) → Lawful (place_if b)
lawful_place_if true = lawful_place
lawful_place_if false = lawful_nothing origin

lawful_list_if : (o : Option ℕ) → Lawful (list_if o)
lawful_list_if (Some most) = lawful_list most
lawful_list_if None = lawful_nothing []

pub lawful_body : (s : Layout) → Lawful (body s)
lawful_body s =
    lawful_via to_body from_body _
    (lawful_both (padded s.numbers) _ (lawful_padded s.numbers)
    (λ _ _. lawful_both (place_if s.place) _ (lawful_place_if s.place) (λ _ _. lawful_list_if s.list)))
    (λ v f. refl)

-- which numbers, places and lists their bytes can carry
pub wide_first : (k : ℕ) (ns : List ℕ) → Wide ns → Wide (take k ns)
wide_first k ns h = All-take (λ n. n < 2 ^ 64) k ns h

rights_few : (w x : Bool) → rights w x < 4
rights_few true true = omega arith
rights_few true false = omega arith
rights_few false true = omega arith
rights_few false false = omega arith

rights_back : (t s : ℕ) (w x : Bool) → to_place (from_place (record { table = t; slot = s; write = w; run = x })) ≡ record {
  table =
      t;
  slot = s;
  write = w;
  run = x;
}
rights_back t s true true = refl
rights_back t s true false = refl
rights_back t s false true = refl
rights_back t s false false = refl

pub place_fits : (w : model.Place) → w.table < 2 ^ 64 → w.slot < 2 ^ 64 → place.fits w
place_fits w h k = (
  ((refl, (h, (k, tt))), lt-ltb (rights w.write w.run) 4 (rights_few w.write w.run)),
  rights_back w.table w.slot
      w.write w.run,
)

pub list_fits : (most : ℕ) (l : List ℕ) → leb (length l) most ≡ true → Wide l → (list most).fits l
list_fits most l h k = ((h, (refl, k)), refl)
