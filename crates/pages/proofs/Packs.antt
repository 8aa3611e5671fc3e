-- Slots and places as numbers, by shifts and masks.
use Rattle.std.proofs.Common.{◌≡◌, ℕ, ◌+◌, ◌*◌, ◌%◌, ◌^◌, ◌<◌, Bool, true, false, eqb, Some, None, Option, sym, refl, ap, ◌∙◌, arith}
use lib.Bits.{bit_or}
use mir.Val.{bool_byte}
use Rattle.std.proofs.lemmas.Nat.{or_shifted}
use Rattle.std.proofs.lemmas.Bool.Decides.{nat_tests}
use Rattle.model.specs.Calls.{Place}
use Rattle.model.specs.Measured.{place_word}
use Rattle.model.specs.Pages.{Slot, nothing, closed, opened}
use Rattle.pages.specs.Packing.{bit, slot_number, slot_from, place_from, some_number, some_from}

-- a | b, where a is a multiple of 2 ^ k and b is below that
or_low : (n a k b : ℕ) → n ≡ a * 2 ^ k → b < 2 ^ k → bit_or n b ≡ n + b
or_low n a k b q h = ap (λ x. bit_or x b) q ∙ or_shifted a k b h ∙ ap (λ x. x + b) (sym q)

pub byte_bit : (b : Bool) → bool_byte b ≡ bit b
byte_bit true = refl
byte_bit false = refl

pub bit_small : (b : Bool) → bit b < 2
bit_small true = omega arith
bit_small false = omega arith

pub bit_back : (b : Bool) → eqb (bit b) 1 ≡ b
bit_back true = refl
bit_back false = refl

pub or_closed : (p x w : ℕ) → p < 2 ^ 60 → x < 2 → w < 2 →
    bit_or (bit_or (bit_or (p * 16 % 18446744073709551616) (x * 8 % 18446744073709551616)) (w * 4 % 18446744073709551616)) 1
    ≡ 16 * p + (8 * x + (4 * w + 1))
or_closed p x w h i j =
    let a : p * 16 % 18446744073709551616 ≡ p * 16 = omega arith in
    let b : x * 8 % 18446744073709551616 ≡ x * 8 = omega arith in
    let d : w * 4 % 18446744073709551616 ≡ w * 4 = omega arith in
    simp (
      a,
      b,
      d,
      or_low (p * 16) p 4 (x * 8) (omega arith) (omega arith),
      or_low (p * 16 + x * 8) (p * 2 + x) 3 (w * 4) (omega arith) (omega arith),
      or_low (p * 16 + x * 8 + w * 4) (p * 4 + x * 2 + w) 2 1 (omega arith) (omega arith),
    ) (omega arith)

pub or_opened : (p w : ℕ) → p < 2 ^ 60 → w < 2 →
    bit_or (bit_or (p * 16 % 18446744073709551616) (w * 4 % 18446744073709551616)) 2 ≡ 16 * p + (4 * w + 2)
or_opened p w h j =
    let a : p * 16 % 18446744073709551616 ≡ p * 16 = omega arith in
    let d : w * 4 % 18446744073709551616 ≡ w * 4 = omega arith in
    simp (
      a,
      d,
      or_low (p * 16) (p * 2) 3 (w * 4) (omega arith) (omega arith),
      or_low (p * 16 + w * 4) (p * 4 + w) 2 2 (omega arith) (omega arith),
    ) (omega arith)

pub or_place : (t s x w : ℕ) → t < 1024 → s < 1024 → x < 2 → w < 2 →
    bit_or (bit_or (bit_or (bit_or (t * 4194304 % 4294967296) (s * 4096 % 4294967296)) (x * 4 % 4294967296)) (w * 2 % 4294967296)) 1
    ≡ 4194304 * t + (4096 * s + (4 * x + (2 * w + 1)))
or_place t s x w h i j k =
    let a : t * 4194304 % 4294967296 ≡ t * 4194304 = omega arith in
    let b : s * 4096 % 4294967296 ≡ s * 4096 = omega arith in
    let d : x * 4 % 4294967296 ≡ x * 4 = omega arith in
    let e : w * 2 % 4294967296 ≡ w * 2 = omega arith in
    simp (
      a,
      b,
      d,
      e,
      or_low (t * 4194304) t 22 (s * 4096) (omega arith) (omega arith),
      or_low (t * 4194304 + s * 4096) (t * 1024 + s) 12 (x * 4) (omega arith) (omega arith),
      or_low (t * 4194304 + s * 4096 + x * 4) (t * 1048576 + s * 1024 + x) 2 (w * 2) (omega arith) (omega arith),
      or_low (t * 4194304 + s * 4096 + x * 4 + w * 2) (t * 2097152 + s * 2048 + x * 2 + w) 1 1 (omega arith) (omega arith),
    )
    (omega arith)

-- a place's bits as its word has them
pub place_bits : (t s : ℕ) (x w : Bool) →
    4194304 * t + (4096 * s + (4 * bit x + (2 * bit w + 1))) ≡ place_word (record { table = t; slot = s; write = w; run = x })
place_bits t s true true = refl
place_bits t s true false = refl
place_bits t s false true = refl
place_bits t s false false = refl

-- what is packed is unpacked again
pub slot_back : (z : Slot) → slot_from (slot_number z) ≡ z
slot_back nothing = refl
slot_back (closed p true true) = grind (arith, nat_tests)
slot_back (closed p true false) = grind (arith, nat_tests)
slot_back (closed p false true) = grind (arith, nat_tests)
slot_back (closed p false false) = grind (arith, nat_tests)
slot_back (opened p true) = grind (arith, nat_tests)
slot_back (opened p false) = grind (arith, nat_tests)

pub some_back : (o : Option ℕ) → some_from (some_number o) ≡ o
some_back None = refl
some_back (Some p) = grind (arith, nat_tests)

place_parts : (t j : ℕ) (w x : Bool) → j < 1024 →
    place_from (place_word (record { table = t; slot = j; write = w; run = x })) ≡ record { table = t; slot = j; write = w; run = x }
place_parts t j true true h = grind (arith, nat_tests)
place_parts t j true false h = grind (arith, nat_tests)
place_parts t j false true h = grind (arith, nat_tests)
place_parts t j false false h = grind (arith, nat_tests)

pub place_back : (w : Place) → w.slot < 1024 → place_from (place_word w) ≡ w
place_back w h = place_parts w.table w.slot w.write w.run h
