-- SHA-256 as FIPS 180-4 has it, on numbers. A byte is a number below 256, a word one below 2 ^ 32.
-- Numbers of sections are the standard's. These are definitions: they assume nothing.
use Rattle.std.specs.Prelude.{ℕ, zero, suc, ◌+◌, ◌-◌, ◌*◌, ◌/◌, ◌%◌, ◌^◌, List, [], ◌∷◌, ◌++◌, length, take, drop, replicate, bit_and, bit_or, bit_xor, slice_index}

infixl 6 ◌⊞◌
-- 3.2: the sum of two words, modulo 2 ^ 32
abbrev pub ◌⊞◌ : ℕ → ℕ → ℕ
a ⊞ b = (a + b) % 4294967296

-- 3.2: a word shifted to the right by n bits
abbrev pub shr : ℕ → ℕ → ℕ
shr n x = x / 2 ^ n

-- 3.2: a word rotated to the right by n bits
abbrev pub rotr : ℕ → ℕ → ℕ
rotr n x = bit_or (x / 2 ^ n) (x * 2 ^ (32 - n) % 2 ^ 32)

-- 4.1.2: each bit of x chooses, the bit of y where it is 1 and else that of z; 2 ^ 32 - 1 - x is x with each bit turned
abbrev pub ch : ℕ → ℕ → ℕ → ℕ
ch x y z = bit_xor (bit_and x y) (bit_and (4294967295 - x) z)

-- 4.1.2: of each bit, what at least two of three words have
abbrev pub maj : ℕ → ℕ → ℕ → ℕ
maj x y z = bit_xor (bit_xor (bit_and x y) (bit_and x z)) (bit_and y z)

-- 4.1.2: a word mixed with itself, as a round does to a and to e
abbrev pub Σ₀ : ℕ → ℕ
Σ₀ x = bit_xor (bit_xor (rotr 2 x) (rotr 13 x)) (rotr 22 x)

abbrev pub Σ₁ : ℕ → ℕ
Σ₁ x = bit_xor (bit_xor (rotr 6 x) (rotr 11 x)) (rotr 25 x)

-- 4.1.2: a word mixed with itself, as the message schedule does
abbrev pub σ₀ : ℕ → ℕ
σ₀ x = bit_xor (bit_xor (rotr 7 x) (rotr 18 x)) (shr 3 x)

abbrev pub σ₁ : ℕ → ℕ
σ₁ x = bit_xor (bit_xor (rotr 17 x) (rotr 19 x)) (shr 10 x)

-- 4.2.2: the constants K, one for each round
abbrev pub constants : List ℕ
constants =
    0x428a2f98 ∷ 0x71374491 ∷ 0xb5c0fbcf ∷ 0xe9b5dba5 ∷ 0x3956c25b ∷ 0x59f111f1 ∷ 0x923f82a4 ∷ 0xab1c5ed5 ∷
    0xd807aa98 ∷ 0x12835b01 ∷ 0x243185be ∷ 0x550c7dc3 ∷ 0x72be5d74 ∷ 0x80deb1fe ∷ 0x9bdc06a7 ∷ 0xc19bf174 ∷
    0xe49b69c1 ∷ 0xefbe4786 ∷ 0x0fc19dc6 ∷ 0x240ca1cc ∷ 0x2de92c6f ∷ 0x4a7484aa ∷ 0x5cb0a9dc ∷ 0x76f988da ∷
    0x983e5152 ∷ 0xa831c66d ∷ 0xb00327c8 ∷ 0xbf597fc7 ∷ 0xc6e00bf3 ∷ 0xd5a79147 ∷ 0x06ca6351 ∷ 0x14292967 ∷
    0x27b70a85 ∷ 0x2e1b2138 ∷ 0x4d2c6dfc ∷ 0x53380d13 ∷ 0x650a7354 ∷ 0x766a0abb ∷ 0x81c2c92e ∷ 0x92722c85 ∷
    0xa2bfe8a1 ∷ 0xa81a664b ∷ 0xc24b8b70 ∷ 0xc76c51a3 ∷ 0xd192e819 ∷ 0xd6990624 ∷ 0xf40e3585 ∷ 0x106aa070 ∷
    0x19a4c116 ∷ 0x1e376c08 ∷ 0x2748774c ∷ 0x34b0bcb5 ∷ 0x391c0cb3 ∷ 0x4ed8aa4a ∷ 0x5b9cca4f ∷ 0x682e6ff3 ∷
    0x748f82ee ∷ 0x78a5636f ∷ 0x84c87814 ∷ 0x8cc70208 ∷ 0x90befffa ∷ 0xa4506ceb ∷ 0xbef9a3f7 ∷ 0xc67178f2 ∷ []

-- eight words: a hash value, or the working variables of a round
pub record State : Type 0 where
  pub a : ℕ
  pub b : ℕ
  pub c : ℕ
  pub d : ℕ
  pub e : ℕ
  pub f : ℕ
  pub g : ℕ
  pub h : ℕ

-- 5.3.3: the initial hash value
abbrev pub initial : State
initial =
    record {
      a = 0x6a09e667;
      b = 0xbb67ae85;
      c = 0x3c6ef372;
      d = 0xa54ff53a;
      e = 0x510e527f;
      f = 0x9b05688c;
      g = 0x1f83d9ab;
      h = 0x5be0cd19;
    }

-- 6.2.2, step 1: the word of the message schedule that comes after those in w
abbrev pub next_word : List ℕ → ℕ
next_word w =
    σ₁ (slice_index w (length w - 2)) ⊞ slice_index w (length w - 7) ⊞ σ₀ (slice_index w (length w - 15)) ⊞ slice_index w (length w - 16)

-- w with n more words of the schedule behind
unfoldable pub extended : ℕ → List ℕ → List ℕ
extended zero w = w
extended (suc n) w = extended n (w ++ next_word w ∷ [])

-- the message schedule of a block: its sixteen words and 48 more
abbrev pub schedule : List ℕ → List ℕ
schedule block = extended 48 block

-- 6.2.2, step 3: one round, with the sum of its constant and its word of the schedule
abbrev pub round : State → ℕ → State
round s kw =
    let t₁ : ℕ = s.h ⊞ Σ₁ s.e ⊞ ch s.e s.f s.g ⊞ kw in
    let t₂ : ℕ = Σ₀ s.a ⊞ maj s.a s.b s.c in
    record { a = t₁ ⊞ t₂; b = s.a; c = s.b; d = s.c; e = s.d ⊞ t₁; f = s.e; g = s.f; h = s.g }

-- 6.2.2, step 3: a round for each constant, with the words of the schedule
unfoldable pub rounds : State → List ℕ → List ℕ → State
rounds s [] ws = s
rounds s (k ∷ ks) [] = s
rounds s (k ∷ ks) (w ∷ ws) = rounds (round s (k ⊞ w)) ks ws

-- 6.2.2, step 4: the sum of two hash values, word by word
abbrev pub added : State → State → State
added s t =
    record {
      a = s.a ⊞ t.a;
      b = s.b ⊞ t.b;
      c = s.c ⊞ t.c;
      d = s.d ⊞ t.d;
      e = s.e ⊞ t.e;
      f = s.f ⊞ t.f;
      g = s.g ⊞ t.g;
      h = s.h ⊞ t.h;
    }

-- 6.2.2: the hash value after a block of sixteen words
unfoldable pub compressed : State → List ℕ → State
compressed s block = added s (rounds s constants (schedule block))

-- 3.1: a word as four bytes, the high one first; of a larger number, its low 32 bits
abbrev pub big_endian : ℕ → List ℕ
big_endian w = w / 16777216 % 256 ∷ w / 65536 % 256 ∷ w / 256 % 256 ∷ w % 256 ∷ []

-- 3.1: bytes as words, the high byte first; fewer than four bytes at the end are no word
unfoldable pub big_endian_words : List ℕ → List ℕ
big_endian_words [] = []
big_endian_words (a ∷ []) = []
big_endian_words (a ∷ b ∷ []) = []
big_endian_words (a ∷ b ∷ c ∷ []) = []
big_endian_words (a ∷ b ∷ c ∷ d ∷ xs) = (a * 16777216 + b * 65536 + c * 256 + d) ∷ big_endian_words xs

-- 5.1.1: a message with its padding: a 1 and zeros up to 56 bytes of a block, then the message's length in bits, in eight
-- bytes. The standard has messages of fewer than 2 ^ 64 bits; for a longer one these are the low 64 bits of its length.
abbrev pub padded : List ℕ → List ℕ
padded m =
    m ++ (128 ∷ replicate ((119 - length m % 64) % 64) 0 ++ big_endian (8 * length m / 4294967296) ++ big_endian (8 * length m))

-- 6.2.2: the hash value after n blocks of 64 bytes
unfoldable pub hashed : ℕ → State → List ℕ → State
hashed zero s m = s
hashed (suc n) s m = hashed n (compressed s (big_endian_words (take 64 m))) (drop 64 m)

-- 6.2: a hash value as bytes
abbrev pub digest : State → List ℕ
digest s =
    big_endian s.a ++ big_endian s.b ++ big_endian s.c ++ big_endian s.d
    ++ big_endian s.e ++ big_endian s.f ++ big_endian s.g ++ big_endian s.h

-- 6.2: SHA-256 of a message, bytes to bytes
unfoldable pub sha256 : List ℕ → List ℕ
sha256 m = digest (hashed (length (padded m) / 64) initial (padded m))
