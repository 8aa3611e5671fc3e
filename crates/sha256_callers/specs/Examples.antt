-- What the callers' contracts cite: a page in memory, examples of SHA-256, and its padding within the standard's limit.
use Rattle.std.specs.Prelude.{◌≡◌, ℕ, ◌+◌, ◌*◌, ◌/◌, ◌^◌, ◌<◌, List, [], ◌∷◌, ◌++◌, length, take, drop, codes}
use Rattle.sha256.specs.Sha.{sha256, big_endian}
use Rattle.sha256.specs.Words.{bytes_of, words_of, two_words}

-- page p of pages that stand one after the other
abbrev pub page_at : ℕ → List ℕ → List ℕ
page_at p memory = take 1024 (drop (1024 * p) memory)

abbrev pub FirstExample : Type 0
FirstExample =
    sha256 (codes "abc") ≡
    0xba ∷ 0x78 ∷ 0x16 ∷ 0xbf ∷ 0x8f ∷ 0x01 ∷ 0xcf ∷ 0xea ∷ 0x41 ∷ 0x41 ∷ 0x40 ∷ 0xde ∷ 0x5d ∷ 0xae ∷ 0x22 ∷ 0x23 ∷
    0xb0 ∷ 0x03 ∷ 0x61 ∷ 0xa3 ∷ 0x96 ∷ 0x17 ∷ 0x7a ∷ 0x9c ∷ 0xb4 ∷ 0x10 ∷ 0xff ∷ 0x61 ∷ 0xf2 ∷ 0x00 ∷ 0x15 ∷ 0xad ∷ []

abbrev pub SecondExample : Type 0
SecondExample =
    sha256 (codes "abcdbcdecdefdefgefghfghighijhijkijkljklmklmnlmnomnopnopq") ≡
    0x24 ∷ 0x8d ∷ 0x6a ∷ 0x61 ∷ 0xd2 ∷ 0x06 ∷ 0x38 ∷ 0xb8 ∷ 0xe5 ∷ 0xc0 ∷ 0x26 ∷ 0x93 ∷ 0x0c ∷ 0x3e ∷ 0x60 ∷ 0x39 ∷
    0xa3 ∷ 0x3c ∷ 0xe4 ∷ 0x59 ∷ 0x64 ∷ 0xff ∷ 0x21 ∷ 0x67 ∷ 0xf6 ∷ 0xec ∷ 0xed ∷ 0xd4 ∷ 0x19 ∷ 0xdb ∷ 0x06 ∷ 0xc1 ∷ []

abbrev pub KnownName : Type 0
KnownName =
    words_of (sha256 (bytes_of (two_words 2 4096))) ≡
    2679725656 ∷ 1180564849 ∷ 4218349236 ∷ 3221858598 ∷ 1795978103 ∷ 3783897963 ∷ 2335176584 ∷ 2333515072 ∷ []

-- eight bytes as a number, the high one first
abbrev pub number : List ℕ → ℕ
number [] = 0
number (b ∷ bs) = b * 256 ^ length bs + number bs

abbrev pub LengthFits : Type 0
LengthFits =
    (m : List ℕ) → 8 * length m < 2 ^ 64
    → number (big_endian (8 * length m / 4294967296) ++ big_endian (8 * length m)) ≡ 8 * length m
