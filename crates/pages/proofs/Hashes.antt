-- The running hash of measured words.
use Rattle.std.proofs.Common.{◌≡◌, ℕ, zero, suc, ◌/◌, ◌%◌, ◌^◌, ◌<◌, List, ◌∷◌, length, take, drop, ap, ◌∙◌, ap₂, arith}
use Rattle.sha256.specs.Sha.{State, initial, compressed}
use Rattle.sha256.specs.Words.{blocks_hashed, block_hashed}
use Rattle.sha256.specs.Measures.{Measures}
use Rattle.sha256.specs.declared.Measure.{Measure}
use Rattle.pages.specs.Layout.{hash_words, running_hash}
use Rattle.pages.specs.Meaning.{measure_words}

-- a measure that stands for words is their running hash
pub measure_is : (x : Measure) (ws : List ℕ) → Measures x ws → measure_words x ≡ running_hash ws
measure_is x ws h =
    let n : h.blocks ≡ length ws / 16 = omega (arith, h.whole) in
    ap₂ (λ (k : ℕ) (s : State). k ∷ hash_words s) (h.counted ∙ ap (λ k. k % 2 ^ 64) n)
    (h.state ∙ ap (λ k. blocks_hashed k initial ws) n)

-- a hash value that is made of words of 32 bits
abbrev pub Words : State → Type 0
Words s =
    (s.a < 2 ^ 32) × (s.b < 2 ^ 32) × (s.c < 2 ^ 32) × (s.d < 2 ^ 32)
    × (s.e < 2 ^ 32) × (s.f < 2 ^ 32) × (s.g < 2 ^ 32) × (s.h < 2 ^ 32)

compressed_words : (s : State) (ws : List ℕ) → Words (compressed s ws)
unfolding compressed
compressed_words s ws = (omega arith, omega arith, omega arith, omega arith, omega arith, omega arith, omega arith, omega arith)

hashed_words : (n : ℕ) (s : State) (ws : List ℕ) → Words s → Words (blocks_hashed n s ws)
unfolding blocks_hashed
hashed_words zero s ws h = h
hashed_words (suc n) s ws h = hashed_words n (block_hashed s (take 16 ws)) (drop 16 ws) (compressed_words s _)

pub words_hashed : (n : ℕ) (ws : List ℕ) → Words (blocks_hashed n initial ws)
words_hashed n ws =
    hashed_words n initial ws (omega arith, omega arith, omega arith, omega arith, omega arith, omega arith, omega arith, omega arith)

-- the low bits of a word, where it is read
pub low : (n w : ℕ) → n ≡ w → w < 2 ^ 32 → n % 4294967296 ≡ w
low n w q h = omega arith

pub same_state : (s : State) (a b c d e f g h : ℕ) → a ≡ s.a → b ≡ s.b → c ≡ s.c → d ≡ s.d →
    e ≡ s.e → f ≡ s.f → g ≡ s.g → h ≡ s.h →
    ◌≡◌ {A = State} (record { a = a; b = b; c = c; d = d; e = e; f = f; g = g; h = h }) s
same_state s a b c d e f g h i j k l m n o p = simp (i, j, k, l, m, n, o, p)
