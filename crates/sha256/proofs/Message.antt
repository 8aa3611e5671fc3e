-- Blocks of words as blocks of bytes, and the padding behind them.
use Rattle.std.proofs.Common.{◌≡◌, ℕ, zero, suc, ◌+◌, ◌-◌, ◌*◌, ◌/◌, ◌%◌, ◌^◌, ◌<◌, List, [], ◌∷◌, ◌++◌, map, length, take, drop, replicate, sym, refl, ap, ◌∙◌, ap₂, append_assoc, suc-add, zero-add, arith, length-append, length-drop}
use Rattle.std.proofs.lemmas.List.{take_at, drop_at, take_all, take-append-drop, take-append-le, drop-append-le, length-take-le, nil_from_length}
use Rattle.std.proofs.lemmas.Nat.{mod-pow-add}
use Rattle.sha256.specs.Sha.{State, compressed, big_endian, big_endian_words, padded, hashed, sha256, initial, digest}
use Rattle.sha256.specs.Words.{bytes_of, swapped, block_hashed, blocks_hashed, last_words}

bytes_append : (xs ys : List ℕ) → bytes_of (xs ++ ys) ≡ bytes_of xs ++ bytes_of ys
unfolding bytes_of
bytes_append [] ys = refl
bytes_append (w ∷ xs) ys = ap (λ r. w % 256 ∷ w / 256 % 256 ∷ w / 65536 % 256 ∷ w / 16777216 % 256 ∷ r) (bytes_append xs ys)

length_bytes : (xs : List ℕ) → length (bytes_of xs) ≡ 4 * length xs
unfolding bytes_of
length_bytes [] = refl
length_bytes (w ∷ xs) = let e = length_bytes xs in omega arith

words_bytes : (xs : List ℕ) → big_endian_words (bytes_of xs) ≡ map swapped xs
unfolding bytes_of big_endian_words
words_bytes [] = refl
words_bytes (w ∷ xs) = ap (λ r. swapped w ∷ r) (words_bytes xs)

-- one block of words in front of other bytes
block_first : (n : ℕ) (s : State) (block q : List ℕ) → length block ≡ 16
    → hashed (suc n) s (bytes_of block ++ q) ≡ hashed n (block_hashed s block) q
unfolding hashed
block_first n s block q h =
    let l : length (bytes_of block) ≡ 64 = omega (arith, length_bytes block) in
    ap₂ (λ w r. hashed n (compressed s w) r)
    (ap big_endian_words (take_at (bytes_of block) q 64 l) ∙ words_bytes block) (drop_at (bytes_of block) q 64 l)

-- blocks of words in front of one more block of bytes
blocks_first : (n : ℕ) (s : State) (ws q : List ℕ) → length ws ≡ 16 * n
    → hashed (suc n) s (bytes_of ws ++ q) ≡ hashed 1 (blocks_hashed n s ws) q
unfolding blocks_hashed bytes_of
blocks_first zero s ws q h = ap (λ w. hashed 1 s (bytes_of w ++ q)) (nil_from_length ws (omega arith))
blocks_first (suc n) s ws q h =
    let block = take 16 ws in
    let rest = drop 16 ws in
    ap (λ w. hashed (suc (suc n)) s (bytes_of w ++ q)) (sym (take-append-drop 16 ws))
    ∙ ap (λ b. hashed (suc (suc n)) s (b ++ q)) (bytes_append block rest)
    ∙ ap (hashed (suc (suc n)) s) (append_assoc (bytes_of block) (bytes_of rest) q)
    ∙ block_first (suc n) s block (bytes_of rest ++ q) (length-take-le 16 ws (omega arith))
    ∙ blocks_first n (block_hashed s block) rest q (simp length-drop (omega arith))

-- blocks of words behind others
pub blocks_append : (n m : ℕ) (s : State) (xs ys : List ℕ) → length xs ≡ 16 * n
    → blocks_hashed m (blocks_hashed n s xs) ys ≡ blocks_hashed (n + m) s (xs ++ ys)
unfolding blocks_hashed
blocks_append zero m s xs ys h =
    ap₂ (λ k w. blocks_hashed k s (w ++ ys)) (sym (zero-add m)) (sym (nil_from_length xs (omega arith)))
blocks_append (suc n) m s xs ys h =
    blocks_append n m (block_hashed s (take 16 xs)) (drop 16 xs) ys (simp length-drop (omega arith))
    ∙ ap₂ (λ p q. blocks_hashed (n + m) (block_hashed s p) q)
    (sym (take-append-le 16 xs ys (omega arith))) (sym (drop-append-le 16 xs ys (omega arith)))
    ∙ ap (λ k. blocks_hashed k s (xs ++ ys)) (sym (suc-add n m))

pub no_blocks : (s : State) (ws : List ℕ) → blocks_hashed 0 s ws ≡ s
unfolding blocks_hashed
no_blocks s ws = refl

pub no_block : (s : State) (ws : List ℕ) → length ws < 16 → blocks_hashed (length ws / 16) s ws ≡ s
unfolding blocks_hashed
no_block s ws h = let none : length ws / 16 ≡ 0 = omega arith in ap (λ n. blocks_hashed n s ws) none

pub one_block : (s : State) (block : List ℕ) → length block ≡ 16 → blocks_hashed (length block / 16) s block ≡ block_hashed s block
unfolding blocks_hashed
one_block s block h =
    let one : length block / 16 ≡ 1 = omega arith in
    ap (λ n. blocks_hashed n s block) one ∙ ap (block_hashed s) (take_all 16 block (omega arith))

-- what is put behind a message of n blocks
abbrev tail : ℕ → List ℕ
tail n = 128 ∷ replicate 55 0 ++ big_endian (512 * n / 4294967296) ++ big_endian (512 * n)

padded_blocks : (m : List ℕ) (n : ℕ) → length m ≡ 64 * n → padded m ≡ m ++ tail n
padded_blocks m n h =
    let zeros : (119 - length m % 64) % 64 ≡ 55 = omega arith in
    let bits : 8 * length m ≡ 512 * n = omega arith in
    ap₂ (λ k l. m ++ (128 ∷ replicate k 0 ++ big_endian (l / 4294967296) ++ big_endian l)) zeros bits

big_endian_word : (w : ℕ)
    → w / 16777216 % 256 * 16777216 + w / 65536 % 256 * 65536 + w / 256 % 256 * 256 + w % 256 ≡ w % 4294967296
big_endian_word w = omega (arith, mod-pow-add w 8 24, mod-pow-add w 8 16, mod-pow-add w 8 8)

tail_words : (n : ℕ) → big_endian_words (take 64 (tail n)) ≡ last_words (512 * n)
unfolding big_endian_words
tail_words n =
    ap₂ (λ high low. 2147483648 ∷ replicate 13 0 ++ high ∷ low ∷ [])
    (big_endian_word (512 * n / 4294967296)) (big_endian_word (512 * n))

last_hashed : (s : State) (n : ℕ) → hashed 1 s (tail n) ≡ compressed s (last_words (512 * n))
unfolding hashed
last_hashed s n = ap (compressed s) (tail_words n)

pub sha256_blocks : (ws : List ℕ) (n : ℕ) → length ws ≡ 16 * n
    → sha256 (bytes_of ws) ≡ digest (compressed (blocks_hashed n initial ws) (last_words (512 * n)))
unfolding sha256
sha256_blocks ws n h =
    let m = bytes_of ws in
    let l : length m ≡ 64 * n = omega (arith, length_bytes ws) in
    let count : length (m ++ tail n) / 64 ≡ suc n = omega (arith, length-append m (tail n)) in
    ap (λ p. digest (hashed (length p / 64) initial p)) (padded_blocks m n l)
    ∙ ap (λ j. digest (hashed j initial (m ++ tail n))) count
    ∙ ap digest (blocks_first n initial ws (tail n) h ∙ last_hashed (blocks_hashed n initial ws) n)

-- a count of 64 bits gives the same last block
pub counted_words : (n : ℕ) → last_words (512 * (n % 2 ^ 64)) ≡ last_words (512 * n)
counted_words n =
    ap₂ (λ high low. 2147483648 ∷ replicate 13 0 ++ high ∷ low ∷ []) (omega arith) (omega arith)
