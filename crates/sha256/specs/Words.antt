-- Words as the monitor has them: four bytes each, the low one first where they are hashed.
use Rattle.std.specs.Prelude.{ℕ, zero, suc, ◌+◌, ◌*◌, ◌/◌, ◌%◌, List, [], ◌∷◌, ◌++◌, map, take, drop, replicate}
use Rattle.sha256.specs.Sha.{State, compressed}

-- words as bytes, the low byte of each first
unfoldable pub bytes_of : List ℕ → List ℕ
bytes_of [] = []
bytes_of (w ∷ ws) = w % 256 ∷ w / 256 % 256 ∷ w / 65536 % 256 ∷ w / 16777216 % 256 ∷ bytes_of ws

-- bytes as words, the low byte of each first; bytes that are missing at the end count as zeros
unfoldable pub words_of : List ℕ → List ℕ
words_of [] = []
words_of (a ∷ []) = a ∷ []
words_of (a ∷ b ∷ []) = (b * 256 + a) ∷ []
words_of (a ∷ b ∷ c ∷ []) = (c * 65536 + b * 256 + a) ∷ []
words_of (a ∷ b ∷ c ∷ d ∷ xs) = (d * 16777216 + c * 65536 + b * 256 + a) ∷ words_of xs

-- a word with its bytes in the other order: what SHA-256 reads where the low byte stands first
abbrev pub swapped : ℕ → ℕ
swapped w = w % 256 * 16777216 + w / 256 % 256 * 65536 + w / 65536 % 256 * 256 + w / 16777216 % 256

-- the hash value after one block, and after n blocks, of sixteen such words
abbrev pub block_hashed : State → List ℕ → State
block_hashed s block = compressed s (map swapped block)

unfoldable pub blocks_hashed : ℕ → State → List ℕ → State
blocks_hashed zero s ws = s
blocks_hashed (suc n) s ws = blocks_hashed n (block_hashed s (take 16 ws)) (drop 16 ws)

-- the last block of a message of whole blocks, as SHA-256 reads it: a 1, zeros, and the low 64 bits of its length in bits
abbrev pub last_words : ℕ → List ℕ
last_words bits = 2147483648 ∷ replicate 13 0 ++ bits / 4294967296 % 4294967296 ∷ bits % 4294967296 ∷ []

-- two words, filled with zeros to a block
abbrev pub two_words : ℕ → ℕ → List ℕ
two_words a b = a ∷ b ∷ replicate 14 0
