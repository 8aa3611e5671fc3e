-- What it is for a hash value and a count of blocks, and so for a measure, to stand for words; and what a measure alone says,
-- whatever words it stands for: the measure after more words, and the name.
use Rattle.std.specs.Prelude.{◌≡◌, ℕ, ◌+◌, ◌*◌, ◌/◌, ◌%◌, ◌^◌, List, length}
use Rattle.sha256.specs.Sha.{initial, compressed, digest}
use Rattle.sha256.specs.Words.{words_of, blocks_hashed, last_words}
use Rattle.sha256.specs.Window.{state_of, hash_of}
use Rattle.sha256.specs.declared.Hash.{Hash}
use Rattle.sha256.specs.declared.Measure.{Measure}

-- the words are so many whole blocks, the hash value is the one after them, and the count has the low 64 bits of their number
pub record Hashes (hash : Hash) (count : ℕ) (ws : List ℕ) : Type 0 where
  pub blocks : ℕ
  pub whole : length ws ≡ 16 * blocks
  pub counted : count ≡ blocks % 2 ^ 64
  pub state : state_of hash ≡ blocks_hashed blocks initial ws

-- the words that a measure stands for
abbrev pub Measures : Measure → List ℕ → Type 0
Measures m ws = Hashes m.hash m.blocks ws

-- the measure after the whole blocks of some words more
abbrev pub more_measured : Measure → List ℕ → Measure
more_measured k ws =
    record {
      hash = hash_of (blocks_hashed (length ws / 16) (state_of k.hash) ws);
      blocks = (k.blocks + length ws / 16) % 2 ^ 64;
    }

-- the digest after the last block, which has the length that the count of blocks gives, as words with the low byte first
unfoldable pub name_words : Measure → List ℕ
name_words k = words_of (digest (compressed (state_of k.hash) (last_words (512 * k.blocks))))
