-- What is measured of a cell while it is built, and the name that it makes.
use Rattle.std.specs.Prelude.{ℕ, ◌+◌, ◌*◌, cond, List, [], ◌∷◌, ◌++◌, replicate}
use Rattle.sha256.specs.Sha.{sha256}
use Rattle.sha256.specs.Words.{bytes_of, words_of}
use Rattle.model.specs.Calls.{Place}

-- What a cell is built of, as far as it is measured.
pub data Part : Type 0 where
  thread_from : ℕ → Part  -- a thread, by the address where it starts
  page_at : Place → List ℕ → Part  -- a held page, by where it is seen and what it has

-- A place as a word: the slot's number from bit 12, the table's from bit 22, 4 if it may be run, 2 if written, and 1.
abbrev pub place_word : Place → ℕ
place_word w = 4194304 * w.table + (4096 * w.slot + (cond w.run 4 0 + (cond w.write 2 0 + 1)))

-- Two words, filled with zeros to a block of sixteen.
abbrev pub block : ℕ → ℕ → List ℕ
block a b = a ∷ b ∷ replicate 14 0

-- The words that are measured of a part: whole blocks, and the contents behind them.
unfoldable pub part_words : Part → List ℕ
part_words (thread_from a) = block 2 a
part_words (page_at w ws) = block 4 (place_word w) ++ ws

-- What was measured of a cell so far. It is used only by the three functions below.
abbrev pub Measured : Type 0
Measured = List ℕ

abbrev pub none_yet : Measured
none_yet = []

abbrev pub more : Measured → Part → Measured
more m x = m ++ part_words x

-- A cell's name: the SHA-256 of what was measured, as eight words, each of four bytes with the low one first.
unfoldable pub name : Measured → List ℕ
name m = words_of (sha256 (bytes_of m))
