-- The words of a line: what stands between spaces, of which there may be several, and some in front and at the end.
use Rattle.std.specs.Prelude.{ℕ, cond, List, [], ◌∷◌, ◌==◌}
use Rattle.script.specs.declared.words.Words.{Words}

-- a word in front of words, if there is anything of it
abbrev pub in_front : List ℕ → List (List ℕ) → List (List ℕ)
in_front [] ws = ws
in_front (b ∷ bs) ws = (b ∷ bs) ∷ ws

-- what stands in front of the first space, and the words behind it
abbrev pub parted : List ℕ → List ℕ × List (List ℕ)
parted [] = ([], [])
parted (b ∷ bs) = cond (b == 32) ([], in_front (parted bs).0 (parted bs).1) (b ∷ (parted bs).0, (parted bs).1)

-- the words of a text
unfoldable pub words : List ℕ → List (List ℕ)
words bs = in_front (parted bs).0 (parted bs).1

-- the words that a text still has
abbrev pub words_left : Words → List (List ℕ)
words_left w = words w.0.now
