-- The message schedule as a window of sixteen words that moves on with the rounds, as the code has it.
use Rattle.std.specs.Prelude.{ℕ, List, [], ◌∷◌, ◌++◌, drop, slice_index}
use Rattle.sha256.specs.Sha.{State, ◌⊞◌, next_word, round}
use Rattle.sha256.specs.declared.Hash.{Hash}
use Rattle.sha256.specs.declared.rounds.Window.{Window}
use Rattle.sha256.specs.declared.rounds.Work.{Work}

-- the code's hash value and window as the definition has them
abbrev pub state_of : Hash → State
state_of x = record { a = x.a; b = x.b; c = x.c; d = x.d; e = x.e; f = x.f; g = x.g; h = x.h }

-- the code's hash value of the definition's: state_of the other way round
abbrev pub hash_of : State → Hash
hash_of s = record { a = s.a; b = s.b; c = s.c; d = s.d; e = s.e; f = s.f; g = s.g; h = s.h }

abbrev pub words_in : Window → List ℕ
words_in w = w.w0 ++ (w.w4 ++ (w.w8 ++ w.w12))

-- the oldest word leaves the window, and the next word of the schedule joins it
abbrev pub moved : List ℕ → List ℕ
moved w = drop 1 w ++ next_word w ∷ []

-- the four words that join it next
abbrev pub next_four : List ℕ → List ℕ
next_four w = drop 12 (moved (moved (moved (moved w))))

-- a round for each constant, with the oldest word of a window that then moves on
unfoldable pub rolled : State → List ℕ → List ℕ → State
rolled s [] w = s
rolled s (k ∷ ks) w = rolled (round s (k ⊞ slice_index w 0)) ks (moved w)

-- what work under way comes to over the constants that are left
unfoldable pub outcome : Work → List ℕ → State
outcome work ks = rolled (state_of work.hash) ks (words_in work.window)
