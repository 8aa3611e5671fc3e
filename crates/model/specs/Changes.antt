-- What may change of a cell, and what may not: terms in which integrity is said.
use Rattle.std.specs.Prelude.{◌≡◌, ℕ, Bool, true, false, ◌&&◌, ◌≢◌, List, [], ◌∷◌, ◌==◌, slice_index_or}
use Rattle.model.specs.Calls.{SystemCall, Call, by_system, by_cell, garbled}
use Rattle.model.specs.Calls.{how_many, new_cell, new_thread, new_table, hold, give, show, remove, seal, stop, enter, resume}
use Rattle.model.specs.Pages.{◌is◌, Entry, held_by, kind, part_of, is_cell, is_spare, cell_of}
use Rattle.model.specs.State.{Limits, State, entry}
use Rattle.model.specs.Machine.{Machine}
use Rattle.model.specs.Worlds.{World, Act, calls, writes, runs, running_cell, step}

-- Whether a page is one of the cell o, its first page too.
abbrev pub belongs : ℕ → State → ℕ → Bool
belongs o s p = cell_of p (entry s p) is o

-- Nothing of the cell o is changed: its pages are as they were, with what those have that it holds, and no page becomes one of it.
pub record Untouched (o : ℕ) (s t : State) : Type 0 where
  pub entries : (p : ℕ) → belongs o s p ≡ true → entry t p ≡ entry s p
  pub contents : (p : ℕ) → kind (entry s p) ≡ held_by o → slice_index_or t.contents p [] ≡ slice_index_or s.contents p []
  pub none_joins : (p : ℕ) → belongs o t p ≡ true → belongs o s p ≡ true

-- The same but for spare pages, which come and go.
pub record Kept (o : ℕ) (s t : State) : Type 0 where
  pub entries : (p : ℕ) → belongs o s p ≡ true → is_spare (entry s p) ≡ false → entry t p ≡ entry s p
  pub contents : (p : ℕ) → kind (entry s p) ≡ held_by o → slice_index_or t.contents p [] ≡ slice_index_or s.contents p []
  pub none_joins : (p : ℕ) → belongs o t p ≡ true → is_spare (entry t p) ≡ false → entry t p ≡ entry s p

-- Of all that there is, nothing is changed but what the page p is.
pub record Only (p : ℕ) (s t : State) : Type 0 where
  pub entries : (q : ℕ) → q ≢ p → entry t q ≡ entry s q
  pub contents : t.contents ≡ s.contents
  pub open_pages : t.open_pages ≡ s.open_pages
  pub running : t.running ≡ s.running

-- The page p becomes x, and nothing else is changed.
abbrev pub Becomes : ℕ → Entry → State → State → Type 0
Becomes p x s t = Only p s t × (entry t p ≡ x)

-- The three calls by which the system may change something of a sealed cell: to give it a spare page, to take one back, to stop it.
unfoldable pub concerns : State → ℕ → SystemCall → Bool
concerns s o how_many = false
concerns s o (new_cell p t) = false
concerns s o (new_thread p c a) = false
concerns s o (new_table p c i) = false
concerns s o (hold p c w x) = false
concerns s o (give p c) = c == o
concerns s o (show x c w) = false
concerns s o (remove p) = is_spare (entry s p) && (part_of (kind (entry s p)) is o)
concerns s o (seal c) = false
concerns s o (stop c) = c == o
concerns s o (enter t x y z) = false
concerns s o (resume t) = false

unfoldable pub stops : ℕ → SystemCall → Bool
stops o how_many = false
stops o (new_cell p t) = false
stops o (new_thread p c a) = false
stops o (new_table p c i) = false
stops o (hold p c w x) = false
stops o (give p c) = false
stops o (show x c w) = false
stops o (remove p) = false
stops o (seal c) = false
stops o (stop c) = c == o
stops o (enter t x y z) = false
stops o (resume t) = false

-- An act of others, which does not stop the cell o, and is no run of it.
unfoldable pub OthersCall : ℕ → Call → Type 0
OthersCall o (by_system c) = stops o c ≡ false
OthersCall o (by_cell c) = Unit {0}
OthersCall o (garbled n) = Unit {0}

unfoldable pub Others : ℕ → World → Act → Type 0
Others o w (calls c) = OthersCall o c
Others o w (writes x ws) = Unit {0}
Others o w (runs chance) = (running_cell w.state is o) ≡ false

abbrev pub AllOthers : Limits → Machine → ℕ → World → List Act → Type 0
AllOthers l m o w [] = Unit {0}
AllOthers l m o w (a ∷ rest) = Others o w a × AllOthers l m o (step l m w a) rest

-- The page o is a cell's first page, now and after each act.
abbrev pub StaysCell : Limits → Machine → ℕ → World → List Act → Type 0
StaysCell l m o w [] = is_cell (entry w.state o) ≡ true
StaysCell l m o w (a ∷ rest) = (is_cell (entry w.state o) ≡ true) × StaysCell l m o (step l m w a) rest
