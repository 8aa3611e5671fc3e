-- What is written of a record, where only what a kind of page has a use for is written, and which entries that suits.
use Rattle.std.specs.Prelude.{◌≡◌, ℕ, ◌+◌, ◌*◌, ◌≤◌, List, length, replicate, slice_index}
use Rattle.model.specs.Pages as model
use Rattle.pages.specs.Rows.{numbers_put}
use Rattle.pages.specs.Meaning.{beginning, record_in}
use Rattle.pages.specs.declared.values.Record.{Record}
use Rattle.pages.specs.declared.values.Record.TheVariants as rec

-- the memory has a record for each closed page, and no more, and there are not too many pages
pub record Sized (m : List ℕ) : Type 0 where
  pub long : length m ≡ 256 + slice_index m 0 * 2048
  pub few : slice_index m 0 ≤ 4096
  pub few_open : slice_index m 1 ≤ 1048576

-- a record that begins anew: its list is left as it was
abbrev pub begun : List ℕ → ℕ → Record → List ℕ
begun m p x = numbers_put m p 0 (beginning x)

-- how many numbers of its record a kind of page has a use for: the first four, and those of its list
abbrev pub used : Record → ℕ
used rec.Free = 4
used (rec.Cell t f) = 13
used (rec.Thread c a u) = 21
used (rec.Top c) = 260
used (rec.Table c) = 1028
used (rec.Held c) = 4
used (rec.Spare c) = 4

-- a record in which each of those is 0
abbrev pub cleared : List ℕ → ℕ → List ℕ
cleared m p = numbers_put m p 0 (replicate (used (record_in m p)) 0)

-- the record of such an entry has nothing but its first four numbers
abbrev pub Bare : model.Entry → Type 0
Bare model.free = Unit {0}
Bare (model.cell x) = ⊥
Bare (model.thread x) = ⊥
Bare (model.top x) = ⊥
Bare (model.table x) = ⊥
Bare (model.held x) = Unit {0}
Bare (model.spare x) = Unit {0}

-- the list of such an entry is not longer than its kind has a use for
abbrev pub FitsList : model.Entry → Type 0
FitsList model.free = Unit {0}
FitsList (model.cell x) = Unit {0}
FitsList (model.thread x) = length x.registers ≤ 17
FitsList (model.top x) = length x.tables ≤ 256
FitsList (model.table x) = length x.slots ≤ 1024
FitsList (model.held x) = Unit {0}
FitsList (model.spare x) = Unit {0}

-- it is no cell, so its list is zeros where it begins
abbrev pub NoCell : Record → Type 0
NoCell rec.Free = Unit {0}
NoCell (rec.Cell t f) = ⊥
NoCell (rec.Thread c a u) = Unit {0}
NoCell (rec.Top c) = Unit {0}
NoCell (rec.Table c) = Unit {0}
NoCell (rec.Held c) = Unit {0}
NoCell (rec.Spare c) = Unit {0}
