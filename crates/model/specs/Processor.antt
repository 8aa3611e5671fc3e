-- Processors: machines that go step by step. In each step a processor looks at words by a cell's tables, and then changes its
-- registers and at most one word, or calls. It is a machine by construction, and as such does what it does on the pages in place.
use Rattle.std.specs.Prelude.{◌≡◌, ℕ, zero, suc, ◌/◌, ◌%◌, Bool, true, false, cond, ◌&&◌, List, ◌==◌, slice_index, slice_set}
use Rattle.model.specs.Calls.{CellCall, interrupt}
use Rattle.model.specs.Pages.{Slot, nothing, closed, opened, table_at, slot_in}
use Rattle.model.specs.State.{State, word, seventeen}
use Rattle.model.specs.Refusals.{cell_fits}
use Rattle.model.specs.Machine.{View, Sight, Machine, words_behind, write_behind, ended_by}
use Rattle.model.specs.Worlds.{World}

-- An address is that of a byte: which table, which slot of it, which word of the page there.
abbrev pub table_number : ℕ → ℕ
table_number a = a / 4194304

abbrev pub slot_number : ℕ → ℕ
slot_number a = a / 4096 % 1024

abbrev pub word_number : ℕ → ℕ
word_number a = a / 4 % 1024

-- What is seen at an address: nothing, or a word, which may be written or not, and run or not.
pub data Seen : Type 0 where
  unseen : Seen
  seen : Bool → Bool → ℕ → Seen

unfoldable pub seen_in : Slot → List ℕ → ℕ → Seen
seen_in nothing ws k = unseen
seen_in (closed p w x) ws k = seen w x (slice_index ws k)
seen_in (opened o w) ws k = seen w false (slice_index ws k)

-- What a step comes to: registers; registers, and a word at an address; or registers, and a call.
pub data Step : Type 0 where
  moves : List ℕ → Step
  stores : List ℕ → ℕ → ℕ → Step
  asks : List ℕ → CellCall → Step

-- A processor: a step, from its registers, what is seen at each address, and a number that stands for chance.
abbrev pub Processor : Type 0
Processor = List ℕ → (ℕ → Seen) → ℕ → Step

-- Memory of any kind, in which a processor looks and stores.
pub record Memory (A : Type 0) : Type 0 where
  pub look : A → ℕ → Seen
  pub store : A → ℕ → ℕ → A

pub record Came (A : Type 0) : Type 0 where
  pub registers : List ℕ
  pub memory : A
  pub ends : CellCall

-- A step with what comes after it; and so many steps at most, after which it is interrupted.
unfoldable pub then : {A : Type 0} → Memory A → (List ℕ → A → Came A) → A → Step → Came A
then m go a (moves rs) = go rs a
then m go a (stores rs x v) = go rs (m.store a x v)
then m go a (asks rs c) = record { registers = rs; memory = a; ends = c }

unfoldable pub steps : {A : Type 0} → Memory A → Processor → ℕ → ℕ → List ℕ → A → Came A
steps m f zero chance rs a = record { registers = rs; memory = a; ends = interrupt rs }
steps m f (suc n) chance rs a = then m (steps m f n chance) a (f rs (m.look a) chance)

-- What is seen place by place is a memory: a word that is written is seen wherever the same page is.
unfoldable pub writes_to : Slot → Slot → Bool
writes_to nothing z = false
writes_to (closed p w x) nothing = false
writes_to (closed p w x) (closed q v y) = w && p == q
writes_to (closed p w x) (opened q v) = false
writes_to (opened p w) nothing = false
writes_to (opened p w) (closed q v y) = false
writes_to (opened p w) (opened q v) = w && p == q

abbrev pub overwritten : View → View → ℕ → ℕ → View
overwritten x y k v = record { slot = y.slot; words = cond (writes_to x.slot y.slot) (slice_set y.words k v) y.words }

abbrev pub by_sight : Memory Sight
by_sight = record {
  look = λ u a. let y : View = u (table_number a) (slot_number a) in seen_in y.slot y.words (word_number a);
  store = λ u a v. (λ i j. overwritten (u (table_number a) (slot_number a)) (u i j) (word_number a) v);
}

-- So are the pages themselves, in place, by the tables of a cell.
abbrev pub slot_for : State → ℕ → ℕ → Slot
slot_for s c a = slot_in s.entries (table_at s.entries c (table_number a)) (slot_number a)

abbrev pub in_place : ℕ → Memory State
in_place c = record {
  look = λ s a. seen_in (slot_for s c a) (words_behind s (slot_for s c a)) (word_number a);
  store = λ s a v. let z : Slot = slot_for s c a in write_behind z (slice_set (words_behind s z) (word_number a) v) s;
}

-- Chance says after how many steps a run is interrupted, and which number is drawn.
abbrev pub patience : ℕ → ℕ
patience chance = chance / 4294967296

abbrev pub drawn : ℕ → ℕ
drawn chance = chance % 4294967296

-- A processor is a machine, with the registers with which it goes on.
abbrev pub machine_of : Processor → (List ℕ → ℕ → List ℕ → List ℕ) → Machine
machine_of f g = record {
  runs = λ rs u chance.
      let e : Came Sight = steps by_sight f (patience chance) (drawn chance) rs u in
      record { registers = e.registers; words = λ i j. (e.memory i j).words; ends = e.ends };
  goes_on = g;
}

-- What it does on the pages in place, in a run of the cell c.
abbrev pub played : Processor → World → ℕ → ℕ → Came State
played f w c chance = steps (in_place c) f (patience chance) (drawn chance) w.registers w.state

-- What is asked of a step: registers stay seventeen words, what is stored is a word, and so are the numbers of a call.
unfoldable pub seen_word : Seen → Bool
seen_word unseen = true
seen_word (seen w x v) = word v

unfoldable pub GoodStep : Step → Type 0
GoodStep (moves rs) = seventeen rs ≡ true
GoodStep (stores rs x v) = (seventeen rs ≡ true) × (word v ≡ true)
GoodStep (asks rs c) = (seventeen rs ≡ true) × (cell_fits (ended_by rs c) ≡ true)

-- A good processor makes such steps from seventeen registers, words that are seen, and a chance that is a word.
abbrev pub GoodProcessor : Processor → Type 0
GoodProcessor f =
    (rs : List ℕ) (look : ℕ → Seen) (chance : ℕ) → seventeen rs ≡ true → ((a : ℕ) → seen_word (look a) ≡ true) → word chance ≡ true →
    GoodStep (f rs look chance)
