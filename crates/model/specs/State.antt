-- The monitor's state, its limits, who calls, and the edits that calls are made of.
use Rattle.std.specs.Prelude.{◌≡◌, ℕ, ◌≤◌, Bool, true, false, ◌&&◌, List, [], ◌∷◌, length, replicate, Some, None, Option, ◌==◌, nat_lt, slice_set}
use Rattle.std.specs.Option.{option_map}
use Rattle.model.specs.Calls.{Place}
use Rattle.model.specs.Measured.{Part}
use Rattle.model.specs.Pages.{Slot, Phase, Entry, free, Cell, kind, part_of, cell_in, is_in, Entries, at}
use Rattle.model.specs.Pages.{slot_put, table_put, measured_more, phase_put, thread_put}

-- How much there is of everything, and which calls the monitor can do, by their numbers.
pub record Limits : Type 0 where
  pub can : ℕ → Bool
  pub pages : ℕ  -- closed pages
  pub opens : ℕ  -- open pages
  pub places : ℕ  -- places of a top table
  pub slots : ℕ  -- slots of a table
  pub words : ℕ  -- words of a page

-- The sizes that the monitor has: 2 to 4,096 closed pages, and up to 1,048,576 open ones, each of 1,024 words.
pub record Sized (l : Limits) : Type 0 where
  pub least_pages : 2 ≤ l.pages
  pub most_pages : l.pages ≤ 4096
  pub most_opens : l.opens ≤ 1048576
  pub places_are : l.places ≡ 256
  pub slots_are : l.slots ≡ 1024
  pub words_are : l.words ≡ 1024

pub record State : Type 0 where
  pub entries : Entries  -- what each closed page is
  pub contents : List (List ℕ)  -- the words of each closed page
  pub open_pages : List (List ℕ)  -- the words of each open page
  pub running : Option ℕ  -- the thread that runs, if one does

abbrev pub zeros : Limits → List ℕ
zeros l = replicate l.words 0

-- At the start all pages are free and zeros.
abbrev pub new_state : Limits → State
new_state l = record {
  entries = replicate l.pages free;
  contents = replicate l.pages (zeros l);
  open_pages = replicate l.opens (zeros l);
  running = None;
}

abbrev pub entry : State → ℕ → Entry
entry s p = at s.entries p

-- Words have 32 bits.
abbrev pub word : ℕ → Bool
word n = nat_lt n 4294967296

unfoldable pub all_words : List ℕ → Bool
all_words [] = true
all_words (x ∷ xs) = word x && all_words xs

-- What a page can have.
abbrev pub Page : Limits → List ℕ → Type 0
Page l ws = (length ws ≡ l.words) × (all_words ws ≡ true)

-- There are seventeen registers: thirteen, two more, where a thread is, and one of state.
abbrev pub seventeen : List ℕ → Bool
seventeen rs = length rs == 17 && all_words rs

abbrev pub no_registers : List ℕ
no_registers = replicate 17 0

-- Who calls: a thread, and its cell.
pub record Caller : Type 0 where
  pub thread : ℕ
  pub cell : ℕ

unfoldable pub caller_by : Entries → Option ℕ → Option Caller
caller_by d None = None
caller_by d (Some t) = option_map (λ c. record { thread = t; cell = c }) (part_of (kind (at d t)))

-- The thread that runs, with its cell. This is the one place where what runs is looked up.
abbrev pub caller : State → Option Caller
caller s = caller_by s.entries s.running

-- The cell that a page is a part of: whether it is in that phase, and what its first page has.
unfoldable pub is_owner_in : Phase → Entries → Option ℕ → Bool
is_owner_in f d None = false
is_owner_in f d (Some c) = is_in f (at d c)

unfoldable pub owner_by : Entries → Option ℕ → Option Cell
owner_by d None = None
owner_by d (Some c) = cell_in (at d c)

abbrev pub owner : State → ℕ → Option Cell
owner s p = owner_by s.entries (part_of (kind (entry s p)))

-- What a call changes is a list of these.
pub data Edit : Type 0 where
  put_entry : ℕ → Entry → Edit  -- a page becomes something else
  put_slot : ℕ → Place → Slot → Edit  -- into a table of a cell
  put_table : ℕ → ℕ → ℕ → Edit  -- into a cell's top table, at a place, a table's page
  measure : ℕ → Part → Edit  -- of a cell
  set_phase : ℕ → Phase → Edit  -- of a cell
  set_thread : ℕ → Bool → List ℕ → Edit  -- a thread is under way or not, with registers
  write_page : ℕ → List ℕ → Edit  -- a closed page's words
  run : Option ℕ → Edit  -- the thread that runs from now on, if any

abbrev pub with_entries : State → Entries → State
with_entries s d = record { entries = d; contents = s.contents; open_pages = s.open_pages; running = s.running }

abbrev pub with_contents : State → List (List ℕ) → State
with_contents s cs = record { entries = s.entries; contents = cs; open_pages = s.open_pages; running = s.running }

abbrev pub with_open_pages : State → List (List ℕ) → State
with_open_pages s os = record { entries = s.entries; contents = s.contents; open_pages = os; running = s.running }

abbrev pub with_running : State → Option ℕ → State
with_running s r = record { entries = s.entries; contents = s.contents; open_pages = s.open_pages; running = r }

-- What an edit makes of a state.
abbrev pub apply : State → Edit → State
apply s (put_entry p x) = with_entries s (slice_set s.entries p x)
apply s (put_slot c w z) = with_entries s (slot_put s.entries c w z)
apply s (put_table c i p) = with_entries s (table_put s.entries c i p)
apply s (measure c m) = with_entries s (measured_more s.entries c m)
apply s (set_phase c f) = with_entries s (phase_put s.entries c f)
apply s (set_thread t u rs) = with_entries s (thread_put s.entries t u rs)
apply s (write_page p ws) = with_contents s (slice_set s.contents p ws)
apply s (run r) = with_running s r

abbrev pub apply_all : State → List Edit → State
apply_all s [] = s
apply_all s (e ∷ es) = apply_all (apply s e) es
