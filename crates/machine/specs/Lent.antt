-- What a cell sees and writes of the lent words, by its tables as the monitor's memory has them.
use Rattle.std.specs.Prelude.{ℕ, ◌+◌, ◌*◌, ◌<◌, false, cond, List, Some, None, Option, nat_lt, slice_index, slice_set}
use Rattle.model.specs.Pages.{Slot, nothing, closed, opened}
use Rattle.model.specs.Processor.{Seen, unseen, seen, Memory, table_number, slot_number, word_number}
use Rattle.pages.specs.Rows.{slot_in}
use Rattle.full_pages.specs.Meaning.{Sized}
use Rattle.lookups.specs.Lookups.{there, open_there, table_of}

-- what is asked of the memory: it has its records, and one for the top table
pub record Fit (m : List ℕ) (t : ℕ) : Type 0 where
  pub sized : Sized m
  pub top_there : t < slice_index m 0

-- a slot whose page is there
abbrev pub if_there : List ℕ → Slot → Slot
if_there m nothing = nothing
if_there m (closed p w x) = cond (there m p) (closed p w x) nothing
if_there m (opened o w) = cond (open_there m o) (opened o w) nothing

abbrev pub slot_by : List ℕ → ℕ → Option ℕ → Slot
slot_by m j None = nothing
slot_by m j (Some q) = if_there m (slot_in m q j)

-- the slot of an address, by the tables of the cell whose top table is on the page t
abbrev pub slot_for : List ℕ → ℕ → ℕ → Slot
slot_for m t a = cond (nat_lt (table_number a) 256) (slot_by m (slot_number a) (table_of m t (table_number a))) nothing

-- what is seen of a slot
abbrev pub seen_by : List ℕ → List ℕ → ℕ → Slot → Seen
seen_by cs os k nothing = unseen
seen_by cs os k (closed p w x) = seen w x (slice_index cs (p * 1024 + k))
seen_by cs os k (opened o w) = seen w false (slice_index os (o * 1024 + k))

abbrev pub looked : List ℕ → ℕ → List ℕ → List ℕ → ℕ → Seen
looked m t cs os a = seen_by cs os (word_number a) (slot_for m t a)

-- what is written where a slot lets it
abbrev pub closed_put : List ℕ → ℕ → ℕ → Slot → List ℕ
closed_put cs k v nothing = cs
closed_put cs k v (closed p w x) = cond w (slice_set cs (p * 1024 + k) v) cs
closed_put cs k v (opened o w) = cs

abbrev pub open_put : List ℕ → ℕ → ℕ → Slot → List ℕ
open_put os k v nothing = os
open_put os k v (closed p w x) = os
open_put os k v (opened o w) = cond w (slice_set os (o * 1024 + k) v) os

-- the words of closed and of open pages as a memory, in which a processor looks and stores
pub record Words : Type 0 where
  pub closed_pages : List ℕ
  pub open_pages : List ℕ

abbrev pub lent : List ℕ → ℕ → Memory Words
lent m t = record {
  look = λ w a. looked m t w.closed_pages w.open_pages a;
  store = λ w a v. record {
    closed_pages = closed_put w.closed_pages (word_number a) v (slot_for m t a);
    open_pages = open_put w.open_pages (word_number a) v (slot_for m t a);
  };
}
