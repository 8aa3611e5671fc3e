-- What is promised of packing, and of reads and writes of the memory of a state.
use Rattle.std.specs.Prelude.{◌≡◌, ℕ, ◌*◌, ◌%◌, ◌<◌, ◌≤◌, Bool, true, List, [], length, Some, None, Option, slice_index, slice_index_or, slice_set}
use Rattle.sha256.specs.Measures.{Measures}
use Rattle.sha256.specs.declared.Measure.{Measure}
use Rattle.model.specs.Calls.{Place}
use Rattle.model.specs.Measured.{Part, more, place_word}
use Rattle.model.specs.Pages as model
use Rattle.model.specs.State as state
use Rattle.model.specs.State.{Limits, State, new_state, entry, apply, seventeen}
use Rattle.pages.specs.Flat.{flat, Wide, HasWords, page_in, page_put}
use Rattle.pages.specs.Packing.{slot_number, slot_from, some_number, some_from, place_from}
use Rattle.pages.specs.Layout.{row, encode}
use Rattle.pages.specs.Rows as rows
use Rattle.pages.specs.Rows.{Sized, HasPage, new_memory, row_put, number_at, number_put, numbers_put, numbers_at, low_words}
use Rattle.pages.specs.Rows.{running_in, running_put}
use Rattle.pages.specs.Meaning.{shown, record_in, measure_words, measure_in}

-- What is packed is unpacked again.
pub record PackingInverse : Type 0 where
  pub slots : (z : model.Slot) → slot_from (slot_number z) ≡ z
  pub somes : (o : Option ℕ) → some_from (some_number o) ≡ o
  pub places : (w : Place) → w.slot < 1024 → place_from (place_word w) ≡ w

-- The first state's memory has zeros; and each edit of a state is a write of its memory, where what is edited is there.
pub record EditsWritten : Type 0 where
  pub start : (l : Limits) → new_memory l.pages l.opens ≡ encode l (new_state l)
  pub put_entry : (l : Limits) (s : State) (p : ℕ) (x : model.Entry) → p < length s.entries →
      row_put (encode l s) p (row x) ≡ encode l (apply s (state.put_entry p x))
  pub put_slot : (l : Limits) (s : State) (c : ℕ) (w : Place) (z : model.Slot) (q : ℕ) (x : model.Table) →
      model.table_at s.entries c w.table ≡ Some q → entry s q ≡ model.table x → q < length s.entries →
      w.slot < length x.slots → w.slot < 1024 →
      rows.slot_put (encode l s) q w.slot z ≡ encode l (apply s (state.put_slot c w z))
  pub put_table : (l : Limits) (s : State) (c i p : ℕ) (y : model.Cell) (x : model.Top) →
      entry s c ≡ model.cell y → entry s y.top ≡ model.top x → y.top < length s.entries → i < length x.tables → i < 256 →
      rows.table_put (encode l s) y.top i p ≡ encode l (apply s (state.put_table c i p))
  pub measure : (l : Limits) (s : State) (c : ℕ) (m : Part) (y : model.Cell) (k : Measure) →
      entry s c ≡ model.cell y → c < length s.entries → Measures k (more y.measured m) →
      numbers_put (encode l s) c 4 (measure_words k) ≡ encode l (apply s (state.measure c m))
  pub set_phase : (l : Limits) (s : State) (c : ℕ) (f : model.Phase) (y : model.Cell) →
      entry s c ≡ model.cell y → c < length s.entries →
      number_put (encode l s) c 3 (model.phase_number f) ≡ encode l (apply s (state.set_phase c f))
  pub set_thread : (l : Limits) (s : State) (t : ℕ) (u : Bool) (rs : List ℕ) (y : model.Thread) →
      entry s t ≡ model.thread y → t < length s.entries → length y.registers ≡ 17 → length rs ≡ 17 →
      rows.thread_put (encode l s) t u rs ≡ encode l (apply s (state.set_thread t u rs))
  pub write_page : (l : Limits) (s : State) (p : ℕ) (ws : List ℕ) → encode l s ≡ encode l (apply s (state.write_page p ws))
  pub run : (l : Limits) (s : State) (r : Option ℕ) → running_put (encode l s) r ≡ encode l (apply s (state.run r))

-- What is read of a state's memory is what the state has.
pub record ReadsRight : Type 0 where
  pub sized : (l : Limits) (s : State) → length s.entries ≡ l.pages → l.pages ≤ 4096 → Sized (encode l s)
  pub pages : (l : Limits) (s : State) → slice_index (encode l s) 0 ≡ l.pages
  pub opens : (l : Limits) (s : State) → slice_index (encode l s) 1 ≡ l.opens
  pub running : (l : Limits) (s : State) → running_in (encode l s) ≡ s.running
  pub there : (l : Limits) (s : State) (p : ℕ) → p < length s.entries → HasPage (encode l s) p
  pub kind : (l : Limits) (s : State) (p : ℕ) → p < length s.entries →
      number_at (encode l s) p 0 ≡ model.kind_number (model.kind (entry s p))
  pub shows : (l : Limits) (s : State) (p : ℕ) → p < length s.entries → record_in (encode l s) p ≡ shown (entry s p)
  pub slot : (l : Limits) (s : State) (q j : ℕ) (x : model.Table) → entry s q ≡ model.table x → q < length s.entries → j < 1024 →
      rows.slot_in (encode l s) q j ≡ slice_index_or x.slots j model.nothing
  pub table : (l : Limits) (s : State) (t i : ℕ) (x : model.Top) → entry s t ≡ model.top x → t < length s.entries → i < 256 →
      rows.table_in (encode l s) t i ≡ slice_index_or x.tables i None
  pub registers : (l : Limits) (s : State) (t : ℕ) (x : model.Thread) → entry s t ≡ model.thread x → t < length s.entries →
      seventeen x.registers ≡ true → low_words (numbers_at (encode l s) t 4 17) ≡ x.registers
  pub measured : (l : Limits) (s : State) (c : ℕ) (x : model.Cell) → entry s c ≡ model.cell x → c < length s.entries →
      length x.measured % 16 ≡ 0 → Measures (measure_in (encode l s) c) x.measured

-- Words that stand one after another are those of a list of pages: so it is with the length, a page read, and a page written.
pub record PagesWritten : Type 0 where
  pub long : (cs : List (List ℕ)) → Wide 1024 cs → length (flat cs) ≡ length cs * 1024
  pub there : (cs : List (List ℕ)) (p : ℕ) → Wide 1024 cs → p < length cs → HasWords (flat cs) p
  pub read : (cs : List (List ℕ)) (p : ℕ) → Wide 1024 cs → p < length cs → page_in (flat cs) p ≡ slice_index_or cs p []
  pub put : (cs : List (List ℕ)) (p : ℕ) (ws : List ℕ) → Wide 1024 cs → p < length cs → length ws ≡ 1024 →
      page_put (flat cs) p ws ≡ flat (slice_set cs p ws)
