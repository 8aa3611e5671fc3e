-- What is promised of reads and writes of the memory of a state, beyond what `pages` promises of its own.
use Rattle.std.specs.Prelude.{◌≡◌, ℕ, ◌<◌, ◌≤◌, [], length}
use Rattle.sha256.specs.Measures.{Measures}
use Rattle.sha256.specs.declared.Measure.{Measure}
use Rattle.model.specs.Pages as model
use Rattle.model.specs.State as state
use Rattle.model.specs.State.{Limits, State, entry, apply}
use Rattle.pages.specs.Layout.{encode}
use Rattle.pages.specs.Rows.{numbers_put}
use Rattle.pages.specs.Meaning.{fresh, measure_words}
use Rattle.pages.specs.Promises as pages
use Rattle.pages.specs.declared.values.Phase.{Phase}
use Rattle.pages.specs.declared.values.Record.{Record}
use Rattle.pages.specs.declared.values.Record.TheVariants as rec
use Rattle.full_pages.specs.Meaning.{Sized, begun, cleared, Bare, FitsList, NoCell}

-- A page becomes something, or is let go, by a write of what its kind has a use for; the other edits are the writes of `pages`.
pub record EditsWritten : Type 0 where
  pub others : pages.EditsWritten
  pub become : (l : Limits) (s : State) (p : ℕ) (x : Record) → p < length s.entries → Bare (entry s p) → NoCell x →
      begun (encode l s) p x ≡ encode l (apply s (state.put_entry p (fresh x)))
  pub new_cell : (l : Limits) (s : State) (p t : ℕ) (f : Phase) (k : Measure) →
      p < length s.entries → Bare (entry s p) → Measures k [] →
      numbers_put (begun (encode l s) p (rec.Cell t f)) p 4 (measure_words k)
      ≡ encode l (apply s (state.put_entry p (fresh (rec.Cell t f))))
  pub let_go : (l : Limits) (s : State) (p : ℕ) → p < length s.entries → FitsList (entry s p) →
      cleared (encode l s) p ≡ encode l (apply s (state.put_entry p model.free))

-- What is read of a state's memory is what the state has, as `pages` promises; and it has the length that the calls ask for.
pub record ReadsRight : Type 0 where
  pub others : pages.ReadsRight
  pub sized : (l : Limits) (s : State) → length s.entries ≡ l.pages → l.pages ≤ 4096 → l.opens ≤ 1048576 →
      Sized (encode l s)
