-- Of a sealed cell the program changes nothing by what others do: neither its pages' records in the memory, nor their words.
use Rattle.std.proofs.Common.{◌≡◌, ℕ, ◌<◌, List, [], get_or, take, drop, sym, ap, ◌∙◌, arith}
use Rattle.model.specs.Calls.{by_system}
use Rattle.model.specs.State.{Limits, State, entry}
use Rattle.model.specs.Machine.{Machine, GoodMachine}
use Rattle.model.specs.Worlds.{World, Act, calls, runs, PossibleCall, Possible, AllPossible, Reachable, step, play}
use Rattle.model.specs.Changes.{Untouched}
use Rattle.model.proofs.Reached.{played}
use Rattle.model.proofs.Confidentiality.{reachable_more}
use Rattle.model.proofs.Integrity.{integrity_of_calls, integrity_of_runs, integrity_over_runs}
use Rattle.pages.specs.Flat.{flat, page_in}
use Rattle.pages.specs.Layout.{row, encode}
use Rattle.pages.specs.Rows.{numbers_at}
use Rattle.pages.proofs.Flats.{pages_written}
use Rattle.pages.proofs.Memory.{entry_part}
use Rattle.lookups.proofs.Right.{Known}
use Rattle.lookups.proofs.Edited.{contents_wide}
use Rattle.full_monitor.specs.Promises.{Whole, RecordStays, WordsStay, CellStays, CellsAreKept, CellsAreKeptOverRuns}
use Rattle.full_monitor.proofs.GoingOn.{known_world, goes_on}

-- A page that is the same in two states has the same record, and the same words.
record_in : (l : Limits) (s : State) → Known l s → (p : ℕ) → p < l.pages →
    numbers_at (encode l s) p 0 2048 ≡ take 2048 (drop 0 (row (entry s p)))
record_in l s k p h = entry_part l s p 0 2048 (omega (arith, h, k.invariant.entries_long)) (omega arith)

words_in : (l : Limits) (s : State) → Known l s → (p : ℕ) → p < l.pages → page_in (flat s.contents) p ≡ get_or s.contents p []
words_in l s k p h =
    pages_written.read s.contents p (contents_wide l s k) (omega (arith, h, k.invariant.contents_long))

module _ (l : Limits) (s t : State) (k : Known l s) (j : Known l t) (p : ℕ) (h : p < l.pages) where
  record_stays : entry t p ≡ entry s p → RecordStays l s (encode l t) p
  record_stays e = record_in l t j p h ∙ ap (λ x. take 2048 (drop 0 (row x))) e ∙ sym (record_in l s k p h)

  words_stay : get_or t.contents p [] ≡ get_or s.contents p [] → WordsStay s (flat t.contents) p
  words_stay e = words_in l t j p h ∙ e ∙ sym (words_in l s k p h)

module _ (l : Limits) (m : Machine) (w : World) (W : Whole l) (g : GoodMachine l m) (r : Reachable l m w) where
  known_now : Known l w.state
  known_now = known_world l m w W.sized g r

  cell_stays : (o : ℕ) (a : Act) → Possible l w a → Untouched o w.state (step l m w a).state → CellStays l m o w a
  cell_stays o a q u =
      let t : State = (step l m w a).state in
      let j = known_world l m (step l m w a) W.sized g (reachable_more l m w a r q) in
      let e = goes_on l m w W g r a in (
        λ p h b. ap (λ n. numbers_at n p 0 2048) e.0 ∙ record_stays l w.state t known_now j p h (u.entries p b),
        λ p h b. ap (λ cs. page_in cs p) e.1 ∙ words_stay l w.state t known_now j p h (u.contents p b),
      )

  known_after : (acts : List Act) → AllPossible l m w acts → Known l (play l m w acts).state
  known_after acts q =
      known_world l m (play l m w acts) W.sized g
      (played l m (Reachable l m) (λ v a n k. reachable_more l m v a k n) w acts q r)

pub cells_are_kept : CellsAreKept
unfolding Possible PossibleCall step
cells_are_kept l m w W g r o h = (
  λ c n. cell_stays l m w W g r o (calls (by_system c)) tt (integrity_of_calls l m w o g r h c n),
  λ x q n. cell_stays l m w W g r o (runs x) q (integrity_of_runs l m w o g r h x n),
)

pub cells_are_kept_over_runs : CellsAreKeptOverRuns
cells_are_kept_over_runs l m w W g r o acts h q n =
    let t : State = (play l m w acts).state in
    let k = known_now l m w W g r in
    let j = known_after l m w W g r acts q in
    let u = integrity_over_runs l m w o g r h acts q n in (
      λ p low b d. record_stays l w.state t k j p low (u.entries p b d),
      λ p low b. words_stay l w.state t k j p low (u.contents p b),
    )
