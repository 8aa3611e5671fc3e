-- Each edit of a state is a write of its memory.
use Rattle.std.proofs.Common.{◌≡◌, ℕ, ◌+◌, ◌*◌, ◌<◌, [], ◌++◌, length, replicate, ap, ◌∙◌, arith}
use lib.ListN.{length-replicate}
use Rattle.sha256.specs.Measures.{Measures}
use Rattle.sha256.specs.declared.Measure.{Measure}
use Rattle.model.specs.Pages as model
use Rattle.model.specs.State as state
use Rattle.model.specs.State.{Limits, State, entry, apply}
use Rattle.pages.specs.Layout.{row, encode}
use Rattle.pages.specs.Flat.{list_put}
use Rattle.pages.specs.Rows.{numbers_put}
use Rattle.pages.specs.Meaning.{shown, beginning, fresh, measure_words}
use Rattle.pages.specs.declared.values.Phase.{Phase}
use Rattle.pages.specs.declared.values.Record.{Record}
use Rattle.pages.specs.declared.values.Record.TheVariants as rec
use Rattle.pages.proofs.Records.{few}
use Rattle.pages.proofs.Hashes.{measure_is}
use Rattle.pages.proofs.Memory.{entry_put, length_encode}
use Rattle.pages.proofs.Edits as pages
use Rattle.pages.proofs.Seen.{reads_right}
use Rattle.full_pages.specs.Meaning.{begun, used, cleared, Bare, FitsList, NoCell}
use Rattle.full_pages.specs.Promises.{EditsWritten}
use Rattle.full_pages.proofs.Records.{put_next, used_few, row_begun, cell_begun, row_cleared}

become : (l : Limits) (s : State) (p : ℕ) (x : Record) → p < length s.entries → Bare (entry s p) → NoCell x →
    begun (encode l s) p x ≡ encode l (apply s (state.put_entry p (fresh x)))
become l s p x h g n = entry_put l s p 0 (beginning x) (fresh x) h (omega (arith, few x)) (row_begun (entry s p) x g n)

new_cell : (l : Limits) (s : State) (p t : ℕ) (f : Phase) (k : Measure) →
    p < length s.entries → Bare (entry s p) → Measures k [] →
    numbers_put (begun (encode l s) p (rec.Cell t f)) p 4 (measure_words k)
    ≡ encode l (apply s (state.put_entry p (fresh (rec.Cell t f))))
new_cell l s p t f k h g m =
    let x : Record = rec.Cell t f in
    put_next (encode l s) (beginning x) (measure_words k) (256 + p * 2048 + 0) (256 + p * 2048 + 4)
    (omega (arith, length_encode l s)) (omega arith)
    ∙ entry_put l s p 0 (beginning x ++ measure_words k) (fresh x) h (omega arith)
    (ap (λ ws. list_put (row (entry s p)) 0 (beginning x ++ ws)) (measure_is k [] m) ∙ cell_begun (entry s p) t f g)

let_go : (l : Limits) (s : State) (p : ℕ) → p < length s.entries → FitsList (entry s p) →
    cleared (encode l s) p ≡ encode l (apply s (state.put_entry p model.free))
let_go l s p h g =
    let n : ℕ = used (shown (entry s p)) in
    ap (λ x. numbers_put (encode l s) p 0 (replicate (used x) 0)) (reads_right.shows l s p h)
    ∙ entry_put l s p 0 (replicate n 0) model.free h (omega (arith, length-replicate {A = ℕ} n 0, used_few (shown (entry s p))))
    (row_cleared (entry s p) g)

pub edits_written : EditsWritten
edits_written = record { others = pages.edits_written; become = become; new_cell = new_cell; let_go = let_go }
