use Rattle.std.proofs.Common.{◌≡◌, ℕ, ◌<◌, not, ◌==◌, slice_index}
use Rattle.script.proofs.words.until.Given as goal

abbrev pub invariant-loop-count : goal.invariant-loop-count
invariant-loop-count l = (k : ℕ) → k < l.count → (slice_index l.text k == 32) ≡ not l.space
