use Rattle.std.proofs.Common.{◌≡◌, ◌%◌, length}
use Rattle.std.specs.Slice.Iter.{chunks_exact_rest, chunks_exact_size}
use Rattle.sha256.specs.Sha.{constants}
use Rattle.sha256.specs.Window.{outcome}
use Rattle.sha256.proofs.rounds.compress_words.Given as goal

-- the work comes to the same over the constants that are left
abbrev pub invariant-loop-k : goal.invariant-loop-k
invariant-loop-k l =
    let rest = chunks_exact_rest l.k-iterator in
    (chunks_exact_size l.k-iterator ≡ 4) × (length rest % 4 ≡ 0) × (outcome l.work rest ≡ outcome l.initial.work constants)
