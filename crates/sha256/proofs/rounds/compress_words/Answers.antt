use Rattle.std.proofs.Common.{◌≡◌, [], ◌++◌, length, sym, ap, ◌∙◌, arith, length-append}
use Rattle.std.proofs.lemmas.List.{nil_from_length}
use Rattle.std.specs.Slice.Iter.{chunks_exact_rest}
use Rattle.sha256.specs.Sha.{added, compressed}
use Rattle.sha256.specs.Window.{state_of, words_in, rolled, outcome}
use Rattle.sha256.proofs.Schedule.{rounds_rolled}
use Rattle.sha256.proofs.rounds.compress_words.Goals as goal

pub returns : goal.returns
unfolding outcome rolled compressed
returns c =
    let s = state_of c.args.hash in
    let block = c.args.block in
    let rest = chunks_exact_rest c.loop-k.k-iterator in
    let none : rest ≡ [] = nil_from_length rest (omega (arith, c.in-None.ensures.steps, c.loop-k.invariant)) in
    let h0 : length block.w0 ≡ 4 = omega arith in
    let h4 : length block.w4 ≡ 4 = omega arith in
    let h8 : length block.w8 ≡ 4 = omega arith in
    let h12 : length block.w12 ≡ 4 = omega arith in
    let sixteen : length (words_in block) ≡ 16 =
    omega (
      arith,
      length-append block.w0 (block.w4 ++ (block.w8 ++ block.w12)),
      length-append block.w4 (block.w8 ++ block.w12),
      length-append block.w8 block.w12,
    ) in
    c.sum.ensures
    ∙ ap (added s) (sym (ap (outcome c.loop-k.work) none) ∙ c.loop-k.invariant.2 ∙ sym (rounds_rolled s (words_in block) sixteen))
