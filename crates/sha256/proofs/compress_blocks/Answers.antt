use Rattle.std.proofs.Common.{◌≡◌, ℕ, suc, ◌+◌, ◌-◌, ◌*◌, ◌/◌, ◌<◌, List, length, take, drop, sym, ap, ◌∙◌, ap₂, arith}
use Rattle.std.proofs.lemmas.List.{drop-drop}
use Rattle.sha256.specs.Sha.{State}
use Rattle.sha256.specs.Words.{block_hashed, blocks_hashed}
use Rattle.sha256.specs.Window.{state_of}
use Rattle.sha256.proofs.Message.{no_blocks}
use Rattle.sha256.proofs.compress_blocks.Goals as goal

-- part i of the words, and those behind
one_of : (words : List ℕ) (n i : ℕ) (s : State) → i < n
    → blocks_hashed (n - (i + 1)) (block_hashed s (take (16 * i + 16 - 16 * i) (drop (16 * i) words))) (drop (16 * (i + 1)) words)
    ≡ blocks_hashed (n - i) s (drop (16 * i) words)
unfolding blocks_hashed
one_of words n i s h =
    let m : suc (n - (i + 1)) ≡ n - i = omega arith in
    let sixteen : 16 * i + 16 - 16 * i ≡ 16 = omega arith in
    let next : 16 * (i + 1) ≡ 16 * i + 16 = omega arith in
    ap₂ (λ k w. blocks_hashed (n - (i + 1)) (block_hashed s (take k (drop (16 * i) words))) w) sixteen
    (ap (λ k. drop k words) next ∙ sym (drop-drop 16 (16 * i) words))
    ∙ ap (λ k. blocks_hashed k s (drop (16 * i) words)) m

pub loop-i-preserved : goal.loop-i-preserved
loop-i-preserved c =
    let words = c.args.words.now in
    let n = length words / 16 in
    let i = c.loop-i.i in
    ap (λ s. blocks_hashed (n - (i + 1)) s (drop (16 * (i + 1)) words)) c.compress-after.ensures
    ∙ one_of words n i (state_of c.loop-i.after) (omega arith) ∙ c.loop-i.invariant

pub returns : goal.returns
returns c =
    let words = c.args.words.now in
    let n = length words / 16 in
    let i = c.loop-i.i in
    let none : n - i ≡ 0 = omega arith in
    sym (ap (λ k. blocks_hashed k (state_of c.loop-i.after) (drop (16 * i) words)) none ∙ no_blocks _ _) ∙ c.loop-i.invariant
