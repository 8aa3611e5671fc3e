use Rattle.std.proofs.Common.{◌≡◌, ℕ, ◌/◌, List, [], ◌++◌, map, length, slice_index_or, sym, ap, ◌∙◌, ap₂, arith}
use Rattle.std.specs.Simd.{first_chunks}
use Rattle.sha256.specs.Sha.{compressed}
use Rattle.sha256.specs.Words.{swapped}
use Rattle.sha256.specs.Window.{state_of}
use Rattle.sha256.proofs.Elements.{elements, sixteen}
use Rattle.sha256.proofs.compress.Goals as goal

-- one of the four chunks of a block
chunk : ℕ → List ℕ → List ℕ
chunk i block = slice_index_or (first_chunks 4 (length block / 4) block) i []

chunk_is : (block : List ℕ) (i : ℕ) → length block ≡ 16 → chunk i block ≡ slice_index_or (first_chunks 4 4 (elements block 0 16)) i []
unfolding chunk
chunk_is block i h =
    let four : length block / 4 ≡ 4 = omega arith in
    ap (λ n. slice_index_or (first_chunks 4 n block) i []) four
    ∙ ap (λ b. slice_index_or (first_chunks 4 4 b) i []) (sixteen block h)

-- The quarters are the words of the block, by whatever names the code gives them: chunks, or words one by one.
pub returns : goal.returns
unfolding chunk
returns c =
    let block = c.args.block.now in
    let h = c.requires in
    let front = c.as_chunks.ensures.front in
    let e0 : map swapped (chunk 0 block) ≡ map swapped (elements block 0 4) = ap (map swapped) (chunk_is block 0 h) in
    let e1 : map swapped (chunk 1 block) ≡ map swapped (elements block 4 4) = ap (map swapped) (chunk_is block 1 h) in
    let e2 : map swapped (chunk 2 block) ≡ map swapped (elements block 8 4) = ap (map swapped) (chunk_is block 2 h) in
    let e3 : map swapped (chunk 3 block) ≡ map swapped (elements block 12 4) = ap (map swapped) (chunk_is block 3 h) in
    let first : c.quarter_words.result ≡ map swapped (elements block 0 4) = c.quarter_words.ensures ∙ cc in
    let second : c.quarter_words-2.result ≡ map swapped (elements block 4 4) = c.quarter_words-2.ensures ∙ cc in
    let third : c.quarter_words-3.result ≡ map swapped (elements block 8 4) = c.quarter_words-3.ensures ∙ cc in
    let fourth : c.quarter_words-4.result ≡ map swapped (elements block 12 4) = c.quarter_words-4.ensures ∙ cc in
    c.compress_words.ensures
    ∙ ap (compressed (state_of c.args.hash))
    (ap₂ ◌++◌ first (ap₂ ◌++◌ second (ap₂ ◌++◌ third fourth)) ∙ sym (ap (map swapped) (sixteen block h)))
