-- What a measure says of the words that it stands for: at first, after more words, and as a name.
use Rattle.std.proofs.Common.{◌≡◌, ℕ, ◌+◌, ◌*◌, ◌/◌, ◌%◌, List, [], ◌++◌, length, sym, refl, ap, ◌∙◌, ap₂, arith, length-append}
use Rattle.sha256.specs.Sha.{initial, compressed, digest, sha256}
use Rattle.sha256.specs.Words.{bytes_of, words_of, blocks_hashed, last_words}
use Rattle.sha256.specs.Window.{hash_of}
use Rattle.sha256.specs.Measures.{Measures, more_measured, name_words}
use Rattle.sha256.specs.declared.Measure.{Measure}
use Rattle.sha256.proofs.Message.{no_block, blocks_append, sha256_blocks, counted_words}

-- no words yet
pub none_measured : Measures (record { hash = hash_of initial; blocks = 0 }) []
none_measured = record { blocks = 0; whole = refl; counted = refl; state = sym (no_block initial [] (omega arith)) }

-- whole blocks of words more
pub more_measures : (k : Measure) (ws xs : List ℕ) → Measures k ws → length xs % 16 ≡ 0 → Measures (more_measured k xs) (ws ++ xs)
more_measures k ws xs m h =
    let more = length xs / 16 in
    record {
      blocks = m.blocks + more;
      whole = omega (arith, length-append ws xs);
      counted = omega arith;
      state = ap (λ s. blocks_hashed more s xs) m.state ∙ blocks_append m.blocks more initial ws xs m.whole;
    }

-- the name is the digest of the words
pub named : (k : Measure) (ws : List ℕ) → Measures k ws → name_words k ≡ words_of (sha256 (bytes_of ws))
unfolding name_words
named k ws m =
    ap (λ s. words_of (digest s))
    (ap₂ compressed m.state (ap (λ n. last_words (512 * n)) m.counted ∙ counted_words m.blocks))
    ∙ sym (ap words_of (sha256_blocks ws m.blocks m.whole))
