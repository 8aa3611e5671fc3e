use Rattle.std.proofs.Common.{◌+◌, ◌/◌, ◌%◌, ◌^◌, ◌++◌, length, sym, ap, subst}
use Rattle.sha256.specs.Window.{hash_of}
use Rattle.sha256.specs.Measures.{Measures}
use Rattle.sha256.proofs.Measured.{more_measures}
use Rattle.sha256.proofs.Measure.extend.Goals as goal

pub returns : goal.returns
returns c =
    let k = c.args.self in
    let words = c.args.words.now in
    let value =
    ap (λ s. record { hash = hash_of s; blocks = (k.blocks + length words / 16) % 2 ^ 64 }) c.compress_blocks.ensures in
    record {
      history = λ ws m. subst (λ r. Measures r (ws ++ words)) (sym value) (more_measures k ws words m c.requires);
      value = value;
    }
