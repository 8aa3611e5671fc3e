use Rattle.std.proofs.Common.{◌≡◌, [], ◌∷◌, ◌++◌, sym, refl, ap, ◌∙◌, rules, arith, length-append}
use Rattle.fields.specs.Bytes.{numbers_bytes}
use Rattle.fields.proofs.Puts.{wrote_none}
use Rattle.script.specs.Words.{words_left}
use Rattle.script.specs.Lines.{each}
use Rattle.script.specs.Numerals.{number_of}
use Rattle.script.proofs.Series.{prefixed, prefixed_none, series_more, numbers_step}
use Rattle.script.proofs.lists.put_numbers.Goals as goal

pub loop-word-init : goal.loop-word-init
unfolding numbers_bytes
loop-word-init c =
    let whole : c.into_iter-word-iterator.result ≡ c.args.words = search rules in
    ([], prefixed_none _ ∙ ap (λ w. prefixed [] (each number_of (words_left w))) (sym whole), refl, omega arith, wrote_none c.args.bytes.now 2)

pub loop-word-preserved : goal.loop-word-preserved
loop-word-preserved c = (
  c.loop-word.invariant.0 ++ c.in_ok-number.field-0 ∷ [],
  series_more number_of _ _ _ c.loop-word.invariant.1 _ _ c.in-Some.ensures.steps _ (sym c.in_ok-number.ensures),
  simp length-append (omega arith),
  omega arith,
  numbers_step c.args.bytes.now c.loop-word.bytes _ c.loop-word.invariant.0 c.in_ok-number.field-0 c.loop-word.count
      (omega arith) (omega arith)
      (omega arith) c.loop-word.invariant.4 c.put_number.ensures,
)
