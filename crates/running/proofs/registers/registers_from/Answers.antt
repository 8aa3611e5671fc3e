use Rattle.std.proofs.Common.{◌≡◌, ◌+◌, true, false, take, set, MatchOption, sym, refl, ap, ◌∙◌, subst, arith, length-set}
use Rattle.fields.specs.Shapes.{numbers_of}
use Rattle.model.specs.State.{all_words, seventeen}
use Rattle.running.proofs.Words.{one_wide, words_more, read_more, next_is, is_word, no_word, and_false}
use Rattle.running.proofs.registers.registers_from.Goals as goal

pub loop-word-init : goal.loop-word-init
unfolding all_words
loop-word-init c = (c.iter-rest.ensures, refl, refl, refl)

pub returns-in_err-word : goal.returns-in_err-word
returns-in_err-word c =
    let ns = numbers_of c.args.numbers in
    let i = c.loop-word.word-index in
    let n = c.in_ok-next.field-0 in
    let next = next_is ns i n c.next.new.self (sym c.loop-word.invariant.0 ∙ c.in_ok-next.ensures.steps) in
    let none = no_word c.try_from.result n c.try_from.ensures c.in_err-word.ensures.value in
    subst (λ o. MatchOption o (seventeen ns ≡ false) (λ x. (seventeen ns ≡ true) × (x.words ≡ ns)))
    (sym c.from_residual-in_err-word.ensures) (and_false _ _ (one_wide ns i n next.0 none))

pub loop-word-preserved : goal.loop-word-preserved
loop-word-preserved c =
    let ns = numbers_of c.args.numbers in
    let i = c.loop-word.word-index in
    let n = c.in_ok-next.field-0 in
    let next = next_is ns i n c.next.new.self (sym c.loop-word.invariant.0 ∙ c.in_ok-next.ensures.steps) in
    let word = is_word c.try_from.result n c.in_ok-word.field-0 c.try_from.ensures c.in_ok-word.ensures.value in (
      next.1,
      simp length-set c.loop-word.invariant.1,
      ap (λ w. take (i + 1) (set c.loop-word.word-items i w)) word.0
          ∙ read_more c.loop-word.word-items ns i n (omega arith) next.0 c.loop-word.invariant.2,
      words_more ns i n next.0 word.1 c.loop-word.invariant.3,
    )
