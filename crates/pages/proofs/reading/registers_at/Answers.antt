use Rattle.std.proofs.Common.{◌≡◌, ℕ, ◌%◌, List, length, sym, ap, ◌∙◌, arith, length-set}
use Rattle.std.proofs.lemmas.List.{take_all}
use Rattle.pages.specs.Rows.{numbers_at, low_words}
use Rattle.pages.proofs.Lists.{read_more, numbers_nth, length_numbers}
use Rattle.pages.proofs.reading.registers_at.Goals as goal

pub loop-i-preserved : goal.loop-i-preserved
loop-i-preserved c =
    let m : List ℕ = c.args.memory.now in
    let p : ℕ = c.args.thread in
    let n : length (numbers_at m p 4 17) ≡ 17 = length_numbers m p 4 17 (omega arith) in (
      read_more (λ w. w % 4294967296) c.loop-i.words (numbers_at m p 4 17) c.loop-i.i c.low.result (omega arith) (omega arith)
          c.loop-i.invariant.0
          (c.low.ensures ∙ ap (λ w. w % 4294967296) (c.number.ensures ∙ sym (numbers_nth m p 4 17 c.loop-i.i (omega arith)))),
      simp length-set c.loop-i.invariant.1,
    )

pub returns : goal.returns
returns c =
    let m : List ℕ = c.args.memory.now in
    let p : ℕ = c.args.thread in
    let i : c.loop-i.i ≡ 17 = omega arith in
    let n : length (numbers_at m p 4 17) ≡ 17 = length_numbers m p 4 17 (omega arith) in
    sym (take_all c.loop-i.i c.loop-i.words (omega arith)) ∙ c.loop-i.invariant.0
    ∙ ap low_words (take_all c.loop-i.i (numbers_at m p 4 17) (omega arith))
