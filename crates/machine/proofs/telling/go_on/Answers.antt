use Rattle.std.proofs.Common.{ℕ, ◌-◌, List, take, inl, inr, sym, ap, ◌∙◌, ap₂, arith}
use Rattle.std.specs.Iterator.Adapters.{zip_first, zip_second}
use Rattle.fields.specs.Shapes.{numbers_of}
use Rattle.machine.specs.Instructions.{with_register, low}
use Rattle.machine.specs.Came.{told_on}
use Rattle.machine.proofs.Told.{told_next, told_none, told_all}
use Rattle.machine.proofs.telling.go_on.Goals as goal

pub loop-index-init : goal.loop-index-init
unfolding told_on
loop-index-init c =
    let ns : List ℕ = numbers_of c.args.numbers in
    let made = c.into_iter-index-iterator.ensures.into_iter_gives in
    let first = ap zip_first made ∙ c.zip-index-items.ensures.first in
    let second = ap zip_second made ∙ c.zip-index-items.ensures.second in
    let starts = ap (λ r. r.start) first in (
      ap (λ r. r.«end») first,
      omega (arith, starts),
      omega (arith, starts),
      ap (told_on 1 (take 8 ns)) (sym (c.put-registers.ensures ∙ ap (with_register c.args.registers.words 0) c.low.ensures))
          ∙ ap₂ (λ i ms. told_on i (take (9 - i) ms) c.put-registers.result.words) (sym starts) (sym second),
    )

pub loop-index-preserved : goal.loop-index-preserved
loop-index-preserved c =
    let inv = c.loop-index.invariant in
    let step = c.in-Some.ensures.steps in
    let rs : List ℕ = c.loop-index.registers.words in
    let rest : List ℕ = zip_second c.next.new.self in (
      step.0.0 ∙ inv.0,
      omega (arith, inv.1, step.0.1.2),
      omega (arith, inv.0, step.0.1.0, step.0.1.2),
      inv.3 ∙ told_next _ rest rs (zip_first c.loop-index.index-iterator).start c.in-Some.number (omega (arith, inv.0, step.0.1.0)) step.1
          ∙ ap (λ i. told_on i (take (9 - i) rest) (with_register rs (zip_first c.loop-index.index-iterator).start (low c.in-Some.number)))
          (sym step.0.1.2)
          ∙ ap (told_on _ _)
          (sym (c.put-registers-in-loop-index.ensures ∙ ap₂ (with_register rs) step.0.1.1 c.low-in-loop-index.ensures)),
    )

pub returns : goal.returns
returns c =
    let inv = c.loop-index.invariant in
    let rs : List ℕ = c.loop-index.registers.words in
    sym (inv.3 ∙ elim c.in-None.ensures.steps [
      | inl spent ↦ told_all _ rs _ (omega (arith, inv.0, spent.1.1.0))
      | inr spent ↦ told_none _ rs _ spent.1.0
    ])
