use Rattle.std.proofs.Common.{◌≡◌, ℕ, ◌+◌, ◌*◌, ◌%◌, sym, ap, ◌∙◌, subst, ap₂, arith}
use Rattle.machine.specs.Instructions.{low, loaded, stored, executed}
use Rattle.machine.specs.Held.{sees}
use Rattle.machine.specs.Came.{Comes}
use Rattle.machine.proofs.stepping.execute.Goals as goal

-- a sum of words that wraps at each step, and once
wraps : (g w : ℕ) → (g + w * 4 % 4294967296) % 4294967296 ≡ low (g + 4 * w)
wraps g w = omega arith

pub returns-in-Load : goal.returns-in-Load
returns-in-Load c =
    let rs = c.args.registers.words in
    subst (λ s. Comes c.args.lent.now c.args.lent.now s c.load.result)
    (ap (λ a. loaded rs c.in-Load.to (sees c.args.lent.now a))
    (wraps c.get-in-Load.result c.in-Load.words ∙ ap (λ g. low (g + 4 * c.in-Load.words)) c.get-in-Load.ensures)
    ∙ sym (ap (λ i. executed i rs (sees c.args.lent.now) c.args.chance) c.in-Load.is))
    c.load.ensures

pub returns-in-Store : goal.returns-in-Store
returns-in-Store c =
    let rs = c.args.registers.words in
    subst (λ s. Comes c.args.lent.now c.save.new.lent s c.save.result)
    (ap₂ (λ a v. stored rs a v (sees c.args.lent.now a))
    (wraps c.get-in-Store.result c.in-Store.words ∙ ap (λ g. low (g + 4 * c.in-Store.words)) c.get-in-Store.ensures)
    c.get-value.ensures
    ∙ sym (ap (λ i. executed i rs (sees c.args.lent.now) c.args.chance) c.in-Store.is))
    c.save.ensures
