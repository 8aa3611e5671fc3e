use Rattle.std.proofs.Common.{◌≡◌, ℕ, ◌-◌, ◌*◌, ◌/◌, List, length, take, refl, ap, ◌∙◌, arith, length-take}
use Rattle.fields.proofs.Puts.{wrote_part, wrote_is, lent_bytes}
use Rattle.fields.proofs.writing.Writer.lent.Goals as goal

pub returns : goal.returns
returns c =
    let bs : List ℕ = c.args.bytes.now in
    let size : ℕ = 8 * (length bs / 8) in
    let z : size - 0 ≡ size = omega arith in
    let copied : c.copy_from_slice.new.self ≡ take size bs = c.copy_from_slice.ensures.after ∙ ap (λ k. take k bs) z in
    let whole = lent_bytes bs (λ i. omega (arith, c.type_inv.bytes i)) in
    let part = wrote_part c.args.self.now.out.now c.copy_from_slice.new.self (take size bs) c.args.self.now.at _ _ copied
    (simp length-take (omega arith)) (simp length-take (omega arith)) (simp length-take (omega arith)) in
    record { same = refl; wrote = wrote_is _ _ (take size bs) _ _ _ whole part }
