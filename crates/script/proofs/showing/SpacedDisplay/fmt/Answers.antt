use Rattle.std.proofs.Common.{◌∷◌, ◌++◌, decimal, rules, sym, ap, ◌∙◌, append_assoc}
use Rattle.std.proofs.Output.{has_written_append}
use Rattle.script.specs.Shown.{spaced}
use Rattle.script.proofs.showing.SpacedDisplay.fmt.Goals as goal

pub loop-number-preserved : goal.loop-number-preserved
loop-number-preserved g c = λ plain.
    let so_far = c.loop-number.invariant plain in
    let one = 32 ∷ decimal c.in-Some.number in (
      so_far.0 ++ one,
      has_written_append _ _ _ _ _ _ so_far.1 (search rules),
      append_assoc so_far.0 one (spaced c.next.new.self)
          ∙ ap (λ ns. so_far.0 ++ spaced ns) (sym c.in-Some.ensures.steps)
          ∙ so_far.2,
    )
