use Rattle.std.proofs.Common.{ℕ, ◌*◌, List, drop, sym, refl, ap, ◌∙◌, arith, length-drop}
use Rattle.std.proofs.lemmas.List.{drop-drop}
use Rattle.fields.specs.Codec.{lost, got}
use Rattle.fields.specs.Steps.{rest_of}
use Rattle.fields.proofs.Fronts.{padded_short, padded_there}
use Rattle.fields.proofs.cursor.Cursor.numbers.Goals as goal

pub returns-then-self-count : goal.returns-then-self-count
returns-then-self-count c =
    (padded_short c.args.count (rest_of c.args.self.now) (simp length-drop (omega arith)) ∙ ap lost (omega arith), omega arith)

pub returns : goal.returns
returns c =
    let n : ℕ = c.args.count in
    let at : ℕ = c.args.self.now.at in
    let bs : List ℕ = c.args.self.now.bytes.now in (
      refl,
      padded_there n (drop at bs) (simp length-drop (omega arith))
          ∙ ap (λ v. got v (drop (8 * n) (drop at bs))) (sym c.numbers_at-all.ensures)
          ∙ ap (got c.numbers_at-all.result) (drop-drop (8 * n) at bs),
    )
