use Rattle.std.proofs.Common.{ℕ, ◌+◌, ◌*◌, List, get_or, drop, sym, refl, ap, ◌∙◌, arith, length-drop}
use Rattle.fields.specs.Codec.{lost, got}
use Rattle.fields.proofs.Fronts.{list_none, list_many, list_short, list_there, part_numbers}
use Rattle.fields.proofs.cursor.Cursor.list.Goals as goal

pub returns-then-self : goal.returns-then-self
returns-then-self c =
    (list_none c.args.most c.args.self.now.at c.args.self.now.bytes.now (omega arith) ∙ ap lost (omega arith), omega arith)

pub returns-then-count-most : goal.returns-then-count-most
returns-then-count-most c =
    (list_many c.args.most c.args.self.now.at c.args.self.now.bytes.now (omega arith) (omega arith), omega arith)

pub returns-then-self-start : goal.returns-then-self-start
returns-then-self-start c = (
  list_short c.args.most c.args.self.now.at c.args.self.now.bytes.now (omega arith) (omega arith) (omega arith)
      ∙ ap lost (omega arith),
  omega arith,
)

pub returns : goal.returns
returns c =
    let at : ℕ = c.args.self.now.at in
    let bs : List ℕ = c.args.self.now.bytes.now in
    let n : ℕ = get_or bs at 0 in (
      refl,
      list_there c.args.most at bs (omega arith) (omega arith) (omega arith)
          ∙ ap (λ ns. got ns (drop (at + 1 + 8 * n) bs)) (sym (part_numbers n _ (drop (at + 1) bs) (omega arith) (simp length-drop
          (omega arith)))),
    )
