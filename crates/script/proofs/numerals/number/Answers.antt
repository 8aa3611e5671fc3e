use Rattle.std.proofs.Common.{◌≡◌, ◌<◌, length, get_or, sym, ◌∙◌, arith, rules}
use Rattle.script.proofs.Figures.{number_none, number_leading, number_digits}
use Rattle.script.proofs.numerals.number.Goals as goal

pub returns-in-empty : goal.returns-in-empty
returns-in-empty c = sym (number_none c.args.word.now (omega arith))

pub returns-in-empty-2 : goal.returns-in-empty-2
returns-in-empty-2 c = sym (number_leading c.args.word.now (omega arith) (search rules))

pub returns-in_default : goal.returns-in_default
returns-in_default c =
    let some : 0 < length c.args.word.now = search rules in
    let other : 1 < length c.args.word.now → get_or c.args.word.now 0 0 ≡ 48 → ⊥ = search rules in
    c.digits.ensures ∙ sym (number_digits c.args.word.now some other)
