-- What the system is told always fits a slice of seventeen bytes.
use Rattle.std.proofs.Common.{◌≡◌, ℕ, ◌≤◌, List, length, Err, sym, ap, ◌∙◌, arith}
use borrow.Author.Tests.{clash}
use Rattle.fields.specs.Steps.{Written}
use Rattle.fields.specs.declared.values.Unwritten.{Unwritten}
use Rattle.fields.specs.declared.values.Unwritten.TheVariants.{TooMany, TooShort}
use Rattle.model.specs.Answers.{Answer, to_system}
use Rattle.answers.specs.Table.{carried, write_answer}
use Rattle.answers.proofs.Stand.{answers_brief}

pub always_told : (a t : Answer) (before after : List ℕ) (u : Unwritten) → t ≡ to_system a → 17 ≤ length before →
    Written (carried t) (write_answer t) before after (Err u) → ⊥
always_told a t before after TooMany e h w = clash (sym w.0 ∙ ap carried e ∙ (answers_brief a).0)
always_told a t before after (TooShort n) e h w = omega (arith, (answers_brief a).1, ap (λ x. length (write_answer x)) e, w.1, w.2)
