use Rattle.std.proofs.Common.{◌≡◌, ℕ, List, [], ap, ◌∙◌, ap₂}
use Rattle.pages.specs.Meaning.{measure_words}
use Rattle.pages.specs.Rows.{numbers_put, row_put}
use Rattle.pages.proofs.Hashes.{measure_is}
use Rattle.pages.proofs.Records.{blank, record_begun, record_made, cell_made}
use Rattle.pages.proofs.writing.put_record.Goals as goal

pub returns-in-Cell : goal.returns-in-Cell
returns-in-Cell c =
    let m : List ℕ = c.args.memory.now in
    let p : ℕ = c.args.page in
    let b : c.put_numbers.new.memory ≡ row_put m p (blank c.args.new) =
    c.put_numbers.ensures ∙ ap₂ (λ x ws. numbers_put x p 0 ws) c.let_go.ensures c.beginning.ensures
    ∙ record_begun m p c.args.new c.requires in
    c.put_measure.ensures ∙ ap (λ x. numbers_put x p 4 (measure_words c.new.result)) b
    ∙ cell_made m p c.in-Cell.top c.in-Cell.phase c.args.new (measure_words c.new.result) c.requires c.in-Cell.is
    (measure_is c.new.result [] c.new.ensures.history)

pub returns-in_default : goal.returns-in_default
returns-in_default c =
    let m : List ℕ = c.args.memory.now in
    let p : ℕ = c.args.page in
    c.put_numbers.ensures ∙ ap₂ (λ x ws. numbers_put x p 0 ws) c.let_go.ensures c.beginning.ensures
    ∙ record_begun m p c.args.new c.requires ∙ ap (row_put m p) (record_made c.args.new c.in_default.not-Cell)
