use Rattle.std.proofs.Common.{sym, refl, ap, ◌∙◌, arith}
use Rattle.lookups.specs.Lookups.{part_of, is_part}
use Rattle.lookups.proofs.Parts.{tested, none_yet, none_here, one_found}
use Rattle.lookups.proofs.memory.Memory.has_parts.Goals as goal

pub pages-init : goal.pages-init
pages-init c = (none_yet c.args.self.now c.args.cell, refl)

pub pages-preserved : goal.pages-preserved
pages-preserved c =
    let part = sym (c.part_of.ensures ∙ ap part_of c.record_of.ensures) in (
      none_here c.pages.page c.args.self.now c.args.cell c.pages.invariant.0
          (ap (λ o. is_part o c.args.cell) part ∙ sym (tested c.part_of.result c.args.cell) ∙ sym c.eq.ensures ∙ c.if-eq.false),
      c.pages.invariant.1,
    )

pub returns-then-eq : goal.returns-then-eq
returns-then-eq c =
    let part = sym (c.part_of.ensures ∙ ap part_of c.record_of.ensures) in
    sym (one_found _ c.pages.page c.args.self.now c.args.cell (omega (arith, c.pages-page-end.ensures))
    (ap (λ o. is_part o c.args.cell) part ∙ sym (tested c.part_of.result c.args.cell) ∙ sym c.eq.ensures ∙ c.if-eq.true))
