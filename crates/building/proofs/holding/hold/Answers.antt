use Rattle.std.proofs.Common.{◌≡◌, ℕ, List, length, ap, ◌∙◌, ap₂, arith}
use Rattle.fields.specs.Shapes.{place_of}
use Rattle.pages.specs.Flat.{HasWords, page_in}
use Rattle.pages.specs.Rows.{numbers_put}
use Rattle.pages.specs.Meaning.{measure_words}
use Rattle.pages.proofs.Lists.{length_page}
use Rattle.building.specs.Made.{source_words, held_measure, made_held}
use Rattle.building.proofs.Filled.{read_back, length_source, source_fits}
use Rattle.building.proofs.holding.hold.Goals as goal

pub measured-measure-requires : goal.measured-measure-requires
measured-measure-requires c =
    let ok = (rw c.of.ensures at c.in_ok-table.ensures).1 in
    let there : HasWords c.fill.new.closed c.args.page = omega (arith, ok.2, c.fill.auto.closed) in
    (omega (arith, ok.3), ap length c.page_at.ensures ∙ length_page c.fill.new.closed c.args.page there)

pub returns : goal.returns
returns c =
    let m : List ℕ = c.args.memory.now in
    let os : List ℕ = c.args.open.now in
    let ws : List ℕ = source_words os c.args.source in
    let ok = rw c.of.ensures at c.in_ok-table.ensures in
    let long : length ws ≡ 1024 = length_source os c.args.source (source_fits m os c.args.source ok.1.4 (omega arith)) in
    let words = c.page_at.ensures ∙ ap (λ x. page_in x c.args.page) c.fill.ensures
    ∙ read_back c.args.closed.now c.args.page ws (omega arith) long in
    let measure = c.measured-measure.ensures ∙ ap (held_measure m c.args.cell (place_of c.args.at.place)) words in
    record {
      «memory» = (
        ok.0,
        c.put_measure.ensures
            ∙ ap₂ (λ x k. numbers_put x c.args.cell 4 (measure_words k))
            (c.become_held.ensures ∙ ap (λ q. made_held m c.args.page c.args.cell q (place_of c.args.at.place)) ok.1.0) measure,
      );
      closed = (ok.0, c.fill.ensures);
    }
