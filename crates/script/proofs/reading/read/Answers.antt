use Rattle.std.proofs.Common.{◌≡◌, ◌≤◌, ◌++◌, length, drop, sym, arith, rules, length-append, length-drop}
use Rattle.script.proofs.Carrying.{said_back}
use Rattle.script.proofs.Trying.{line_skipped, line_said}
use Rattle.script.proofs.reading.read.Goals as goal

pub returns-then-is_skipped-clause-said : goal.returns-then-is_skipped-clause-said
returns-then-is_skipped-clause-said c = line_skipped c.args.text.now (sym c.if-is_skipped.ensures)

pub returns : goal.returns
returns c =
    let text = c.args.text.now in
    let kept : length (c.read_by.new.page ++ drop 1024 c.args.words.now) ≡ length c.args.words.now = search rules in
    let long : 1024 ≤ length c.read_by.new.page =
    omega (arith, kept, length-append c.read_by.new.page (drop 1024 c.args.words.now), length-drop 1024 c.args.words.now, c.requires.1) in
    let said = line_said text c.read_by.result c.unwrap_or.result c.read_by.new.bytes c.read_by.new.page _ _
    (sym c.if-is_skipped.ensures)
    c.unwrap_or.ensures long c.read_by.ensures in
    record { said = said; back = said_back text c.unwrap_or.result _ _ said }
