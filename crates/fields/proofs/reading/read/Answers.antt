use Rattle.std.proofs.Common.{ap}
use Rattle.fields.proofs.Fronts.{body_there, closed_long, closed_whole}
use Rattle.fields.proofs.reading.read.Goals as goal

pub returns-then-cursor-bytes : goal.returns-then-cursor-bytes
returns-then-cursor-bytes c =
    closed_long _ _ c.args.bytes.now _
    (body_there
    (record { numbers = c.in_ok-numbers.numbers; place = c.in_ok-place.place; list = c.in_ok-list.list })
    c.args.shape c.args.bytes.now c.new-cursor.result c.numbers.new.self c.place_if.new.self c.list_if.new.self
    (ap (λ b. b.now) c.new-cursor.ensures.0) c.new-cursor.ensures.1 c.in_ok-numbers.ensures c.in_ok-place.ensures c.in_ok-list.ensures)
    c.if-cursor-bytes.true

pub returns : goal.returns
returns c =
    closed_whole _ _ c.args.bytes.now _
    (body_there
    (record { numbers = c.in_ok-numbers.numbers; place = c.in_ok-place.place; list = c.in_ok-list.list })
    c.args.shape c.args.bytes.now c.new-cursor.result c.numbers.new.self c.place_if.new.self c.list_if.new.self
    (ap (λ b. b.now) c.new-cursor.ensures.0) c.new-cursor.ensures.1 c.in_ok-numbers.ensures c.in_ok-place.ensures c.in_ok-list.ensures)
    c.if-cursor-bytes.false
