use Rattle.std.proofs.Common.{◌≡◌, ◌≤◌, length, refl, arith}
use Rattle.fields.specs.Shapes.{place_of, body_of}
use Rattle.fields.proofs.Puts.{length_place_if, length_message, put_first, put_message}
use Rattle.fields.proofs.writing.write.Goals as goal

pub overflow_add-needed-2 : goal.overflow_add-needed-2
overflow_add-needed-2 c = omega (arith, c.place_size.ensures (place_of c.args.fields.place), length_place_if c.args.shape.place (place_of c.args.fields.place))

pub overflow_add-needed-3 : goal.overflow_add-needed-3
overflow_add-needed-3 c =
    omega (
      arith,
      c.place_size.ensures (place_of c.args.fields.place),
      length_place_if c.args.shape.place (place_of c.args.fields.place),
      c.in_ok-listed.ensures.2,
    )

pub returns-then-out-needed : goal.returns-then-out-needed
returns-then-out-needed c =
    let four : length c.args.fields.numbers ≡ 4 = omega arith in
    let l = length_message c.args.shape c.args.number (body_of c.args.fields) four in
    (c.in_ok-listed.ensures.0, omega (arith, l, c.place_size.ensures (place_of c.args.fields.place), c.in_ok-listed.ensures.1), c.if-out-needed.true, refl)

pub place_if-requires : goal.place_if-requires
place_if-requires c =
    let few : c.args.shape.numbers ≤ length c.args.fields.numbers = omega arith in
    let n = put_first _ _ c.args.fields.numbers c.args.shape.numbers few c.numbers.ensures in
    omega (
      arith,
      n.1,
      c.byte.ensures.wrote.ends,
      c.byte.ensures.wrote.long,
      c.numbers.ensures.wrote.long,
      c.place_size.ensures (place_of c.args.fields.place),
    )

pub list_if-requires : goal.list_if-requires
list_if-requires c =
    let few : c.args.shape.numbers ≤ length c.args.fields.numbers = omega arith in
    let n = put_first _ _ c.args.fields.numbers c.args.shape.numbers few c.numbers.ensures in
    let p = c.place_if.ensures.wrote in (
      omega (
        arith,
        n.1,
        c.byte.ensures.wrote.ends,
        c.byte.ensures.wrote.long,
        c.numbers.ensures.wrote.long,
        c.place_size.ensures (place_of c.args.fields.place),
        p.ends,
        p.long,
        c.in_ok-listed.ensures.1,
      ),
      c.in_ok-listed.ensures.0,
    )

pub returns : goal.returns
returns c =
    let few : c.args.shape.numbers ≤ length c.args.fields.numbers = omega arith in
    let four : length c.args.fields.numbers ≡ 4 = omega arith in
    let n = put_first _ _ c.args.fields.numbers c.args.shape.numbers few c.numbers.ensures in
    let l = length_message c.args.shape c.args.number (body_of c.args.fields) four in
    let w = put_message c.args.shape c.args.number (body_of c.args.fields) _ c.byte.new.self c.numbers.new.self
    c.place_if.new.self c.list_if.new.self refl
    (omega (arith, l, c.place_size.ensures (place_of c.args.fields.place), c.in_ok-listed.ensures.1))
    c.byte.ensures n.0 c.place_if.ensures c.list_if.ensures in
    (c.in_ok-listed.ensures.0, w.0, grind (arith, w.1, w.2))
