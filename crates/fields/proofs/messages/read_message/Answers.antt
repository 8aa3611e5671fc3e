use Rattle.std.proofs.Common.{◌≡◌, ◌∷◌, ◌∙◌, Some, Ok, ap, arith}
use Rattle.std.proofs.ByRecursion.{All-from_get_or}
use Rattle.fields.specs.Bytes.{Bytes}
use Rattle.fields.specs.Codec.{read_all}
use Rattle.fields.specs.Shapes.{layout, body}
use Rattle.fields.specs.Tables.{layout_of}
use Rattle.fields.proofs.Rows.{read_behind, behind_one}
use Rattle.fields.proofs.messages.read_message.Goals as goal

pub returns-in-Err : goal.returns-in-Err
returns-in-Err g c =
    let n = c.in-Some.number.now in
    let rs = g.K.MessageKind.table in
    let all : Bytes c.args.bytes.now = All-from_get_or _ c.args.bytes.now 0 (λ i _. omega (arith, c.type_inv.bytes i)) in
    let split : c.args.bytes.now ≡ n ∷ c.in-Some.rest.now = grind (arith, c.in-Some.ensures.cases) in
    let its : g.K.MessageKind.number_of c.in-Ok.kind ≡ n = g.met.K.MessageKind.finds n (Ok c.in-Ok.kind) c.in-Ok.ensures in
    let row : layout_of n rs ≡ Some (layout c.shape.result) = rw its at c.shape.ensures in
    rw split (read_behind rs n c.in-Some.rest.now (layout c.shape.result) (rw split at all).1 row
    ∙ ap (behind_one (λ f. (n, f))) {x = read_all (body (layout c.shape.result)) c.in-Some.rest.now} c.in-Err.ensures)
