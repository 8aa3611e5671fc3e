use Rattle.std.proofs.Common.{length, ap, arith}
use Rattle.script.proofs.Standing.{hold_sound}
use Rattle.script.proofs.reading.hold_from.Goals as goal

pub put_call-length-requires : goal.put_call-length-requires
put_call-length-requires c = hold_sound _ (omega (arith, ap (λ f. length f.list) c.fields.ensures))
