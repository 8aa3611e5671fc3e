use Rattle.script.proofs.Standing.{kind_sound}
use Rattle.std.proofs.Common.{ap}
use Rattle.script.proofs.reading.call.Goals as goal

pub put_call-length-requires : goal.put_call-length-requires
put_call-length-requires c = kind_sound c.args.kind _ (ap (λ f. f.list) c.fields.ensures)
