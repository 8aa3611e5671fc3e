use Rattle.std.proofs.Common.{sym}
use Rattle.fields.proofs.Puts.{length_place}
use Rattle.fields.proofs.writing.place_size.Goals as goal

pub returns-then-there : goal.returns-then-there
returns-then-there c = λ w. rw c.if-there.true (sym (length_place w))
