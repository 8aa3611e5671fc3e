use Rattle.std.proofs.Common.{add-zero}
use Rattle.std.proofs.lemmas.List.{get_or-drop}
use Rattle.fields.proofs.reading.number_at.Goals as goal

pub returns : goal.returns
returns c = simp (add-zero, get_or-drop) c.from_le_bytes.ensures
