-- What is promised of the fields' bytes.
use Rattle.fields.specs.Codec.{ReadBack, OneSpelling, SaysWhere}
use Rattle.fields.specs.Shapes.{Layout, body}

abbrev pub LawfulBodies : Type 0
LawfulBodies = (s : Layout) → ReadBack (body s) × OneSpelling (body s) × SaysWhere (body s)
