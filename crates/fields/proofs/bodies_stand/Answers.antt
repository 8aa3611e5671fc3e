use Rattle.fields.specs.Shapes.{body}
use Rattle.fields.proofs.Lawful.{read_back, one_spelling, says_where}
use Rattle.fields.proofs.Bodies.{lawful_body}
use Rattle.fields.proofs.bodies_stand.Goals as goal

pub returns : goal.returns
returns c = λ s.
    (read_back (body s) (lawful_body s), one_spelling (body s) (lawful_body s), says_where (body s) (lawful_body s))
