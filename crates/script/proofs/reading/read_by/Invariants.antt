use Rattle.std.proofs.Common.{◌≡◌, drop, map}
use Rattle.script.specs.Words.{words}
use Rattle.script.specs.Forms.{form_of}
use Rattle.script.specs.Lines.{first_form}
use Rattle.script.proofs.reading.read_by.Given as goal

abbrev pub invariant-loop-form : goal.invariant-loop-form
invariant-loop-form l =
    first_form (map form_of (drop l.form-index l.forms)) (words l.text) ≡ first_form (map form_of l.forms) (words l.text)
