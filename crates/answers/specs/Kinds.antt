-- The kinds of answers, and their numbers.
use Rattle.std.specs.Prelude.{ℕ}
use Rattle.answers.specs.declared.kind.Kind.{Kind}
use Rattle.answers.specs.declared.kind.Kind.TheVariants.{Refused, Done, Number, Enters, Told, Left}

abbrev pub kind_number : Kind → ℕ
kind_number Refused = 0
kind_number Done = 1
kind_number Number = 2
kind_number Enters = 3
kind_number Told = 4
kind_number Left = 5
