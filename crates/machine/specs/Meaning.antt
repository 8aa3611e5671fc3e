-- What the code's values mean.
use Rattle.std.specs.Prelude.{Option, Some, None}
use Rattle.model.specs.Processor.{Seen, unseen, seen}
use Rattle.machine.specs.declared.values.Seen as code

abbrev pub seen_of : Option code.Seen → Seen
seen_of None = unseen
seen_of (Some s) = seen s.write s.run s.word
