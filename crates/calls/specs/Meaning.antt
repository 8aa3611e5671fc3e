-- What the code's calls mean: for each case its number and values.
use Rattle.model.specs.Calls as model
use Rattle.fields.specs.Shapes.{place_of, numbers_of}
use Rattle.std.specs.Prelude.{ℕ, Ok, Err, Result}
use Rattle.calls.specs.declared.call.Call.{Call}
use Rattle.calls.specs.declared.call.Call.TheVariants.{HowMany, NewCell, NewThread, NewTable, Hold, Give, Show, Remove, Seal, Stop}
use Rattle.calls.specs.declared.call.Call.TheVariants.{Enter, Resume, Leave, Interrupt, Fault, Grow, Shrink, Extend, Who, Draw}

abbrev pub call_of : Call → model.Call
call_of HowMany = model.by_system model.how_many
call_of (NewCell p t) = model.by_system (model.new_cell p t)
call_of (NewThread p c a) = model.by_system (model.new_thread p c a)
call_of (NewTable p c i) = model.by_system (model.new_table p c i)
call_of (Hold p c w o) = model.by_system (model.hold p c (place_of w) o)
call_of (Give p c) = model.by_system (model.give p c)
call_of (Show o c w) = model.by_system (model.show o c (place_of w))
call_of (Remove p) = model.by_system (model.remove p)
call_of (Seal c) = model.by_system (model.seal c)
call_of (Stop c) = model.by_system (model.stop c)
call_of (Enter t x y z) = model.by_system (model.enter t x y z)
call_of (Resume t) = model.by_system (model.resume t)
call_of (Leave n) = model.by_cell (model.leave n)
call_of (Interrupt rs) = model.by_cell (model.interrupt (numbers_of rs))
call_of (Fault k) = model.by_cell (model.fault k)
call_of (Grow p w) = model.by_cell (model.grow p (place_of w))
call_of (Shrink p w) = model.by_cell (model.shrink p (place_of w))
call_of (Extend p i) = model.by_cell (model.extend p i)
call_of Who = model.by_cell model.who
call_of (Draw n) = model.by_cell (model.draw n)

-- what a reading came to
abbrev pub asked : Result Call ℕ → model.Call
asked (Ok c) = call_of c
asked (Err k) = model.garbled k
