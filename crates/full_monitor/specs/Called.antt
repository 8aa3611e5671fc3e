-- What a call of the monitor has done, by its program and by the definitions.
use Rattle.std.specs.Prelude.{◌≡◌, ℕ, true, List, Result}
use Rattle.fields.specs.declared.values.Unwritten.{Unwritten}
use Rattle.model.specs.Calls.{Call}
use Rattle.model.specs.State.{Limits, Sized, State}
use Rattle.model.specs.Monitor as model
use Rattle.model.specs.Events.{Event, state, AllPaged}
use Rattle.monitor.specs.Called.{Slices, Called}
use Rattle.monitor.specs.declared.values.Reply.{Reply}
use Rattle.pages.specs.Flat.{flat}
use Rattle.pages.specs.Layout.{encode}
use Rattle.full_monitor.specs.Program.{says, leaves, leaves_pages}

-- It runs the program.
abbrev pub Runs : List ℕ → Call → Slices → Slices → Result Reply Unwritten → Type 0
Runs os c before after r =
    Called (says before.memory before.closed os c) (leaves before.memory before.closed os c)
    (leaves_pages before.memory before.closed os c) before after r

-- The memory, and the words of closed and of open pages, are those that events made; the monitor can do every call.
pub record Made (l : Limits) (es : List Event) (m cs os : List ℕ) : Type 0 where
  pub sized : Sized l
  pub can : (k : ℕ) → l.can k ≡ true
  pub paged : AllPaged l es
  pub memory : m ≡ encode l (state l es)
  pub closed : cs ≡ flat (state l es).contents
  pub opens : os ≡ flat (state l es).open_pages

-- REFINEMENT: for any limits, and any events that made what is lent, the call does what the definitions say in the state that they made.
abbrev pub Refines : List ℕ → Call → Slices → Slices → Result Reply Unwritten → Type 0
Refines os c before after r =
    (l : Limits) (es : List Event) → Made l es before.memory before.closed os →
    let s : State = state l es in
    Called (model.answer l s c) (encode l (model.after l s c)) (flat (model.after l s c).contents) before after r
