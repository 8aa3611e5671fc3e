-- After any events the program does what the definitions say; and what is refused, or told an error, changes nothing.
use Rattle.std.proofs.Common.{◌≡◌, ◌+◌, ◌*◌, List, [], ◌∷◌, length, sym, ap, ◌∙◌, subst}
use Rattle.model.specs.Calls.{Call}
use Rattle.model.specs.State.{Limits, State}
use Rattle.model.specs.Monitor.{after}
use Rattle.model.specs.Events.{Event, called, wrote, wrote_open, event, state, AllPaged}
use Rattle.model.proofs.Answered as model
use Rattle.pages.specs.Flat.{flat}
use Rattle.pages.specs.Layout.{encode}
use Rattle.pages.proofs.Edits.{edits_written}
use Rattle.pages.proofs.Memory.{length_encode}
use Rattle.full_monitor.specs.Program.{says, leaves, leaves_pages}
use Rattle.full_monitor.specs.Promises.{Whole, memory_after, memory, Right, Keeps, RefusalKeeps, ErrorKeeps, EnoughMemory}
use Rattle.fields.specs.Bytes.{Wide}
use Rattle.full_monitor.proofs.Bounded.{encode_wide}
use Rattle.full_monitor.proofs.Right.{known, says_right, leaves_right, pages_right}

-- The memory that the program makes is that of the state that the definitions make.
pub memory_right : (l : Limits) (es : List Event) → Whole l → AllPaged l es → memory l es ≡ encode l (state l es)
unfolding memory memory_after state event
memory_right l [] w p = edits_written.start l
memory_right l (called c ∷ es) w p =
    let s : State = state l es in
    ap (λ m. leaves m (flat s.contents) (flat s.open_pages) c) (memory_right l es w p.1)
    ∙ leaves_right l s (known l es w.sized p.1) w.can c
memory_right l (wrote q ws ∷ es) w p = memory_right l es w p.1
memory_right l (wrote_open o ws ∷ es) w p = memory_right l es w p.1

pub right : Right
right l es c w p =
    let s : State = state l es in
    let k = known l es w.sized p in
    let e = memory_right l es w p in (
      ap (λ m. says m (flat s.contents) (flat s.open_pages) c) e ∙ says_right l s k w.can c,
      ap (λ m. leaves_pages m (flat s.contents) (flat s.open_pages) c) e ∙ pages_right l s k w.can c,
    )

keeps : (l : Limits) (es : List Event) (c : Call) → Whole l → AllPaged l es → after l (state l es) c ≡ state l es → Keeps l es c
keeps l es c w p h =
    let s : State = state l es in
    let e = memory_right l es w p in (
      ap (λ m. leaves m (flat s.contents) (flat s.open_pages) c) e ∙ leaves_right l s (known l es w.sized p) w.can c
          ∙ ap (encode l) h ∙ sym e,
      (right l es c w p).1 ∙ ap (λ t. flat t.contents) h,
    )

pub refusal_keeps : RefusalKeeps
refusal_keeps l es c r w p h = keeps l es c w p (model.refused_keeps l (state l es) c r h)

pub error_keeps : ErrorKeeps
error_keeps l es c e ns w p h n = keeps l es c w p (model.error_keeps l (state l es) c e ns h n)

pub enough_memory : EnoughMemory
enough_memory l es w p =
    let e = memory_right l es w p in
    let k = known l es w.sized p in (
      ap length e ∙ length_encode l (state l es) ∙ ap (λ n. 256 + n * 2048) k.invariant.entries_long,
      subst Wide (sym e) (encode_wide l (state l es) k),
    )
