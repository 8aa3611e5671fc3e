-- What is so of a monitor's memory and pages, by the events that made them; and what keeps it so.
use Rattle.std.specs.Prelude.{◌≡◌, ℕ, ◌*◌, true, List, [], ◌∷◌, Ok, Err, replicate, Result}
use Rattle.fields.specs.declared.values.Unwritten.{Unwritten}
use Rattle.model.specs.Calls.{Call}
use Rattle.model.specs.State.{Limits, all_words}
use Rattle.model.specs.Events.{Event, called, wrote, wrote_open}
use Rattle.model.specs.Promises.{all}
use Rattle.pages.specs.Flat.{page_put}
use Rattle.pages.specs.Rows.{new_memory}
use Rattle.monitor.specs.Stage.{good_limits}
use Rattle.monitor.specs.Called.{Slices}
use Rattle.monitor.specs.declared.values.Reply.{Reply}
use Rattle.session.specs.Flat.{whole_page, page_fits}

-- The limits of a monitor that can do every call.
abbrev pub limits_of : ℕ → ℕ → Limits
limits_of pages opens = record { can = all; pages = pages; opens = opens; places = 256; slots = 1024; words = 1024 }

-- The events after a call: one more, unless there was no room for what the system is told.
abbrev pub with_call : Call → List Event → Result Reply Unwritten → List Event
with_call c es (Ok r) = called c ∷ es
with_call c es (Err u) = es

-- What a monitor is opened with: the memory of the first state, and pages of zeros.
abbrev pub HoldsAtFirst : (Limits → List Event → List ℕ → List ℕ → List ℕ → Type 0) → Type 0
HoldsAtFirst holds =
    (pages opens : ℕ) → good_limits pages opens ≡ true →
    holds (limits_of pages opens) [] (new_memory pages opens) (replicate (1024 * pages) 0) (replicate (1024 * opens) 0)

-- A call is one event more.
abbrev pub CallsHold : (Limits → List Event → List ℕ → List ℕ → List ℕ → Type 0) →
    (List ℕ → Call → Slices → Slices → Result Reply Unwritten → Type 0) → Type 0
CallsHold holds does =
    (l : Limits) (es : List Event) (before after : Slices) (os : List ℕ) (c : Call) (r : Result Reply Unwritten) →
    holds l es before.memory before.closed os → does os c before after r → holds l (with_call c es r) after.memory after.closed os

-- So is a page that is written, with zeros behind the words.
abbrev pub WritesHold : (Limits → List Event → List ℕ → List ℕ → List ℕ → Type 0) → Type 0
WritesHold holds =
    (l : Limits) (es : List Event) (m cs os : List ℕ) (p : ℕ) (ws : List ℕ) → holds l es m cs os → all_words ws ≡ true →
    page_fits cs p ws ≡ true → holds l (wrote p (whole_page ws) ∷ es) m (page_put cs p (whole_page ws)) os

abbrev pub OpenWritesHold : (Limits → List Event → List ℕ → List ℕ → List ℕ → Type 0) → Type 0
OpenWritesHold holds =
    (l : Limits) (es : List Event) (m cs os : List ℕ) (p : ℕ) (ws : List ℕ) → holds l es m cs os → all_words ws ≡ true →
    page_fits os p ws ≡ true → holds l (wrote_open p (whole_page ws) ∷ es) m cs (page_put os p (whole_page ws))
