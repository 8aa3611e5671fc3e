-- What events made fits what the monitor asks of what it is lent.
use Rattle.std.proofs.Common.{◌≡◌, ℕ, ◌*◌, List, get_or, sym, ap, ◌∙◌, subst}
use mathlib.Core.Logic.{∥∥₁_elim}
use denote.Struct.Props.{props}
use Rattle.model.specs.State.{Limits, State}
use Rattle.model.specs.Events.{Event, state}
use Rattle.full_pages.specs.Meaning as meaning
use Rattle.full_pages.proofs.Seen.{reads_right}
use Rattle.full_monitor.specs.Limits.{Lent}
use Rattle.full_monitor.specs.Called.{Made}
use Rattle.full_monitor.proofs.Right.{known}
use Rattle.full_session.specs.Laws.{closed_long, opens_long}

-- What is lent fits, for any events.
lent_by : (l : Limits) (es : List Event) (m cs os : List ℕ) → Made l es m cs os → Lent m cs os
lent_by l es m cs os w =
    let s : State = state l es in
    let k = known l es w.sized w.paged in
    let pages : get_or m 0 0 ≡ l.pages = ap (λ x. get_or x 0 0) w.memory ∙ reads_right.others.pages l s in
    let opens : get_or m 1 0 ≡ l.opens = ap (λ x. get_or x 1 0) w.memory ∙ reads_right.others.opens l s in
    record {
      memory = subst meaning.Sized (sym w.memory)
          (reads_right.sized l s k.invariant.entries_long w.sized.most_pages w.sized.most_opens);
      closed = closed_long l es m cs os w ∙ ap (λ n. n * 1024) (sym pages);
      opens = opens_long l es m cs os w ∙ ap (λ n. n * 1024) (sym opens);
    }

pub lent : (m cs os : List ℕ) → ∥ ((l : Limits) × (es : List Event) × Made l es m cs os) ∥₁ → Lent m cs os
lent m cs os t = record {
  memory = record {
    long = ∥∥₁_elim t (hlevel props) (λ x. (lent_by x.0 x.1 m cs os x.2).memory.long);
    few = ∥∥₁_elim t (hlevel props) (λ x. (lent_by x.0 x.1 m cs os x.2).memory.few);
    few_open = ∥∥₁_elim t (hlevel props) (λ x. (lent_by x.0 x.1 m cs os x.2).memory.few_open);
  };
  closed = ∥∥₁_elim t (hlevel props) (λ x. (lent_by x.0 x.1 m cs os x.2).closed);
  opens = ∥∥₁_elim t (hlevel props) (λ x. (lent_by x.0 x.1 m cs os x.2).opens);
}
