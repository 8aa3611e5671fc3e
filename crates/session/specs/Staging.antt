-- What a session with the first stage holds, and that it goes on holding it.
use Rattle.std.specs.Prelude.{ℕ, ◌≤◌, List, length, Ok, Err}
use Rattle.std.proofs.Common.{sym, subst, arith, length-set}
use lib.ListN.{length-replicate}
use Rattle.fields.specs.declared.values.Unwritten.TheVariants.{TooMany, TooShort}
use Rattle.model.specs.State.{Limits}
use Rattle.model.specs.Events.{Event}
use Rattle.monitor.specs.Called.{Staged}
use Rattle.session.specs.Holding.{HoldsAtFirst, CallsHold, WritesHold, OpenWritesHold}

-- whatever happened, the memory has its header
abbrev pub HasHeader : Limits → List Event → List ℕ → List ℕ → List ℕ → Type 0
HasHeader l es m cs os = 256 ≤ length m

pub at_first : HoldsAtFirst HasHeader
at_first pages opens h = simp (length-set, length-replicate) (omega arith)

pub calls_hold : CallsHold HasHeader Staged
calls_hold l es before after os c (Ok r) h d = subst (λ m. 256 ≤ length m) (sym d.1) h
calls_hold l es before after os c (Err TooMany) h d = absurd d
calls_hold l es before after os c (Err (TooShort n)) h d = subst (λ s. 256 ≤ length s.memory) (sym d.2) h

pub writes_hold : WritesHold HasHeader
writes_hold l es m cs os p ws h g f = h

pub open_writes_hold : OpenWritesHold HasHeader
open_writes_hold l es m cs os p ws h g f = h
