-- Induction over worlds that can be; and sizes, which never change.
use Rattle.std.proofs.Common.{◌≡◌, ℕ, List, [], ◌∷◌, length, Some, None, Option, refl, ap, ◌∙◌, subst, length-set}
use lib.ListN.{length-replicate}
use Rattle.model.specs.Calls.{Call, by_cell}
use Rattle.model.specs.Pages.{Slot, Cell, free, Entries, at, cell_in, table_at, slot_put_in, table_put_by}
use Rattle.model.specs.State.{Limits, State, zeros, new_state, apply, apply_all}
use Rattle.model.specs.State.{Edit, put_entry, put_slot, put_table, measure, set_phase, set_thread, write_page, run}
use Rattle.model.specs.Monitor.{edits, after}
use Rattle.model.specs.Machine.{Machine}
use Rattle.model.specs.Worlds.{World, new_world, Act, calls, writes, runs, running_cell, run_of, Possible, AllPossible, step, play}
use Rattle.model.specs.Worlds.{Reachable, ran, ending, after_run}
use Rattle.model.proofs.Runs.{SamePages, written_pages}

module _ (l : Limits) (m : Machine) (P : World → Type 0) (each : (w : World) (a : Act) → Possible l w a → P w → P (step l m w a)) where
  pub played : (w : World) (acts : List Act) → AllPossible l m w acts → P w → P (play l m w acts)
  played w [] h p = p
  played w (a ∷ rest) h p = played (step l m w a) rest h.1 (each w a h.0 p)

  -- What holds at the start, and is kept by each act, holds of every world that can be.
  pub reached : P (new_world l) → (w : World) → Reachable l m w → P w
  reached p w r = subst P r.made (played (new_world l) r.acts r.possible p)

pub record Sizes (l : Limits) (s : State) : Type 0 where
  pub entries : length s.entries ≡ l.pages
  pub contents : length s.contents ≡ l.pages
  pub open_pages : length s.open_pages ≡ l.opens

slot_long : (d : Entries) (q : Option ℕ) (j : ℕ) (z : Slot) → length (slot_put_in d q j z) ≡ length d
unfolding slot_put_in
slot_long d None j z = refl
slot_long d (Some q) j z = length-set d q _

table_long : (d : Entries) (y : Option Cell) (i p : ℕ) → length (table_put_by d y i p) ≡ length d
unfolding table_put_by
table_long d None i p = refl
table_long d (Some y) i p = length-set d y.top _

entries_sizes : (l : Limits) (s : State) (d : Entries) → Sizes l s → length d ≡ length s.entries →
    Sizes l (record { entries = d; contents = s.contents; open_pages = s.open_pages; running = s.running })
entries_sizes l s d h e = record { entries = e ∙ h.entries; contents = h.contents; open_pages = h.open_pages }

apply_sizes : (l : Limits) (s : State) (e : Edit) → Sizes l s → Sizes l (apply s e)
apply_sizes l s (put_entry p x) h = entries_sizes l s _ h (length-set s.entries p x)
apply_sizes l s (put_slot c w z) h = entries_sizes l s _ h (slot_long s.entries (table_at s.entries c w.table) w.slot z)
apply_sizes l s (put_table c i p) h = entries_sizes l s _ h (table_long s.entries (cell_in (at s.entries c)) i p)
apply_sizes l s (measure c m) h = entries_sizes l s _ h (length-set s.entries c _)
apply_sizes l s (set_phase c f) h = entries_sizes l s _ h (length-set s.entries c _)
apply_sizes l s (set_thread t u rs) h = entries_sizes l s _ h (length-set s.entries t _)
apply_sizes l s (write_page p ws) h =
    record { entries = h.entries; contents = length-set s.contents p ws ∙ h.contents; open_pages = h.open_pages }
apply_sizes l s (run r) h = record { entries = h.entries; contents = h.contents; open_pages = h.open_pages }

pub all_sizes : (l : Limits) (s : State) (es : List Edit) → Sizes l s → Sizes l (apply_all s es)
all_sizes l s [] h = h
all_sizes l s (e ∷ es) h = all_sizes l (apply s e) es (apply_sizes l s e h)

after_sizes : (l : Limits) (s : State) (c : Call) → Sizes l s → Sizes l (after l s c)
after_sizes l s c h = all_sizes l s (edits l s c) h

pub new_sizes : (l : Limits) → Sizes l (new_state l)
new_sizes l = record {
  entries = length-replicate l.pages free;
  contents = length-replicate l.pages (zeros l);
  open_pages = length-replicate l.opens (zeros l);
}

pub same_sizes : (l : Limits) (s t : State) → SamePages s t → Sizes l s → Sizes l t
same_sizes l s t k h = record {
  entries = ap length k.entries ∙ h.entries;
  contents = k.contents_long ∙ h.contents;
  open_pages = k.opens_long ∙ h.open_pages;
}

step_sizes : (l : Limits) (m : Machine) (w : World) (a : Act) → Sizes l w.state → Sizes l (step l m w a).state
unfolding step run_of
step_sizes l m w (calls c) h = after_sizes l w.state c h
step_sizes l m w (writes o ws) h =
    record { entries = h.entries; contents = h.contents; open_pages = length-set w.state.open_pages o ws ∙ h.open_pages }
step_sizes l m w (runs chance) h = go (running_cell w.state)
  where
    go : (c : Option ℕ) → Sizes l (run_of l m w chance c).state
    go None = h
    go (Some c) =
        after_sizes l (after_run m w c chance) (by_cell (ending m w c chance))
        (same_sizes l w.state _ (written_pages c (ran m w c chance).words w.state) h)

pub sizes : (l : Limits) (m : Machine) (w : World) → Reachable l m w → Sizes l w.state
sizes l m w r =
    reached l m (λ v. Sizes l v.state) (λ v a h k. step_sizes l m v a k) (new_sizes l) w r
