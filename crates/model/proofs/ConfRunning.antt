-- The cell that runs, where the invariant holds: it is sealed, sees only pages that it holds, and goes on as the same cell.
use Rattle.std.proofs.Common.{◌≡◌, ℕ, Bool, true, ◌&&◌, ◌≢◌, ◌⊎◌, List, [], ◌∷◌, get_or, is_some, Some, None, Option, refl, ap, ◌∙◌, inl, inr, arith}
use Rattle.std.specs.Option.{option_map}
use Rattle.model.specs.Calls.{CellCall, Call, by_cell, leave, interrupt, fault, grow, shrink, extend, who, draw}
use Rattle.model.specs.Pages.{Slot, nothing, closed, opened, Entry, free, first_page, thread_of, held_by, kind}
use Rattle.model.specs.Pages.{kind_number, part_of, is_spare, is_held, cell_in, slot_in, slots_in, table_at, Cell}
use Rattle.model.specs.Pages.{Entries, at, changed_at, slot_put_in, table_put_by, cell, thread, top, table, held, spare}
use Rattle.model.specs.State.{Limits, State, entry, Caller, caller, caller_by, Edit, apply, apply_all, put_entry, put_slot, put_table}
use Rattle.model.specs.State.{measure, set_phase, set_thread, write_page, run}
use Rattle.model.specs.Refusals.{cell_checks}
use Rattle.model.specs.Monitor.{cell_edits, edits, after}
use Rattle.model.specs.Machine.{Machine, GoodMachine, GoodRun, ViewWell, words_behind, sight}
use Rattle.model.specs.Worlds.{World, cell_by, running_cell, Reachable, ran}
use Rattle.model.specs.Invariant.{Invariant, Live, SlotFits, EntryFits}
use Rattle.model.specs.Promises.{InvariantHolds, RegistersGood}
use Rattle.model.proofs.Lists.{get_d_set}
use Rattle.model.proofs.Effects.{Pass, Effect, no_effect, system_effect, cell_effect, effect}
use Rattle.model.proofs.InvCalls.{sealed_live}
use Rattle.model.proofs.ConfCalls.{cell_running}
use Rattle.model.proofs.ConfLike.{Edits, edits_slot, edits_table, edits_measured, edits_phase, edits_thread}

-- Who calls: the thread that runs, and its cell.
caller_is : (d : Entries) (r : Option ℕ) (k : Caller) → caller_by d r ≡ Some k →
    (r ≡ Some k.thread) × (part_of (kind (at d k.thread)) ≡ Some k.cell)
unfolding caller_by
caller_is d None k h = absurd (grind (arith, h))
caller_is d (Some q) k h = go (part_of (kind (at d q))) refl h
  where
    go : (x : Option ℕ) → part_of (kind (at d q)) ≡ x → option_map (λ c. record { thread = q; cell = c }) x ≡ Some k →
        (Some q ≡ Some k.thread) × (part_of (kind (at d k.thread)) ≡ Some k.cell)
    go None e z = absurd (grind (arith, z))
    go (Some c) e z = grind (arith, e, z)

pub record Runs (s : State) (k : Caller) : Type 0 where
  pub thread : kind (entry s k.thread) ≡ thread_of k.cell
  pub first : kind (entry s k.cell) ≡ first_page
  pub live : Live s k.cell

pub runs_now : (l : Limits) (s : State) (k : Caller) → Invariant l s → caller s ≡ Some k → Runs s k
unfolding part_of
runs_now l s k i h =
    let a = caller_is s.entries s.running k h in
    let b = i.sealed_runs k.thread a.0 in
    let e : b.0 ≡ k.cell = grind (arith, b.1, a.1) in record {
      thread = rw (← e) b.1;
      first = i.owned k.thread k.cell a.1;
      live = sealed_live (entry s k.cell) (rw (← e) b.2);
    }

-- What a cell that is not stopped sees of closed pages, it holds.
pub sees : (l : Limits) (s : State) (c : ℕ) → Invariant l s → Live s c → (i j p : ℕ) (a b : Bool) →
    slot_in s.entries (table_at s.entries c i) j ≡ closed p a b → kind (entry s p) ≡ held_by c
unfolding slot_in
sees l s c inv v i j p a b h = go (table_at s.entries c i) refl h
  where
    go : (q : Option ℕ) → table_at s.entries c i ≡ q → slot_in s.entries q j ≡ closed p a b → kind (entry s p) ≡ held_by c
    go None e z = absurd (grind (arith, z))
    go (Some q) e z = inv.sees_held c q j p a b v (inv.has_table c i q v e) z

-- What it sees are pages, so a run of it is good.
pub slot_fits : (l : Limits) (s : State) (q : Option ℕ) (j : ℕ) → Invariant l s → SlotFits l (slot_in s.entries q j)
unfolding slot_in slots_in SlotFits EntryFits
slot_fits l s None j i = tt
slot_fits l s (Some q) j i = go (entry s q) (i.entries_fit q)
  where
    go : (x : Entry) → EntryFits l x → SlotFits l (get_or (slots_in x) j nothing)
    go free h = tt
    go (cell x) h = tt
    go (thread x) h = tt
    go (top x) h = tt
    go (table x) h = h.1 j
    go (held x) h = tt
    go (spare x) h = tt

well : (l : Limits) (s : State) (z : Slot) → Invariant l s → SlotFits l z → ViewWell l z (words_behind s z)
unfolding ViewWell words_behind SlotFits
well l s nothing i h = tt
well l s (closed p w x) i h = i.contents_fit p h
well l s (opened o w) i h = i.opens_fit o h

pub runs_well : InvariantHolds → RegistersGood → (l : Limits) (m : Machine) (w : World) (g : GoodMachine l m) → Reachable l m w →
    (k : Caller) → caller w.state ≡ Some k → (chance : ℕ) → GoodRun l (sight w.state k.cell) (ran m w k.cell chance)
runs_well inv reg l m w g r k e chance =
    let i = inv l m w g r in
    let n : is_some w.state.running ≡ true = rw (caller_is w.state.entries w.state.running k e).0 refl in
    g.runs_well w.registers (sight w.state k.cell) chance (reg l m w g r n)
    (λ a b. well l w.state _ i (slot_fits l w.state _ b i))

-- A page keeps its kind in edits that do not make it another.
abbrev Elsewhere : ℕ → Edit → Type 0
Elsewhere q (put_entry p x) = p ≢ q
Elsewhere q (put_slot c w z) = Unit {0}
Elsewhere q (put_table c i p) = Unit {0}
Elsewhere q (measure c m) = Unit {0}
Elsewhere q (set_phase c f) = Unit {0}
Elsewhere q (set_thread p u rs) = Unit {0}
Elsewhere q (write_page p ws) = Unit {0}
Elsewhere q (run r) = Unit {0}

abbrev AllElsewhere : ℕ → List Edit → Type 0
AllElsewhere q [] = Unit {0}
AllElsewhere q (e ∷ es) = Elsewhere q e × AllElsewhere q es

kind_change : (d : Entries) (p q : ℕ) (f g F : Entry → Entry) → Edits f g F → kind (at (changed_at d p f) q) ≡ kind (at d q)
kind_change d p q f g F h =
    elim (get_d_set d p q (f (at d p)) free) [
      | inl e ↦ ap kind e
      | inr e ↦ ap kind e.1 ∙ (h.kinds (at d p) ∙ ap (λ n. kind (at d n)) e.0)
    ]

kind_slot : (d : Entries) (t : Option ℕ) (q j : ℕ) (z : Slot) → kind (at (slot_put_in d t j z) q) ≡ kind (at d q)
unfolding slot_put_in
kind_slot d None q j z = refl
kind_slot d (Some t) q j z = kind_change d t q _ _ _ (edits_slot j z)

kind_table : (d : Entries) (y : Option Cell) (q i p : ℕ) → kind (at (table_put_by d y i p) q) ≡ kind (at d q)
unfolding table_put_by
kind_table d None q i p = refl
kind_table d (Some y) q i p = kind_change d y.top q _ _ _ (edits_table i p)

kind_edit : (s : State) (e : Edit) (q : ℕ) → Elsewhere q e → kind (entry (apply s e) q) ≡ kind (entry s q)
kind_edit s (put_entry p x) q n = elim (get_d_set s.entries p q x free) [ inl e ↦ ap kind e | inr e ↦ absurd (n e.0) ]
kind_edit s (put_slot c w z) q n = kind_slot s.entries (table_at s.entries c w.table) q w.slot z
kind_edit s (put_table c i p) q n = kind_table s.entries (cell_in (entry s c)) q i p
kind_edit s (measure c m) q n = kind_change s.entries c q _ _ _ (edits_measured m)
kind_edit s (set_phase c f) q n = kind_change s.entries c q _ _ _ (edits_phase f)
kind_edit s (set_thread p u rs) q n = kind_change s.entries p q _ _ _ (edits_thread u rs rs)
kind_edit s (write_page p ws) q n = refl
kind_edit s (run r) q n = refl

kind_edits : (s : State) (es : List Edit) (q : ℕ) → AllElsewhere q es → kind (entry (apply_all s es) q) ≡ kind (entry s q)
kind_edits s [] q n = refl
kind_edits s (e ∷ es) q n = kind_edits (apply s e) es q n.1 ∙ kind_edit s e q n.0

-- After a call of a cell no cell runs, or the same.
module _ (l : Limits) (s : State) (k : Caller) (h : Runs s k) (e : caller s ≡ Some k) where
  still : (es : List Edit) → (apply_all s es).running ≡ s.running → AllElsewhere k.thread es →
      running_cell (apply_all s es) ≡ Some k.cell
  still es r n =
      let a = caller_is s.entries s.running k e in
      ap (λ x. cell_by (caller_by (apply_all s es).entries x)) (r ∙ a.0)
      ∙ (cell_running (apply_all s es).entries k.thread ∙ (ap part_of (kind_edits s es k.thread n) ∙ a.1))

  -- The thread is no page that it gives or takes.
  not_spare : (q : ℕ) (a b : Bool) → ((a && is_spare (entry s q)) && b) ≡ true → q ≢ k.thread
  unfolding kind_number
  not_spare q a b g z = grind (arith, h.thread, ap (λ p. kind (entry s p)) z)

  not_held : (q : ℕ) (a b : Bool) → ((a && is_held (entry s q)) && b) ≡ true → q ≢ k.thread
  unfolding kind_number
  not_held q a b g z = grind (arith, h.thread, ap (λ p. kind (entry s p)) z)

  goes_on : (c : CellCall) → Pass (cell_checks l s k c) →
      (running_cell (apply_all s (cell_edits l k c)) ≡ None) ⊎ (running_cell (apply_all s (cell_edits l k c)) ≡ Some k.cell)
  unfolding cell_edits cell_checks caller_by cell_by
  goes_on (leave n) p = inl refl
  goes_on (interrupt rs) p = inl refl
  goes_on (fault n) p = inl refl
  goes_on (grow q w) p = inr (still (cell_edits l k (grow q w)) refl (not_spare q _ _ p.0, (tt, (tt, tt))))
  goes_on (shrink q w) p = inr (still (cell_edits l k (shrink q w)) refl (tt, (not_held q _ _ p.0, tt)))
  goes_on (extend q i) p = inr (still (cell_edits l k (extend q i)) refl (not_spare q _ _ p.1.0, (tt, tt)))
  goes_on who p = inr (still [] refl tt)
  goes_on (draw n) p = inr (still [] refl tt)

  pub goes_on_as : (c : CellCall) →
      (running_cell (after l s (by_cell c)) ≡ None) ⊎ (running_cell (after l s (by_cell c)) ≡ Some k.cell)
  goes_on_as c = go (by_cell c) (edits l s (by_cell c)) (effect l s (by_cell c)) refl
    where
      go : (x : Call) (es : List Edit) → Effect l s x es → x ≡ by_cell c →
          (running_cell (apply_all s es) ≡ None) ⊎ (running_cell (apply_all s es) ≡ Some k.cell)
      go x es (no_effect _) z = inr (still [] refl tt)
      go x es (system_effect d i j f) z = absurd (grind (arith, z))
      go x es (cell_effect d q i j f) z = let y : q ≡ k = grind (arith, i, e) in rw y (goes_on d (rw y at j))
