-- A world that can be is what events make that the code can meet.
use Rattle.std.proofs.Common.{◌≡◌, ℕ, ◌<◌, ◌≤◌, true, false, ◌⊎◌, List, [], ◌∷◌, length, Some, None, Option, refl, ap, inl, inr, arith}
use Rattle.std.proofs.lemmas.List.{get_or_past}
use Rattle.std.proofs.lemmas.Bool.{cases_lt, and_parts, and_from}
use Rattle.std.proofs.lemmas.Bool.Decides.{nat_tests}
use Rattle.model.specs.Calls.{Place, SystemCall, CellCall, Call, by_cell}
use Rattle.model.specs.Pages.{Slot, nothing, closed, opened, writable, Entry, closed_in, ◌is◌, slot_in, slot_at, table_at, tables_by}
use Rattle.model.specs.Pages.{tables_in, slots_in, cell_in, Cell}
use Rattle.model.specs.State.{Limits, Sized, State, entry, word, all_words, Page, Caller, caller, Edit}
use Rattle.model.specs.Refusals.{system_checks, cell_checks, system_fits, cell_fits, open_there}
use Rattle.model.specs.Monitor.{edits, after}
use Rattle.model.specs.Machine.{Machine, GoodMachine, write_behind}
use Rattle.model.specs.Worlds.{World, Act, calls, writes, runs, cell_by, run_of, Possible, step, Reachable, ran, ending, after_run}
use Rattle.model.specs.Invariant.{EntryFits, SlotFits}
use Rattle.model.specs.Events.{Event, called, wrote, wrote_open, event, state, carried, all_carried, option_carried, place_carried}
use Rattle.model.specs.Events.{system_carried, cell_carried, call_carried, Readable, AllReadable}
use Rattle.model.specs.Promises.{InvariantHolds, RegistersGood, WorldsAreEvents}
use Rattle.model.proofs.Effects.{Pass, Effect, no_effect, system_effect, cell_effect, effect}
use Rattle.model.proofs.Reached.{reached}
use Rattle.model.proofs.Runs.{written_pages}
use Rattle.model.proofs.Written.{written_keeps}
use Rattle.model.proofs.ConfRunning.{runs_well, slot_fits}
use Rattle.model.proofs.Confidentiality.{reachable_more}

abbrev Made : Limits → State → Type 0
Made l s = (es : List Event) × AllReadable l es × (state l es ≡ s)

made_more : (l : Limits) (s : State) (e : Event) → Readable l e → Made l s → Made l (event l s e)
unfolding state
made_more l s e r m = (e ∷ m.0, (r, m.1), ap (λ t. event l t e) m.2)

-- Seventeen registers are carried.
words_carried : (rs : List ℕ) → all_words rs ≡ true → all_carried rs ≡ true
unfolding all_words all_carried
words_carried [] h = refl
words_carried (x ∷ xs) h =
    let a = and_parts (word x) (all_words xs) h in
    and_from (carried x) (all_carried xs) (grind (arith, nat_tests, a.0)) (words_carried xs a.1)

-- A call that passed its checks has numbers that are carried.
module _ (l : Limits) (z : Sized l) (s : State) (fit : (p : ℕ) → EntryFits l (entry s p)) where
  system_carries : (c : SystemCall) → Pass (system_checks l s c) → system_fits l c ≡ true → system_carried c ≡ true
  unfolding system_checks system_fits system_carried option_carried open_there
  system_carries c k f = grind (arith, nat_tests)

  tables_short : (x : Option Cell) → length (tables_by s.entries x) ≤ l.places
  unfolding tables_by tables_in EntryFits
  tables_short None = omega arith
  tables_short (Some x) = go (entry s x.top) (fit x.top)
    where
      go : (y : Entry) → EntryFits l y → length (tables_in y) ≤ l.places
      go y h = grind arith

  slots_short : (x : Entry) → EntryFits l x → length (slots_in x) ≤ l.slots
  unfolding slots_in EntryFits
  slots_short x h = grind arith

  -- A place where a page is seen is one of a table.
  seen_carried : (c p : ℕ) (w : Place) → (closed_in (slot_at s.entries c w) is p) ≡ true → place_carried w ≡ true
  unfolding closed_in ◌is◌ slot_in
  seen_carried c p w h = elim (cases_lt w.table 256) [
    | inl a ↦ go a (table_at s.entries c w.table) h
    | inr a ↦
        let short = tables_short (cell_in (entry s c)) in
        let e = get_or_past (tables_by s.entries (cell_in (entry s c))) w.table None (omega arith) in
        absurd (grind (arith, rw e at h))
  ]
    where
      go : w.table < 256 → (q : Option ℕ) → (closed_in (slot_in s.entries q w.slot) is p) ≡ true → place_carried w ≡ true
      go a None k = absurd (grind (arith, k))
      go a (Some q) k = elim (cases_lt w.slot 1024) [
        | inl b ↦ grind (arith, nat_tests)
        | inr b ↦
            let short = slots_short (entry s q) (fit q) in
            let e = get_or_past (slots_in (entry s q)) w.slot nothing (omega arith) in
            absurd (grind (arith, rw e at k))
      ]

  cell_carries : (k : Caller) (c : CellCall) → Pass (cell_checks l s k c) → cell_fits c ≡ true → cell_carried c ≡ true
  unfolding cell_checks cell_fits cell_carried
  cell_carries k c q f = grind (arith, nat_tests, words_carried, seen_carried k.cell)

  -- So a call makes no edit, or is an event.
  carries : (c : Call) (es : List Edit) → Effect l s c es → (es ≡ []) ⊎ (call_carried c ≡ true)
  unfolding call_carried
  carries c es (no_effect _) = inl refl
  carries c es (system_effect d i j f) = inr (system_carries d i f)
  carries c es (cell_effect d k i j f) = inr (cell_carries k d j f)

  made_after : (c : Call) → Made l s → Made l (after l s c)
  unfolding event Readable
  made_after c m = elim (carries c (edits l s c) (effect l s c)) [
    | inl e ↦ rw e m
    | inr e ↦ made_more l s (called c) e m
  ]

-- A page that is written is an event.
made_behind : (l : Limits) (z : Slot) (ws : List ℕ) (s : State) → SlotFits l z → (writable z ≡ true → Page l ws) → Made l s →
    Made l (write_behind z ws s)
unfolding write_behind writable SlotFits event Readable
made_behind l nothing ws s f h m = m
made_behind l (closed p true x) ws s f h m = made_more l s (wrote p ws) (f, h refl) m
made_behind l (closed p false x) ws s f h m = m
made_behind l (opened o true) ws s f h m = made_more l s (wrote_open o ws) (f, h refl) m
made_behind l (opened o false) ws s f h m = m

module _ (inv : InvariantHolds) (reg : RegistersGood) (l : Limits) (m : Machine) (z : Sized l) (g : GoodMachine l m) where
  made_run : (w : World) → Reachable l m w → (x : ℕ) (q : Option Caller) → caller w.state ≡ q → Made l w.state →
      Made l (run_of l m w x (cell_by q)).state
  unfolding cell_by run_of
  made_run w r x None e k = k
  made_run w r x (Some c) e k =
      let i = inv l m w g r in
      let d = (written_pages c.cell (ran m w c.cell x).words w.state).entries in
      let good = runs_well inv reg l m w g r c e x in
      made_after l z (after_run m w c.cell x) (rw d i.entries_fit) (by_cell (ending m w c.cell x))
      (written_keeps (Made l) c.cell (ran m w c.cell x).words w.state
      (λ a b s h. made_behind l _ _ s (slot_fits l w.state _ b i) (good.pages_stay a b) h) k)

  made_step : (w : World) (a : Act) → Reachable l m w → Possible l w a → Made l w.state → Made l (step l m w a).state
  unfolding step Possible event Readable
  made_step w (calls c) r p k = made_after l z w.state (inv l m w g r).entries_fit c k
  made_step w (writes o ws) r p k = made_more l w.state (wrote_open o ws) p k
  made_step w (runs x) r p k = made_run w r x (caller w.state) refl k

-- 8.
pub worlds_are_events : InvariantHolds → RegistersGood → WorldsAreEvents
unfolding state
worlds_are_events inv reg l m w z g r =
    (reached l m (λ v. Reachable l m v × Made l v.state)
    (λ v a p k. (reachable_more l m v a k.0 p, made_step inv reg l m z g v a k.0 p k.1))
    (record { acts = []; possible = tt; made = refl }, ([], tt, refl)) w r).1
