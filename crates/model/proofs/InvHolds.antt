-- The invariant holds of every world that can be, and what follows from it.
use Rattle.std.proofs.Common.{◌≡◌, ℕ, ◌<◌, Bool, true, false, List, [], set, replicate, is_some, Some, None, Option, sym, refl, ap, ◌∙◌, subst, arith, length-set}
use Rattle.std.proofs.lemmas.List.{get_or-replicate}
use Rattle.model.specs.Calls.{Place, Call, by_cell}
use Rattle.model.specs.Pages.{closed, stopped, Cell, Entry, free, cell, top_of, table_of, held_by, kind, kind_number, part_of, is_cell}
use Rattle.model.specs.Pages.{is_in, cell_in, cell_of, Entries, table_at, slot_in, slot_at}
use Rattle.model.specs.State.{Limits, State, new_state, entry, zeros, Page, Caller, caller, with_contents, with_open_pages}
use Rattle.model.specs.State.{Edit, apply_all}
use Rattle.model.specs.Monitor.{edits, after}
use Rattle.model.specs.Machine.{Machine, GoodMachine, GoodRun, sight}
use Rattle.model.specs.Worlds.{World, Act, calls, writes, runs, new_world, Possible, Reachable, step, run_of, cell_by, ran, ending}
use Rattle.model.specs.Worlds.{after_run, by_run}
use Rattle.model.specs.Invariant.{Invariant, Live, EntryFits, SlotFits}
use Rattle.model.specs.Promises.{InvariantHolds, RegistersGood, OfOneCell, SeesItsOwn, AtOnePlace, SealedRuns}
use Rattle.model.proofs.Edits.{all_open}
use Rattle.model.proofs.Runs.{SamePages, written_pages}
use Rattle.model.proofs.Reached.{Sizes, all_sizes, new_sizes, same_sizes, reached}
use Rattle.model.proofs.Effects.{Effect, no_effect, system_effect, cell_effect, effect}
use Rattle.model.proofs.InvSound.{kind_at, top_in, top_at, table_on, slot_on, Alive, Sound}
use Rattle.model.proofs.InvGood.{table_is, table_its, AllGood, all_sound}
use Rattle.model.proofs.InvCalls.{the_first, Runs, CallsNow, who_calls, system_good, cell_good}
use Rattle.model.proofs.InvFits.{below_set, EntriesFit, PagesFit, AllFit, all_fits, system_fit, cell_fit, zeros_page}
use Rattle.model.proofs.InvRuns.{system_runs, cell_runs}
use Rattle.model.proofs.InvWritten.{seen_fits, PagesWell, sight_well, written_well}
use Rattle.model.proofs.InvRegisters.{call_registers, cell_registers}
use Rattle.model.proofs.Lists.{getD_replicated}

pub record Inv (l : Limits) (s : State) : Type 0 where
  pub sizes : Sizes l s
  pub fits : EntriesFit l s.entries
  pub pages : PagesWell l s
  pub sound : Sound s.entries
  pub running : Runs s

-- Calls.
edits_inv : (l : Limits) (s : State) (es : List Edit) → Inv l s → AllGood s es → AllFit l es → Runs (apply_all s es) →
    Inv l (apply_all s es)
edits_inv l s es I g f r =
    let k = all_fits l s es I.fits I.pages.contents f in
    record {
      sizes = all_sizes l s es I.sizes;
      fits = k.0;
      pages = record { contents = k.1; opens = rw (all_open s es) I.pages.opens };
      sound = all_sound s es I.sound g;
      running = r;
    }

effect_inv : (l : Limits) (s : State) (c : Call) (es : List Edit) → Effect l s c es → Inv l s → Inv l (apply_all s es)
effect_inv l s c es (no_effect _) I = I
effect_inv l s c es (system_effect d h i f) I =
    edits_inv l s _ I (system_good l s I.sound I.sizes.entries d h)
    (system_fit l s I.sizes.open_pages I.pages.opens d h f) (system_runs l s d h i)
effect_inv l s c es (cell_effect d k i h f) I =
    let w = who_calls s k I.running i in
    edits_inv l s _ I (cell_good l s I.sound I.sizes.entries k d w h)
    (cell_fit l s I.sizes.open_pages I.pages.opens k d h f) (cell_runs l s k w I.running d h)

pub call_inv : (l : Limits) (s : State) (c : Call) → Inv l s → Inv l (after l s c)
call_inv l s c = effect_inv l s c (edits l s c) (effect l s c)

-- Pages that are written.
pub wrote_inv : (l : Limits) (s : State) (p : ℕ) (ws : List ℕ) → Inv l s → Page l ws → Inv l (with_contents s (set s.contents p ws))
wrote_inv l s p ws I h = record {
  sizes = record {
    entries = I.sizes.entries;
    contents = length-set s.contents p ws ∙ I.sizes.contents;
    open_pages = I.sizes.open_pages;
  };
  fits = I.fits;
  pages = record {
    contents = below_set (Page l) l.pages s.contents p ws [] I.pages.contents h;
    opens = I.pages.opens;
  };
  sound = I.sound;
  running = I.running;
}

pub wrote_open_inv : (l : Limits) (s : State) (o : ℕ) (ws : List ℕ) → Inv l s → Page l ws →
    Inv l (with_open_pages s (set s.open_pages o ws))
wrote_open_inv l s o ws I h = record {
  sizes = record {
    entries = I.sizes.entries;
    contents = I.sizes.contents;
    open_pages = length-set s.open_pages o ws ∙ I.sizes.open_pages;
  };
  fits = I.fits;
  pages = record {
    contents = I.pages.contents;
    opens = below_set (Page l) l.opens s.open_pages o ws [] I.pages.opens h;
  };
  sound = I.sound;
  running = I.running;
}

-- The start.
new_pages : (l : Limits) (n : ℕ) → PagesFit l n (replicate n (zeros l))
new_pages l n p h =
    rw (get_or-replicate n p (zeros l) [] h) (zeros_page l)

new_sound : (n : ℕ) → Sound (replicate n free)
unfolding kind part_of
new_sound n = record {
  owned = λ p c h. absurd (grind (arith, getD_replicated n p free));
  has_top = λ c h. absurd (grind (arith, getD_replicated n c free));
  has_table = λ c i q h. absurd (grind (arith, getD_replicated n c free));
  one_table = λ c i j q h. absurd (grind (arith, getD_replicated n c free));
  sees_held = λ c q j p a b h. absurd (grind (arith, getD_replicated n c free));
  one_place = λ c q j r k p a b e f h. absurd (grind (arith, getD_replicated n c free));
}

pub new_inv : (l : Limits) → Inv l (new_state l)
unfolding EntryFits
new_inv l = record {
  sizes = new_sizes l;
  fits = λ p. rw (getD_replicated l.pages p free) tt;
  pages = record { contents = new_pages l l.pages; opens = new_pages l l.opens };
  sound = new_sound l.pages;
  running = λ t e. absurd (grind (arith, e));
}

-- Worlds.
pub record Well (l : Limits) (m : Machine) (g : GoodMachine l m) (w : World) : Type 0 where
  pub inv : Inv l w.state
  pub registers : is_some w.state.running ≡ true → g.good w.registers ≡ true

module _ (l : Limits) (m : Machine) (g : GoodMachine l m) where
  -- A run, before the call that ends it.
  ran_well : (w : World) (k : Caller) (chance : ℕ) → Well l m g w → CallsNow w.state k →
      GoodRun l (sight w.state k.cell) (ran m w k.cell chance)
  ran_well w k chance W c =
      g.runs_well w.registers (sight w.state k.cell) chance (W.registers (ap is_some c.runs))
      (sight_well l w.state k.cell W.inv.fits W.inv.pages)

  pub ran_inv : (w : World) (k : Caller) (chance : ℕ) → Well l m g w → CallsNow w.state k → Inv l (after_run m w k.cell chance)
  ran_inv w k chance W c =
      let P : SamePages w.state (after_run m w k.cell chance) = written_pages k.cell _ w.state in
      let I = W.inv in
      record {
        sizes = same_sizes l w.state _ P I.sizes;
        fits = rw P.entries I.fits;
        pages = written_well l k.cell _ w.state I.pages (ran_well w k chance W c).pages_stay;
        sound = rw P.entries I.sound;
        running = rw (P.entries, P.running) I.running;
      }

  run_well : (w : World) (k : Caller) (chance : ℕ) → Well l m g w → caller w.state ≡ Some k → Well l m g (by_run l m w k.cell chance)
  run_well w k chance W e =
      let c = who_calls w.state k W.inv.running e in
      let r = ran_well w k chance W c in
      let I = ran_inv w k chance W c in
      record {
        inv = call_inv l (after_run m w k.cell chance) (by_cell (ending m w k.cell chance)) I;
        registers = cell_registers l m g (after_run m w k.cell chance) (ran m w k.cell chance).registers I.fits
            (λ i. g.seventeen_are _ r.registers_stay) r.registers_stay (ending m w k.cell chance);
      }

  pub step_well : (w : World) (a : Act) → Possible l w a → Well l m g w → Well l m g (step l m w a)
  unfolding step run_of Possible cell_by
  step_well w (calls c) o W = record {
    inv = call_inv l w.state c W.inv;
    registers = call_registers l m g w.state w.registers W.inv.fits W.registers c o;
  }
  step_well w (writes x ws) o W =
      record { inv = wrote_open_inv l w.state x ws W.inv o.1; registers = W.registers }
  step_well w (runs chance) o W = go (caller w.state) refl
    where
      go : (k : Option Caller) → caller w.state ≡ k → Well l m g (run_of l m w chance (cell_by k))
      go None e = W
      go (Some k) e = run_well w k chance W e

  new_well : Well l m g (new_world l)
  new_well = record { inv = new_inv l; registers = λ h. absurd (grind (arith, h)) }

  pub well : (w : World) → Reachable l m w → Well l m g w
  well = reached l m (Well l m g) step_well new_well

live_alive : (x : Entry) → (is_cell x ≡ true) × (is_in stopped x ≡ false) → Alive x
live_alive x h = (the_first x h.0, h.1)

top_is : (x : Entry) (y : Cell) → x ≡ cell y → top_in x ≡ y.top
unfolding cell_in
top_is x y e = ap top_in e

pub invariant : (l : Limits) (s : State) → Inv l s → Invariant l s
invariant l s I =
    let S = I.sound in
    let d : Entries = s.entries in
    let a : (c : ℕ) → Live s c → Alive (entry s c) = λ c h. live_alive (entry s c) h in
    let t : (c i : ℕ) → Live s c → table_at d c i ≡ table_on (top_at d c) i = λ c i h. table_is d (entry s c) i (a c h).0 in
    record {
      entries_long = I.sizes.entries;
      contents_long = I.sizes.contents;
      opens_long = I.sizes.open_pages;
      contents_fit = I.pages.contents;
      opens_fit = I.pages.opens;
      entries_fit = I.fits;
      owned = S.owned;
      has_top = λ c x h e. subst (λ q. kind_at d q ≡ top_of c) (top_is (entry s c) x e) (S.has_top c (a c h));
      has_table = λ c i q h e. table_its d S c i q (a c h) e;
      one_table = λ c i j q h e f. S.one_table c i j q (a c h) (sym (t c i h) ∙ e) (sym (t c j h) ∙ f);
      sees_held = λ c q j p u v h. S.sees_held c q j p u v (a c h);
      one_place = λ c q j r k p u v e f h. S.one_place c q j r k p u v e f (a c h);
      sealed_runs = I.running;
    }

-- 1.
pub invariant_holds : InvariantHolds
invariant_holds l m w g r = invariant l w.state (well l m g w r).inv

pub registers_good : RegistersGood
registers_good l m w g r = (well l m g w r).registers

pub sealed_runs : SealedRuns
sealed_runs l m w g r = (invariant_holds l m w g r).sealed_runs

pub of_one_cell : OfOneCell
unfolding kind kind_number part_of
of_one_cell l m w g r p h = go (cell_of p (entry w.state p)) refl
  where
    go : (o : Option ℕ) → cell_of p (entry w.state p) ≡ o →
        (c : ℕ) × (cell_of p (entry w.state p) ≡ Some c) × (is_cell (entry w.state c) ≡ true)
    go None e = absurd (grind arith)
    go (Some c) e = (c, e, grind (arith, (invariant_holds l m w g r).owned p c))

module _ (l : Limits) (s : State) (I : Inv l s) (c : ℕ) (a : Live s c) where
  -- The table by which a cell sees a page.
  record Seen (p : ℕ) (w : Place) (u v : Bool) : Type 0 where
    page : ℕ
    at_place : table_at s.entries c w.table ≡ Some page
    of_cell : kind (entry s page) ≡ table_of c
    in_slot : slot_on (entry s page) w.slot ≡ closed p u v

  seen : (p : ℕ) (w : Place) (u v : Bool) → slot_at s.entries c w ≡ closed p u v → Seen p w u v
  unfolding slot_in
  seen p w u v h = go (table_at s.entries c w.table) refl h
    where
      go : (o : Option ℕ) → table_at s.entries c w.table ≡ o → slot_in s.entries o w.slot ≡ closed p u v → Seen p w u v
      go None e k = absurd (grind (arith, k))
      go (Some q) e k = record {
        page = q;
        at_place = e;
        of_cell = (invariant l s I).has_table c w.table q a e;
        in_slot = k;
      }

  pub own : (p : ℕ) (w : Place) (u v : Bool) → slot_at s.entries c w ≡ closed p u v → (p < l.pages) × (kind (entry s p) ≡ held_by c)
  unfolding SlotFits
  own p w u v h =
      let q = seen p w u v h in (
        rw h at (seen_fits l s.entries (table_at s.entries c w.table) w.slot I.fits),
        (invariant l s I).sees_held c q.page w.slot p u v a q.of_cell q.in_slot,
      )

  once : (p : ℕ) (y z : Place) (u v e f : Bool) → slot_at s.entries c y ≡ closed p u v → slot_at s.entries c z ≡ closed p e f →
      (y.table ≡ z.table) × (y.slot ≡ z.slot)
  once p y z u v e f h k =
      let q = seen p y u v h in
      let r = seen p z e f k in
      let J = invariant l s I in
      let o = J.one_place c q.page y.slot r.page z.slot p u v e f a q.of_cell r.of_cell q.in_slot r.in_slot in
      (J.one_table c y.table z.table q.page a q.at_place (r.at_place ∙ ap Some (sym o.0)), o.1)

pub sees_its_own : SeesItsOwn
sees_its_own l m w g r c p y u v a = own l w.state (well l m g w r).inv c a p y u v

pub at_one_place : AtOnePlace
at_one_place l m w g r c p y z u v e f a = once l w.state (well l m g w r).inv c a p y z u v e f
