-- In every world that can be, the program answers, and goes on to, what the definitions say.
use Rattle.std.proofs.Common.{◌≡◌, ℕ, true, is_some, Some, None, Option, refl, ap, subst, arith}
use Rattle.model.specs.Calls.{Call, by_cell}
use Rattle.model.specs.Answers.{to_system}
use Rattle.model.specs.State.{Limits, Sized, State, Caller, caller}
use Rattle.model.specs.Machine.{Machine, GoodMachine}
use Rattle.model.specs.Worlds.{World, Act, calls, writes, runs, Reachable, cell_by, run_of, step, after_run, ending, answer_of}
use Rattle.model.proofs.Runs.{SamePages, written_pages}
use Rattle.model.proofs.InvCalls.{who_calls}
use Rattle.model.proofs.InvHolds.{invariant, invariant_holds, registers_good, ran_inv, well}
use Rattle.model.proofs.EventsMade.{worlds_are_events}
use Rattle.model.proofs.EventsKeep.{all_paged}
use Rattle.answers.specs.Table.{write_answer}
use Rattle.pages.specs.Flat.{flat}
use Rattle.pages.specs.Layout.{encode}
use Rattle.lookups.proofs.Right.{Known}
use Rattle.full_monitor.specs.Promises.{Whole, run_leaves, act_leaves, run_leaves_pages, act_leaves_pages, run_tells, GoesOn}
use Rattle.full_monitor.proofs.Right.{known, says_right, leaves_right, pages_right}

-- What is known of the state of such a world, and of the state that a run leaves before the call that ends it.
pub known_world : (l : Limits) (m : Machine) (w : World) → Sized l → GoodMachine l m → Reachable l m w → Known l w.state
known_world l m w z g r =
    let e = worlds_are_events invariant_holds registers_good l m w z g r in
    subst (Known l) e.2 (known l e.0 z (all_paged l e.0 e.1))

module _ (l : Limits) (m : Machine) (w : World) (W : Whole l) (g : GoodMachine l m) (r : Reachable l m w) where
  known_run : (k : Caller) (x : ℕ) → caller w.state ≡ Some k → Known l (after_run m w k.cell x)
  known_run k x e =
      let G = well l m g w r in
      let P : SamePages w.state (after_run m w k.cell x) = written_pages k.cell _ w.state in
      record {
        sized = W.sized;
        invariant = invariant l _ (ran_inv l m g w k x G (who_calls w.state k G.inv.running e));
        blocks = rw P.entries (known_world l m w W.sized g r).blocks;
      }

  run_goes_on : (x : ℕ) (q : Option Caller) → caller w.state ≡ q →
      (run_leaves l m w x (cell_by q) ≡ encode l (run_of l m w x (cell_by q)).state)
      × (run_leaves_pages l m w x (cell_by q) ≡ flat (run_of l m w x (cell_by q)).state.contents)
  unfolding cell_by run_of run_leaves run_leaves_pages
  run_goes_on x None e = (refl, refl)
  run_goes_on x (Some k) e =
      let s : State = after_run m w k.cell x in
      let c : Call = by_cell (ending m w k.cell x) in
      let K = known_run k x e in
      (leaves_right l s K W.can c, pages_right l s K W.can c)

  pub run_tells_right : (x : ℕ) (q : Option Caller) → caller w.state ≡ q → is_some (cell_by q) ≡ true →
      run_tells l m w x (cell_by q) ≡ write_answer (to_system (answer_of l m w x (cell_by q)))
  unfolding cell_by run_tells answer_of
  run_tells_right x None e p = absurd (grind (arith, p))
  run_tells_right x (Some k) e p =
      ap (λ a. write_answer (to_system a))
      (says_right l (after_run m w k.cell x) (known_run k x e) W.can (by_cell (ending m w k.cell x)))

  act_goes_on : (a : Act) →
      (act_leaves l m w a ≡ encode l (step l m w a).state) × (act_leaves_pages l m w a ≡ flat (step l m w a).state.contents)
  unfolding act_leaves act_leaves_pages step
  act_goes_on (calls c) =
      let K = known_world l m w W.sized g r in
      (leaves_right l w.state K W.can c, pages_right l w.state K W.can c)
  act_goes_on (writes o ws) = (refl, refl)
  act_goes_on (runs x) = run_goes_on x (caller w.state) refl

pub goes_on : GoesOn
goes_on l m w W g r a = act_goes_on l m w W g r a
