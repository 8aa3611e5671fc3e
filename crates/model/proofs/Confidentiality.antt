-- Nothing gets out: two worlds that look alike to an observer go on looking alike, in one act and in any run.
use Rattle.std.proofs.Common.{◌≡◌, ℕ, Bool, true, false, cond, List, [], ◌∷◌, ◌++◌, set, is_some, Some, None, Option, sym, refl, ap, ◌∙◌, subst, ap₂, arith}
use Rattle.model.specs.Calls.{Call, by_system, by_cell, garbled}
use Rattle.model.specs.Answers.{to_system}
use Rattle.model.specs.State.{Limits, Caller, caller}
use Rattle.model.specs.Machine.{Machine, GoodMachine}
use Rattle.model.specs.Worlds.{World, Act, calls, new_world, cell_by, running_cell, run_answer, by_run, PossibleCall, Possible}
use Rattle.model.specs.Worlds.{AllPossible, run_of, step, play, Reachable, answer_of, act_answer}
use Rattle.model.specs.Observers.{Observer, among, Alike, SameGiven, RunAgrees, Agrees, same_call, same_write, run_agrees, observed}
use Rattle.model.specs.Promises.{InvariantHolds, RegistersGood, Confidentiality, ConfidentialityOverRuns}
use Rattle.model.proofs.Reached.{sizes}
use Rattle.model.proofs.ConfSeen.{one_caller}
use Rattle.model.proofs.ConfLike.{Like, to_like, from_like}
use Rattle.model.proofs.ConfCalls.{call_like, call_alike, call_registers}
use Rattle.model.proofs.ConfRuns.{run_own, run_other}

module _ (inv : InvariantHolds) (reg : RegistersGood) (l : Limits) (m : Machine) (os : Observer) (v w : World) (g : GoodMachine l m)
    (rv : Reachable l m v) (rw' : Reachable l m w) (A : Alike l os v w) where
  like : Like os v.state w.state
  like = to_like l os v w (sizes l m v rv) (sizes l m w rw') A

  same_cell : running_cell v.state ≡ running_cell w.state
  same_cell = ap cell_by (one_caller v.state w.state like.pages.same l like.beside.running)

  possible_too : (c : Call) → PossibleCall v.state c → PossibleCall w.state c
  unfolding PossibleCall
  possible_too (by_system c) h = h
  possible_too (by_cell c) h = sym A.running ∙ h
  possible_too (garbled n) h = h

  -- What is said of a run of the cell c in one world, and d in the other.
  abbrev Both : ℕ → ℕ → Option ℕ → Option ℕ → Type 0
  Both x y c d =
      (cond (among os c) (answer_of l m v x c) (to_system (answer_of l m v x c))
      ≡ cond (among os d) (answer_of l m w y d) (to_system (answer_of l m w y d)))
      × Alike l os (run_of l m v x c) (run_of l m w y d)

  run_out : (x y : ℕ) (q : Option Caller) → caller v.state ≡ q → RunAgrees l m os v w x y (cell_by q) → is_some (cell_by q) ≡ true →
      Both x y (cell_by q) (cell_by q)
  unfolding cell_by RunAgrees answer_of run_of
  run_out x y None e a p = absurd (grind (arith, p))
  run_out x y (Some k) e a p = go (among os (Some k.cell)) refl a
    where
      go : (b : Bool) → among os (Some k.cell) ≡ b → cond b (x ≡ y) (SameGiven l m v w k.cell x y) →
          (cond b (run_answer l m v k.cell x) (to_system (run_answer l m v k.cell x))
          ≡ cond b (run_answer l m w k.cell y) (to_system (run_answer l m w k.cell y)))
          × Alike l os (by_run l m v k.cell x) (by_run l m w k.cell y)
      go true o z =
          subst (λ n. (run_answer l m v k.cell x ≡ run_answer l m w k.cell n)
          × Alike l os (by_run l m v k.cell x) (by_run l m w k.cell n)) z (run_own inv reg l m os v w g rv rw' A k e x o)
      go false o z = run_other inv reg l m os v w g rv rw' A k e x y o z

  act_out : (a b : Act) → Agrees l m os v w a b → Possible l v a →
      Possible l w b × (observed l m os v a ≡ observed l m os w b) × Alike l os (step l m v a) (step l m w b)
  unfolding Possible step act_answer
  act_out a b (same_call c) p = (
    possible_too c p,
    call_alike l os v.state w.state like c p,
    from_like l os (step l m v (calls c)) (step l m w (calls c)) (call_like l os v.state w.state like c p)
        (call_registers l os v.state w.state like m v.registers w.registers c p A.registers),
  )
  act_out a b (same_write o ws) p = (
    p,
    refl,
    record {
      public = A.public;
      own = A.own;
      own_contents = A.own_contents;
      open_pages = ap (λ xs. set xs o ws) A.open_pages;
      running = A.running;
      registers = A.registers;
    },
  )
  act_out a b (run_agrees x y z) p =
      let both = subst (Both x y (running_cell v.state)) same_cell (run_out x y (caller v.state) refl z p) in
      (rw (← same_cell) p, both.0, both.1)

-- 6.
pub confidentiality : InvariantHolds → RegistersGood → Confidentiality
confidentiality inv reg l m os v w a b g rv rw' A h p = act_out inv reg l m os v w g rv rw' A a b h p

-- A world after one more act can be.
play_more : (l : Limits) (m : Machine) (w : World) (ds es : List Act) → play l m w (ds ++ es) ≡ play l m (play l m w ds) es
play_more l m w [] es = refl
play_more l m w (d ∷ ds) es = play_more l m (step l m w d) ds es

possible_more : (l : Limits) (m : Machine) (w : World) (ds : List Act) (a : Act) → AllPossible l m w ds →
    Possible l (play l m w ds) a → AllPossible l m w (ds ++ (a ∷ []))
possible_more l m w [] a h p = (p, tt)
possible_more l m w (d ∷ ds) a h p = (h.0, possible_more l m (step l m w d) ds a h.1 p)

pub reachable_more : (l : Limits) (m : Machine) (w : World) (a : Act) → Reachable l m w → Possible l w a → Reachable l m (step l m w a)
reachable_more l m w a r p = record {
  acts = r.acts ++ (a ∷ []);
  possible = possible_more l m (new_world l) r.acts a r.possible (rw r.made p);
  made = play_more l m (new_world l) r.acts (a ∷ []) ∙ ap (λ u. step l m u a) r.made;
}

pub confidentiality_over_runs : InvariantHolds → RegistersGood → ConfidentialityOverRuns
confidentiality_over_runs inv reg l m os v w [] [] g rv rw' A h p = (tt, refl, A)
confidentiality_over_runs inv reg l m os v w [] (e ∷ es) g rv rw' A h p = absurd h
confidentiality_over_runs inv reg l m os v w (d ∷ ds) [] g rv rw' A h p = absurd h
confidentiality_over_runs inv reg l m os v w (d ∷ ds) (e ∷ es) g rv rw' A h p =
    let one = confidentiality inv reg l m os v w d e g rv rw' A h.0 p.0 in
    let rest = confidentiality_over_runs inv reg l m os (step l m v d) (step l m w e) ds es g (reachable_more l m v d rv p.0)
    (reachable_more l m w e rw' one.0) one.2 h.1 p.1 in
    ((one.0, rest.0), ap₂ (λ x xs. x ∷ xs) one.1 rest.1, rest.2)
