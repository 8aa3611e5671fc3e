-- In worlds that look alike to an observer the program tells the system the same bytes.
use Rattle.std.proofs.Common.{◌≡◌, ℕ, Bool, true, false, cond, [], ◌∷◌, sym, refl, ap, ◌∙◌, ap₂}
use Rattle.model.specs.Calls.{Call}
use Rattle.model.specs.Answers.{Answer, refused, done, number, enters, told, left, to_system}
use Rattle.model.specs.State.{Limits, caller}
use Rattle.model.specs.Machine.{Machine, GoodMachine}
use Rattle.model.specs.Worlds.{World, Act, calls, writes, runs, Possible, Reachable, step, act_answer}
use Rattle.model.specs.Observers.{Observer, same_call, same_write, run_agrees, observed}
use Rattle.model.specs.Promises.{Confidentiality}
use Rattle.model.proofs.InvHolds.{invariant_holds, registers_good}
use Rattle.model.proofs.Confidentiality as model
use Rattle.model.proofs.Confidentiality.{reachable_more}
use Rattle.answers.specs.Table.{write_answer}
use Rattle.full_monitor.specs.Promises.{Whole, act_tells, TellsNoSecrets, TellsNoSecretsOverRuns}
use Rattle.full_monitor.proofs.Right.{says_right}
use Rattle.full_monitor.proofs.GoingOn.{known_world, run_tells_right}

-- What the system is told is a part of what the observer is told.
told_twice : (a : Answer) → to_system (to_system a) ≡ to_system a
told_twice (refused r) = refl
told_twice done = refl
told_twice (number n) = refl
told_twice (enters t rs) = refl
told_twice (told e ns) = refl
told_twice (left j n) = refl

told_or : (b : Bool) (a : Answer) → to_system (cond b a (to_system a)) ≡ to_system a
told_or true a = refl
told_or false a = told_twice a

of_observed : (l : Limits) (m : Machine) (os : Observer) (w : World) (a : Act) →
    to_system (observed l m os w a) ≡ to_system (act_answer l m w a)
of_observed l m os w (calls c) = told_twice _
of_observed l m os w (writes o ws) = told_twice _
of_observed l m os w (runs x) = told_or _ _

-- The bytes of what the system is told, in calls and runs.
module _ (l : Limits) (m : Machine) (w : World) (W : Whole l) (g : GoodMachine l m) (r : Reachable l m w) where
  call_tells : (c : Call) → act_tells l m w (calls c) ≡ write_answer (to_system (act_answer l m w (calls c)))
  unfolding act_tells act_answer
  call_tells c = ap (λ a. write_answer (to_system a)) (says_right l w.state (known_world l m w W.sized g r) W.can c)

  run_tells : (x : ℕ) → Possible l w (runs x) → act_tells l m w (runs x) ≡ write_answer (to_system (act_answer l m w (runs x)))
  unfolding act_tells act_answer Possible
  run_tells x p = run_tells_right l m w W g r x (caller w.state) refl p

confidentiality : Confidentiality
confidentiality = model.confidentiality invariant_holds registers_good

same_told : (l : Limits) (m : Machine) (os : Observer) (v w : World) (a b : Act) → observed l m os v a ≡ observed l m os w b →
    write_answer (to_system (act_answer l m v a)) ≡ write_answer (to_system (act_answer l m w b))
same_told l m os v w a b h =
    ap write_answer (sym (of_observed l m os v a) ∙ ap to_system h ∙ of_observed l m os w b)

pub tells_no_secrets : TellsNoSecrets
unfolding act_tells
tells_no_secrets l m os v w a b W g rv rw' A (same_call c) p =
    let one = confidentiality l m os v w (calls c) (calls c) g rv rw' A (same_call c) p in
    call_tells l m v W g rv c ∙ same_told l m os v w (calls c) (calls c) one.1 ∙ sym (call_tells l m w W g rw' c)
tells_no_secrets l m os v w a b W g rv rw' A (same_write o ws) p = refl
tells_no_secrets l m os v w a b W g rv rw' A (run_agrees x y z) p =
    let one = confidentiality l m os v w (runs x) (runs y) g rv rw' A (run_agrees x y z) p in
    run_tells l m v W g rv x p ∙ same_told l m os v w (runs x) (runs y) one.1 ∙ sym (run_tells l m w W g rw' y one.0)

pub tells_no_secrets_over_runs : TellsNoSecretsOverRuns
tells_no_secrets_over_runs l m os v w [] [] W g rv rw' A h p = refl
tells_no_secrets_over_runs l m os v w [] (e ∷ es) W g rv rw' A h p = absurd h
tells_no_secrets_over_runs l m os v w (d ∷ ds) [] W g rv rw' A h p = absurd h
tells_no_secrets_over_runs l m os v w (d ∷ ds) (e ∷ es) W g rv rw' A h p =
    let one = confidentiality l m os v w d e g rv rw' A h.0 p.0 in
    ap₂ (λ x xs. x ∷ xs) (tells_no_secrets l m os v w d e W g rv rw' A h.0 p.0)
    (tells_no_secrets_over_runs l m os (step l m v d) (step l m w e) ds es W g (reachable_more l m v d rv p.0)
    (reachable_more l m w e rw' one.0) one.2 h.1 p.1)
