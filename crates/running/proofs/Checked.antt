-- The checks over a state's memory come to what the definitions' come to.
use Rattle.std.proofs.Common.{◌≡◌, ℕ, true, not, ltb, Some, None, Option, sym, refl, ap, ◌∙◌}
use Rattle.std.specs.Option.{option_map}
use Rattle.std.proofs.lemmas.Bool.{and_parts}
use Rattle.model.specs.Calls.{enter, resume}
use Rattle.model.specs.Pages as model
use Rattle.model.specs.Pages.{thread, kind, part_of, sealed, is_thread, thread_goes}
use Rattle.model.specs.State.{Limits, State, entry, is_owner_in}
use Rattle.model.specs.Refusals as refusals
use Rattle.model.specs.Refusals.{failing, system_checks, thread_there}
use Rattle.pages.specs.Layout.{encode}
use Rattle.lookups.specs.Lookups as look
use Rattle.lookups.proofs.Checking.{check}
use Rattle.lookups.proofs.Right.{Known, the_thread, shown_thread, thread_right, threads_right, sealed_right}
use Rattle.running.specs.Checks.{may_run, goes, enter_checks, resume_checks}

module _ (l : Limits) (s : State) (k : Known l s) where
  pub its_thread : (t : ℕ) → thread_there l s t ≡ true → (h : model.Thread) × (entry s t ≡ thread h)
  its_thread t h = the_thread (entry s t) (and_parts (ltb t l.pages) (is_thread (entry s t)) h).1

  pub had_thread : (t : ℕ) (h : model.Thread) → entry s t ≡ thread h → look.thread_of (encode l s) t ≡ Some (shown_thread h)
  unfolding model.thread_in
  had_thread t h e = thread_right l s k t ∙ ap (λ x. option_map shown_thread (model.thread_in x)) e

  runs_right : (t : ℕ) → thread_there l s t ≡ true → may_run (encode l s) (look.thread_of (encode l s) t) ≡ refusals.may_run s t
  unfolding is_owner_in kind part_of
  runs_right t g =
      let h = its_thread t g in
      ap (may_run (encode l s)) (had_thread t h.0 h.1) ∙ sealed_right l s k h.0.cell
      ∙ sym (ap (λ x. is_owner_in sealed s.entries (part_of (kind x))) h.1)

  goes_right : (t : ℕ) → goes (look.thread_of (encode l s) t) ≡ model.is_under_way (entry s t)
  unfolding thread_goes
  goes_right t = ap goes (thread_right l s k t) ∙ by (model.thread_in (entry s t))
    where
      by : (o : Option model.Thread) → goes (option_map shown_thread o) ≡ thread_goes o
      by None = refl
      by (Some h) = refl

  pub enter_checked : (t x y z : ℕ) → failing (enter_checks (encode l s) t) ≡ failing (system_checks l s (enter t x y z))
  unfolding system_checks
  enter_checked t x y z =
      check _ _ _ _ _ (threads_right l s k t) (λ g. check _ _ _ _ _ (runs_right t g) (λ _.
      check _ _ _ _ _ (ap not (goes_right t)) (λ _. refl)))

  pub resume_checked : (t : ℕ) → failing (resume_checks (encode l s) t) ≡ failing (system_checks l s (resume t))
  unfolding system_checks
  resume_checked t =
      check _ _ _ _ _ (threads_right l s k t) (λ g. check _ _ _ _ _ (runs_right t g) (λ _. check _ _ _ _ _ (goes_right t) (λ _. refl)))
