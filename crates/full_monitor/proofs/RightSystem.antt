-- The program does with the system's calls what the definitions say.
use Rattle.std.proofs.Common.{◌≡◌, ℕ, ◌<◌, Bool, true, false, cond, not, ◌&&◌, ltb, List, is_some, Some, None, Option, sym, refl, ap, ◌∙◌, ap₂, arith, ltb-true}
use Rattle.std.specs.Option.{option_map}
use Rattle.std.proofs.lemmas.Bool.{and_parts}
use Rattle.model.specs.Calls.{Place, SystemCall, by_system, system_number}
use Rattle.model.specs.Calls.{how_many, new_cell, new_thread, new_table, hold, give, show, remove, seal, stop, enter, resume}
use Rattle.model.specs.Answers.{Answer, Refusal, number}
use Rattle.model.specs.State.{Limits, State, apply_all}
use Rattle.model.specs.Refusals as refusals
use Rattle.model.specs.Refusals.{failing, checks, place, refusal}
use Rattle.model.specs.Monitor as model
use Rattle.model.specs.Monitor.{system_edits, reply, changed, answer_or, edits_or}
use Rattle.model.proofs.Effects.{passes}
use Rattle.pages.specs.Flat.{flat}
use Rattle.pages.specs.Layout.{encode}
use Rattle.pages.proofs.Edits.{edits_written}
use Rattle.pages.proofs.Seen.{reads_right}
use Rattle.lookups.proofs.Checking.{check}
use Rattle.lookups.proofs.Right.{Known}
use Rattle.building.proofs.Checked.{make_checked, start_checked, add_checked, hold_checked, give_checked, show_checked}
use Rattle.building.proofs.Written.{cell_written, thread_written, table_written, held_written, pages_held, given_written, shown_written}
use Rattle.lifecycle.proofs.Checked.{remove_checked, seal_checked, stop_checked}
use Rattle.lifecycle.proofs.Written.{removed_written, sealed_written, stopped_written}
use Rattle.running.proofs.Checked.{enter_checked, resume_checked}
use Rattle.running.proofs.Written.{entered_right, first_right, kept_right}
use Rattle.growing.specs.Checks.{in_range}
use Rattle.full_monitor.specs.Program as program
use Rattle.full_monitor.specs.Program.{unless, reply_unless}

-- What is made unless a check fails, and what is answered, over two lists of checks that come to the same.
pub unless_same : {A : Type 0} (made new before : A) (o : Option ℕ) → (o ≡ None → made ≡ new) → unless made before o ≡ unless new before o
unless_same made new before None h = h refl
unless_same made new before (Some k) h = refl

pub reply_same : (a b : Answer) (o : Option ℕ) → (o ≡ None → a ≡ b) →
    reply_unless a o ≡ answer_or b (option_map (λ k. record { number = k; place = 0 }) o)
unfolding answer_or
reply_same a b None h = h refl
reply_same a b (Some k) h = refl

module _ (l : Limits) (s : State) (k : Known l s) (can : (n : ℕ) → l.can n ≡ true) where
  abbrev m : List ℕ
  m = encode l s

  range_right : (w : Place) → in_range w ≡ refusals.in_range l w
  range_right w = ap₂ (λ a b. ltb w.table a && ltb w.slot b) (sym k.sized.places_are) (sym k.sized.slots_are)

  fits_right : (c : SystemCall) → program.system_fits c ≡ refusals.system_fits l c
  unfolding refusals.system_fits
  fits_right how_many = refl
  fits_right (new_cell p t) = refl
  fits_right (new_thread p c a) = refl
  fits_right (new_table p c i) = refl
  fits_right (hold p c w o) = range_right w
  fits_right (give p c) = refl
  fits_right (show o c w) = range_right w
  fits_right (remove p) = refl
  fits_right (seal c) = refl
  fits_right (stop c) = refl
  fits_right (enter t x y z) = refl
  fits_right (resume t) = refl

  checks_right : (c : SystemCall) → refusals.system_fits l c ≡ true →
      failing (program.system_checks m c) ≡ failing (refusals.system_checks l s c)
  unfolding refusals.system_fits refusals.system_checks
  checks_right how_many f = refl
  checks_right (new_cell p t) f = make_checked l s k p t
  checks_right (new_thread p c a) f = start_checked l s k p c a
  checks_right (new_table p c i) f = add_checked l s k p c i
  checks_right (hold p c w o) f = hold_checked l s k p c w o f
  checks_right (give p c) f = give_checked l s k p c
  checks_right (show o c w) f = show_checked l s k o c w f
  checks_right (remove p) f = remove_checked l s k p
  checks_right (seal c) f = seal_checked l s k c
  checks_right (stop c) f = stop_checked l s k c
  checks_right (enter t x y z) f = enter_checked l s k t x y z
  checks_right (resume t) f = resume_checked l s k t

  failing_right : (c : SystemCall) → program.system_failing m c ≡ failing (checks l s (by_system c))
  unfolding checks
  failing_right c =
      check _ _ _ _ _ (fits_right c ∙ sym (ap (λ b. b && refusals.system_fits l c) (can (system_number c)))) (λ h.
      check _ _ _ _ _ (ap (λ o. not (is_some o)) (reads_right.running l s)) (λ _.
      checks_right c (and_parts (l.can (system_number c)) (refusals.system_fits l c) h).1))

  -- what holds where no check fails
  fitting : (c : SystemCall) → failing (checks l s (by_system c)) ≡ None →
      (refusals.system_fits l c ≡ true) × (failing (refusals.system_checks l s c) ≡ None)
  unfolding checks
  fitting c h =
      let q = passes (checks l s (by_system c)) h in (
        (and_parts (l.can (system_number c)) (refusals.system_fits l c) q.0).1,
        last (l.can (system_number c) && refusals.system_fits l c)
            (not (is_some s.running)) q.0 q.1.0 h,
      )
    where
      last : (a b : Bool) → a ≡ true → b ≡ true →
          cond a (cond b (failing (refusals.system_checks l s c)) (Some 14)) (Some 2) ≡ None → failing (refusals.system_checks l s c) ≡ None
      last true true p q z = z
      last true false p q z = absurd (grind (arith, q))
      last false b p q z = absurd (grind (arith, p))

  low_place : (w : Place) → refusals.in_range l w ≡ true → (w.table < 256) × (w.slot < 1024)
  low_place w h =
      let i = and_parts (ltb w.table l.places) (ltb w.slot l.slots) h in
      (omega (arith, ltb-true _ _ i.0, k.sized.places_are), omega (arith, ltb-true _ _ i.1, k.sized.slots_are))

  memory_right : (c : SystemCall) → refusals.system_fits l c ≡ true → failing (refusals.system_checks l s c) ≡ None →
      program.system_memory m (flat s.open_pages) c ≡ encode l (apply_all s (system_edits l s c))
  unfolding refusals.system_fits system_edits
  memory_right how_many f h = refl
  memory_right (new_cell p t) f h = cell_written l s k p t h
  memory_right (new_thread p c a) f h = thread_written l s k p c a h
  memory_right (new_table p c i) f h = table_written l s k p c i h
  memory_right (hold p c w o) f h = held_written l s k p c w o (low_place w f).0 (low_place w f).1 h
  memory_right (give p c) f h = given_written l s k p c h
  memory_right (show o c w) f h = shown_written l s k o c w (low_place w f).0 (low_place w f).1 h
  memory_right (remove p) f h = removed_written l s k p h
  memory_right (seal c) f h = sealed_written l s k c h
  memory_right (stop c) f h = stopped_written l s k c h
  memory_right (enter t x y z) f h = edits_written.run l s (Some t)
  memory_right (resume t) f h = edits_written.run l s (Some t)

  pages_right : (c : SystemCall) → failing (refusals.system_checks l s c) ≡ None →
      program.system_pages (flat s.contents) (flat s.open_pages) c ≡ flat (apply_all s (system_edits l s c)).contents
  unfolding system_edits
  pages_right how_many h = refl
  pages_right (new_cell p t) h = refl
  pages_right (new_thread p c a) h = refl
  pages_right (new_table p c i) h = refl
  pages_right (hold p c w o) h = pages_held l s k p c w o h
  pages_right (give p c) h = refl
  pages_right (show o c w) h = refl
  pages_right (remove p) h = refl
  pages_right (seal c) h = refl
  pages_right (stop c) h = refl
  pages_right (enter t x y z) h = refl
  pages_right (resume t) h = refl

  reply_right : (c : SystemCall) → failing (refusals.system_checks l s c) ≡ None → program.system_reply m c ≡ model.system_reply l s c
  unfolding model.system_reply refusals.system_checks
  reply_right how_many h = ap number (reads_right.pages l s)
  reply_right (new_cell p t) h = refl
  reply_right (new_thread p c a) h = refl
  reply_right (new_table p c i) h = refl
  reply_right (hold p c w o) h = refl
  reply_right (give p c) h = refl
  reply_right (show o c w) h = refl
  reply_right (remove p) h = refl
  reply_right (seal c) h = refl
  reply_right (stop c) h = refl
  reply_right (enter t x y z) h =
      let q = passes (refusals.system_checks l s (enter t x y z)) h in
      entered_right l s k t q.0 q.1.0 _ _ (first_right l s k t q.0 q.1.0 x y z)
  reply_right (resume t) h =
      let q = passes (refusals.system_checks l s (resume t)) h in
      entered_right l s k t q.0 q.1.0 _ _ (kept_right l s k t q.0 q.1.0)

  pub says_system : (c : SystemCall) → program.says m (flat s.contents) (flat s.open_pages) (by_system c) ≡ model.answer l s (by_system c)
  unfolding program.says reply place
  says_system c =
      ap (reply_unless (program.system_reply m c)) (failing_right c)
      ∙ reply_same _ _ (failing (checks l s (by_system c))) (λ h. reply_right c (fitting c h).1)

  edits_unless : (A : Type 0) (f : State → A) (c : SystemCall) (o : Option ℕ) →
      unless (f (apply_all s (system_edits l s c))) (f s) o
      ≡ f (apply_all s (edits_or {A = Refusal} (changed l s (by_system c))
      (option_map (λ n. record { number = n; place = place (by_system c) }) o)))
  unfolding edits_or changed
  edits_unless A f c None = refl
  edits_unless A f c (Some n) = refl

  pub leaves_system : (c : SystemCall) →
      program.leaves m (flat s.contents) (flat s.open_pages) (by_system c) ≡ encode l (model.after l s (by_system c))
  unfolding program.leaves
  leaves_system c =
      ap (unless _ m) (failing_right c)
      ∙ unless_same _ _ m (failing (checks l s (by_system c))) (λ h. memory_right c (fitting c h).0 (fitting c h).1)
      ∙ edits_unless (List ℕ) (encode l) c (failing (checks l s (by_system c)))

  pub pages_system : (c : SystemCall) →
      program.leaves_pages m (flat s.contents) (flat s.open_pages) (by_system c) ≡ flat (model.after l s (by_system c)).contents
  unfolding program.leaves_pages
  pages_system c =
      ap (unless _ (flat s.contents)) (failing_right c)
      ∙ unless_same _ _ (flat s.contents) (failing (checks l s (by_system c))) (λ h. pages_right c (fitting c h).1)
      ∙ edits_unless (List ℕ) (λ t. flat t.contents) c (failing (checks l s (by_system c)))
