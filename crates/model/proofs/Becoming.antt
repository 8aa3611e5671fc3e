-- What giving, taking back and stopping change of a sealed cell, and that writes of open pages change nothing of it.
use Rattle.std.proofs.Common.{◌≡◌, ℕ, ◌<◌, true, length, set, sym, refl, ap, ◌∙◌, subst, arith, get_or-set_other, get_or-set_same, ltb-true}
use Rattle.model.specs.Calls.{SystemCall, by_system, give, remove, stop}
use Rattle.model.specs.Answers.{done}
use Rattle.model.specs.Pages.{stopped, Entry, free, kind, kind_number, is_free, in_cell}
use Rattle.model.specs.State.{Limits, State, entry, apply_all}
use Rattle.model.specs.Refusals.{checks, system_checks, there}
use Rattle.model.specs.Monitor.{answer, edits, changed, system_edits}
use Rattle.model.specs.Worlds.{step}
use Rattle.model.specs.Changes.{Becomes}
use Rattle.model.specs.Promises.{IntegrityOfGiving, IntegrityOfTakingBack, IntegrityOfStopping, IntegrityOfWrites}
use Rattle.model.proofs.Answered.{not_refused, taken}
use Rattle.model.proofs.CellAt.{in_phase}
use Rattle.model.proofs.Effects.{Pass, passed}
use Rattle.model.proofs.Reached.{Sizes, sizes}

becomes : (s : State) (p : ℕ) (x : Entry) → p < length s.entries →
    Becomes p x s (record { entries = set s.entries p x; contents = s.contents; open_pages = s.open_pages; running = s.running })
becomes s p x h = (
  record {
    entries = λ q n. get_or-set_other s.entries p q x free n;
    contents = refl;
    open_pages = refl;
    running = refl;
  },
  get_or-set_same s.entries p x free h,
)

the_free : (x : Entry) → is_free x ≡ true → x ≡ free
unfolding kind kind_number
the_free x h = grind arith

low : (l : Limits) (s : State) (p : ℕ) → Sizes l s → there l p ≡ true → p < length s.entries
low l s p z h = rw z.entries (ltb-true p l.pages h)

-- A call that is done passed its checks.
done_passed : (l : Limits) (s : State) (c : SystemCall) → answer l s (by_system c) ≡ done → Pass (system_checks l s c)
unfolding checks
done_passed l s c h = (passed l s (by_system c) (not_refused l s (by_system c) done (λ r z. grind arith) h)).1.1

done_edits : (l : Limits) (s : State) (c : SystemCall) (p : ℕ) (x : Entry) → answer l s (by_system c) ≡ done →
    Becomes p x s (apply_all s (system_edits l s c)) → Becomes p x s (apply_all s (edits l s (by_system c)))
unfolding changed
done_edits l s c p x h b =
    subst (λ es. Becomes p x s (apply_all s es)) (sym (taken l s (by_system c) done (λ r z. grind arith) h).0) b

-- 7.
pub giving : IntegrityOfGiving
unfolding system_checks system_edits
giving l m w o g r sl p h =
    let k = done_passed l w.state (give p o) h in (
      the_free (entry w.state p) k.1.1.0,
      done_edits l w.state (give p o) p _ h (becomes w.state p _ (low l w.state p (sizes l m w r) k.1.0)),
    )

pub taking_back : IntegrityOfTakingBack
unfolding system_checks system_edits
taking_back l m w o g r sl p e h =
    let k = done_passed l w.state (remove p) h in
    done_edits l w.state (remove p) p free h (becomes w.state p free (low l w.state p (sizes l m w r) k.0))

pub stopping : IntegrityOfStopping
unfolding system_checks system_edits in_cell
stopping l m w o g r sl x e h =
    let k = done_passed l w.state (stop o) h in
    let t : there l o ≡ true = grind (arith, k.0) in
    let b = becomes w.state o (in_cell (in_phase stopped) (entry w.state o)) (low l w.state o (sizes l m w r) t) in
    done_edits l w.state (stop o) o _ h (b.0, b.1 ∙ ap (in_cell (in_phase stopped)) e)

pub writing : IntegrityOfWrites
unfolding step
writing l m w o g r sl x ws = record { entries = λ p h. refl; contents = λ p h. refl; none_joins = λ p h. h }
