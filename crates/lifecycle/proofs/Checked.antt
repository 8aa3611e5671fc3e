-- The checks over a state's memory come to what the definitions' come to.
use Rattle.std.proofs.Common.{◌≡◌, ℕ, not, ◌&&◌, ◌||◌, is_some, Some, None, Option, refl, ap, ◌∙◌, ap₂, arith}
use Rattle.model.specs.Calls.{remove, seal, stop}
use Rattle.model.specs.Pages.{Entry, kind, kind_number, part_of, is_spare, stopped, sealed}
use Rattle.model.specs.State.{Limits, State, entry, is_owner_in}
use Rattle.model.specs.Refusals.{failing, system_checks}
use Rattle.pages.specs.Layout.{encode}
use Rattle.pages.specs.Meaning.{shown}
use Rattle.lookups.specs.Lookups.{record_of, spare_in}
use Rattle.lookups.specs.Lookups as look
use Rattle.lookups.proofs.Checking.{check}
use Rattle.lookups.proofs.Right.{Known, there_right, record_right, first_shown, part_shown, parts_right, cells_right, building_right}
use Rattle.lookups.proofs.Right.{sealed_right, stopped_right}
use Rattle.lifecycle.specs.Checks.{may_go, remove_checks, seal_checks, stop_checks}

spare_is : (x : Entry) → is_some (spare_in (shown x)) ≡ is_spare x
unfolding kind kind_number
spare_is x = grind arith

module _ (l : Limits) (s : State) (k : Known l s) where
  pub seal_checked : (c : ℕ) → failing (seal_checks (encode l s) c) ≡ failing (system_checks l s (seal c))
  unfolding system_checks
  seal_checked c = check _ _ _ _ _ (cells_right l s k c) (λ _. check _ _ _ _ _ (building_right l s k c) (λ _. refl))

  pub stop_checked : (c : ℕ) → failing (stop_checks (encode l s) c) ≡ failing (system_checks l s (stop c))
  unfolding system_checks
  stop_checked c = check _ _ _ _ _ (cells_right l s k c) (λ _. refl)

  goes : (p : ℕ) (c : Option ℕ) →
      may_go (encode l s) p c ≡ (not (is_some c) || (is_owner_in stopped s.entries c || (is_owner_in sealed s.entries c && is_spare
      (entry s p))))
  unfolding is_owner_in
  goes p None = refl
  goes p (Some c) =
      ap₂ (λ a b. a || b) (stopped_right l s k c)
      (ap₂ (λ a b. a && b) (sealed_right l s k c) (ap (λ x. is_some (spare_in x)) (record_right l s k p) ∙ spare_is (entry s p)))

  pub remove_checked : (p : ℕ) → failing (remove_checks (encode l s) p) ≡ failing (system_checks l s (remove p))
  unfolding system_checks
  remove_checked p =
      check _ _ _ _ _ (there_right l s k p) (λ _.
      check _ _ _ _ _ (ap₂ (λ a b. not (a && b)) (ap look.is_first (record_right l s k p) ∙ first_shown (entry s p))
      (parts_right l s k p)) (λ _.
      check _ _ _ _ _ (ap (may_go (encode l s) p) (ap look.part_of (record_right l s k p) ∙ part_shown (entry s p))
      ∙ goes p (part_of (kind (entry s p)))) (λ _. refl)))
