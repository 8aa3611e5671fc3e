-- What a slot has, as the code sees it.
use Rattle.std.proofs.Common.{◌≡◌, ◌≢◌, ℕ, Bool, false, true, cond, eqb, List, Some, None, sym, refl, ap, ◌∙◌, eq-eqb, ne_eqb}
use Rattle.model.specs.Calls.{Place}
use Rattle.model.specs.Pages.{◌is◌, is_nothing, closed_in}
use Rattle.pages.specs.Meaning.{slot_of}
use Rattle.pages.specs.declared.values.Slot.{Slot}
use Rattle.pages.specs.declared.values.Slot.TheVariants.{Nothing, Closed, Opened}
use Rattle.pages.specs.Rows.{slot_in}
use Rattle.lookups.specs.Lookups.{table_of, empty_in, showing_in, vacant, showing}

something : (z : Slot) → z ≢ Nothing → is_nothing (slot_of z) ≡ false
unfolding is_nothing
something Nothing h = absurd (h refl)
something (Closed p w x) h = refl
something (Opened o w) h = refl

none_closed : (z : Slot) (p : ℕ) → ((q : ℕ) (w x : Bool) → z ≢ Closed q w x) → (closed_in (slot_of z) is p) ≡ false
unfolding closed_in ◌is◌
none_closed Nothing p h = refl
none_closed (Closed q w x) p h = absurd (h q w x refl)
none_closed (Opened o w) p h = refl

one_closed : (z : Slot) (p q : ℕ) (w x : Bool) → z ≡ Closed q w x → (closed_in (slot_of z) is p) ≡ eqb q p
unfolding closed_in ◌is◌
one_closed z p q w x e = ap (λ y. closed_in (slot_of y) is p) e

-- A place in the table q, with z in its slot.
module _ (m : List ℕ) (top : ℕ) (place : Place) (q : ℕ) (z : Slot) (h : table_of m top place.table ≡ Some q)
    (s : slot_of z ≡ slot_in m q place.slot) where
  empty_is : (b : Bool) → is_nothing (slot_of z) ≡ b → cond b (Some q) None ≡ vacant m top place
  empty_is b g = ap (λ d. cond d (Some q) None) (sym g ∙ ap is_nothing s) ∙ ap (empty_in m place.slot) (sym h)

  showing_is : (p : ℕ) (b : Bool) → (closed_in (slot_of z) is p) ≡ b → cond b (Some q) None ≡ showing m top place p
  showing_is p b g =
      ap (λ d. cond d (Some q) None) (sym g ∙ ap (λ y. closed_in y is p) s) ∙ ap (showing_in m p place.slot) (sym h)

  pub in_use : z ≢ Nothing → None ≡ vacant m top place
  in_use g = empty_is false (something z g)

  pub empty : z ≡ Nothing → Some q ≡ vacant m top place
  unfolding is_nothing
  empty g = empty_is true (ap (λ y. is_nothing (slot_of y)) g)

  pub not_closed : (p : ℕ) → ((r : ℕ) (w x : Bool) → z ≢ Closed r w x) → None ≡ showing m top place p
  not_closed p g = showing_is p false (none_closed z p g)

  pub shows_another : (p r : ℕ) (w x : Bool) → z ≡ Closed r w x → r ≢ p → None ≡ showing m top place p
  shows_another p r w x e g = showing_is p false (one_closed z p r w x e ∙ ne_eqb r p g)

  pub shows : (p r : ℕ) (w x : Bool) → z ≡ Closed r w x → r ≡ p → Some q ≡ showing m top place p
  shows p r w x e g = showing_is p true (one_closed z p r w x e ∙ eq-eqb r p g)
