-- What a call comes to: no edits at all, or those of a call by the system or by a cell that passed its checks.
use Rattle.std.proofs.Common.{◌≡◌, ℕ, Bool, true, false, cond, not, ◌&&◌, List, [], ◌∷◌, is_some, Some, None, Option, sym, refl, arith}
use Rattle.std.specs.Option.{option_map}
use Rattle.model.specs.Calls.{SystemCall, CellCall, Call, by_system, by_cell, garbled, system_number, cell_number}
use Rattle.model.specs.Answers.{Refusal}
use Rattle.model.specs.State.{Limits, State, Caller, caller, Edit}
use Rattle.model.specs.Refusals.{Check, failing, system_checks, cell_checks, system_fits, cell_fits, checks, place, refusal}
use Rattle.model.specs.Monitor.{system_edits, cell_edits, caller_edits, changed, edits_or, edits}

-- Each check holds.
abbrev pub Pass : List Check → Type 0
Pass [] = Unit {0}
Pass (c ∷ cs) = (c.holds ≡ true) × Pass cs

pub passes : (cs : List Check) → failing cs ≡ None → Pass cs
passes [] h = tt
passes (c ∷ cs) h = go c.holds refl h (passes cs)
  where
    go : (b : Bool) → c.holds ≡ b → cond b (failing cs) (Some c.otherwise) ≡ None → (failing cs ≡ None → Pass cs) → Pass (c ∷ cs)
    go true e z f = (e, f z)
    go false e z f = absurd (grind (arith, z))

pub data Effect (l : Limits) (s : State) : Call → List Edit → Type 0 where
  no_effect : (c : Call) → Effect l s c []
  system_effect :
      (c : SystemCall) → Pass (system_checks l s c) → is_some s.running ≡ false → system_fits l c ≡ true →
      Effect l s (by_system c) (system_edits l s c)
  cell_effect :
      (c : CellCall) (k : Caller) → caller s ≡ Some k → Pass (cell_checks l s k c) → cell_fits c ≡ true →
      Effect l s (by_cell c) (cell_edits l k c)

not_mapped : {A B : Type 0} (f : A → B) (x : Option A) → option_map f x ≡ None → x ≡ None
not_mapped f None h = refl
not_mapped f (Some a) h = absurd (grind (arith, h))

pub passed : (l : Limits) (s : State) (c : Call) → refusal l s c ≡ None → Pass (checks l s c)
passed l s c h = passes (checks l s c) (not_mapped (λ k. record { number = k; place = place c }) (failing (checks l s c)) h)

and_true : (a b : Bool) → (a && b) ≡ true → (a ≡ true) × (b ≡ true)
and_true true b e = (refl, e)
and_true false b e = (e, absurd (grind (arith, e)))

pub not_true : (b : Bool) → not b ≡ true → b ≡ false
not_true true e = sym e
not_true false e = refl

changed_effect : (l : Limits) (s : State) (c : Call) → Pass (checks l s c) → Effect l s c (changed l s c)
unfolding checks changed caller_edits edits_or
changed_effect l s (by_system c) h =
    system_effect c h.1.1 (not_true (is_some s.running) h.1.0) (and_true (l.can (system_number c)) (system_fits l c) h.0).1
changed_effect l s (by_cell c) h = go (caller s) refl
  where
    if_none : (k : Caller) → caller s ≡ Some k → (x : Option ℕ) → failing (cell_checks l s k c) ≡ x →
        Effect l s (by_cell c) (edits_or (cell_edits l k c) x)
    if_none k e None z = cell_effect c k e (passes (cell_checks l s k c) z) (and_true (l.can (cell_number c)) (cell_fits c) h.0).1
    if_none k e (Some n) z = no_effect (by_cell c)

    go : (x : Option Caller) → caller s ≡ x → Effect l s (by_cell c) (caller_edits l s c x)
    go None e = no_effect (by_cell c)
    go (Some k) e = if_none k e (failing (cell_checks l s k c)) refl
changed_effect l s (garbled n) h = no_effect (garbled n)

-- Every call has one of these effects.
pub effect : (l : Limits) (s : State) (c : Call) → Effect l s c (edits l s c)
unfolding edits_or
effect l s c = go (refusal l s c) refl
  where
    go : (x : Option Refusal) → refusal l s c ≡ x → Effect l s c (edits_or (changed l s c) x)
    go None e = changed_effect l s c (passed l s c e)
    go (Some r) e = no_effect c
