-- How a run of a cell ends, in two states that look alike, with calls that give the same away.
use Rattle.std.proofs.Common.{◌≡◌, ℕ, true, false, List, [], ◌∷◌, Some, None, Option, unwrap_or, sym, refl, ap, ◌∙◌, inl, inr, arith}
use Rattle.model.specs.Calls.{CellCall, by_cell, cell_number, leave, interrupt, fault, grow, shrink, extend, who, draw}
use Rattle.model.specs.Answers.{Refusal, to_system}
use Rattle.model.specs.Pages.{kind, kind_number}
use Rattle.model.specs.State.{Limits, State, zeros, Caller, caller, apply_all, run}
use Rattle.model.specs.Refusals.{failing, cell_checks, cell_fits, checks, place, refusal, error}
use Rattle.model.specs.Monitor.{cell_edits, caller_edits, changed, edits_or, edits, after, cell_reply, caller_reply, reply, answer}
use Rattle.model.specs.Observers.{Observer, among, theirs, Given, gives, left_with, interrupted, faulted, grew, shrank, extended, asked_who}
use Rattle.model.specs.Observers.{drew}
use Rattle.model.proofs.ConfSeen.{same_cell, one_caller}
use Rattle.model.proofs.ConfLike.{Like, like_all, like_put, set_here}
use Rattle.model.proofs.ConfCalls.{or_alike, same_refusal}
use Rattle.model.proofs.ConfRunning.{Runs}

-- A call by what it gives away, with registers and a number that it does not.
unfoldable given : List ℕ → ℕ → Given → CellCall
given rs n (left_with x) = leave x
given rs n interrupted = interrupt rs
given rs n (faulted x) = fault x
given rs n (grew p w) = grow p w
given rs n (shrank p w) = shrink p w
given rs n (extended p i) = extend p i
given rs n asked_who = who
given rs n drew = draw n

was_given : (l : Limits) (s : State) (c : CellCall) → (rs : List ℕ) × (n : ℕ) × (c ≡ given rs n (gives l s c))
unfolding given gives
was_given l s (leave n) = ([], 0, refl)
was_given l s (interrupt rs) = (rs, 0, refl)
was_given l s (fault n) = ([], 0, refl)
was_given l s (grow p w) = ([], 0, refl)
was_given l s (shrink p w) = ([], 0, refl)
was_given l s (extend p i) = ([], 0, refl)
was_given l s who = ([], 0, refl)
was_given l s (draw n) = ([], n, refl)

module _ (l : Limits) (s : State) (k : Caller) (e : caller s ≡ Some k) (c : CellCall) where
  edits_are : edits l s (by_cell c) ≡ edits_or (edits_or (cell_edits l k c) (failing (cell_checks l s k c))) (refusal l s (by_cell c))
  unfolding changed caller_edits
  edits_are = ap (λ x. edits_or (caller_edits l s c x) (refusal l s (by_cell c))) e

  reply_is : reply l s (by_cell c) ≡ cell_reply l s k c
  unfolding reply caller_reply
  reply_is = ap (caller_reply l s c) e

module _ (l : Limits) (os : Observer) (s t : State) (h : Like os s t) (k : Caller) (e : caller s ≡ Some k) where
  calls_too : caller t ≡ Some k
  calls_too = sym (one_caller s t h.pages.same l h.beside.running) ∙ e

  same_error : (c : CellCall) → error l s k c ≡ error l t k c
  same_error c = ap (λ cs. unwrap_or (failing cs) 0) (same_cell s t h.pages.same l h.beside.running k c)

  -- What a cell is told in full, if it is theirs.
  told_same : Runs s k → among os (Some k.cell) ≡ true → (c : CellCall) → cell_reply l s k c ≡ cell_reply l t k c
  unfolding cell_reply kind_number
  told_same r o c =
      let first : theirs os s k.cell ≡ true = rw r.first o in
      grind (arith, same_error, h.pages.own k.cell first)

  pub answer_same : Runs s k → among os (Some k.cell) ≡ true → (c : CellCall) → answer l s (by_cell c) ≡ answer l t (by_cell c)
  answer_same r o c =
      rw (same_refusal l os s t h (by_cell c), reply_is l s k e c, reply_is l t k calls_too c, told_same r o c)

  -- Two calls that give the same away, with registers that are the same if the thread is theirs.
  module _ (rs qs : List ℕ) (x y : ℕ) where
    ends_like : (g : Given) → (theirs os s k.thread ≡ true → rs ≡ qs) →
        Like os (apply_all s (cell_edits l k (given rs x g))) (apply_all t (cell_edits l k (given qs y g)))
    unfolding given cell_edits kind kind_number
    ends_like (left_with n) own = like_all os s t (cell_edits l k (leave n)) h (tt, (tt, tt))
    ends_like interrupted own = like_all os _ _ (run None ∷ []) (like_put os s t k.thread true rs qs h own) (tt, tt)
    ends_like (faulted n) own = like_all os s t (cell_edits l k (fault n)) h (tt, (tt, tt))
    ends_like (grew p w) own =
        let here = set_here s.contents t.contents p (zeros l) [] h.beside.long in
        like_all os s t (cell_edits l k (grow p w)) h (inr here, (tt, (tt, tt)))
    ends_like (shrank p w) own = like_all os s t (cell_edits l k (shrink p w)) h (tt, (inl refl, tt))
    ends_like (extended p i) own = like_all os s t (cell_edits l k (extend p i)) h (inl refl, (tt, tt))
    ends_like asked_who own = h
    ends_like drew own = h

    checks_alike : (g : Given) → cell_checks l s k (given rs x g) ≡ cell_checks l t k (given qs y g)
    unfolding given cell_checks
    checks_alike g = same_cell s t h.pages.same l h.beside.running k (given rs x g) ∙ grind arith

    replies_alike : (g : Given) → to_system (cell_reply l s k (given rs x g)) ≡ to_system (cell_reply l t k (given qs y g))
    unfolding given cell_reply
    replies_alike g = grind arith

    numbers_same : (g : Given) → cell_number (given rs x g) ≡ cell_number (given qs y g)
    unfolding given
    numbers_same g = grind arith

    module _ (g : Given) (a : cell_fits (given rs x g) ≡ true) (b : cell_fits (given qs y g) ≡ true) where
      refusals_same : refusal l s (by_cell (given rs x g)) ≡ refusal l t (by_cell (given qs y g))
      unfolding checks place
      refusals_same = rw (numbers_same g, a, b, e, calls_too)

      end_like : (theirs os s k.thread ≡ true → rs ≡ qs) →
          Like os (after l s (by_cell (given rs x g))) (after l t (by_cell (given qs y g)))
      unfolding edits_or
      end_like own =
          rw (edits_are l s k e (given rs x g), edits_are l t k calls_too (given qs y g), refusals_same, checks_alike g)
          (go (failing (cell_checks l t k (given qs y g))) (refusal l t (by_cell (given qs y g))))
        where
          go : (u : Option ℕ) (z : Option Refusal) → Like os (apply_all s (edits_or (edits_or (cell_edits l k (given rs x g)) u) z))
              (apply_all t (edits_or (edits_or (cell_edits l k (given qs y g)) u) z))
          go None None = ends_like g own
          go (Some n) None = h
          go u (Some r) = h

      end_alike : to_system (answer l s (by_cell (given rs x g))) ≡ to_system (answer l t (by_cell (given qs y g)))
      end_alike =
          rw (refusals_same, reply_is l s k e (given rs x g), reply_is l t k calls_too (given qs y g))
          (or_alike _ _ (refusal l t (by_cell (given qs y g))) (replies_alike g))

  -- So it is with one call in both, and with two that give the same away, of a thread that is not theirs.
  pub ends_own : (c : CellCall) → cell_fits c ≡ true → Like os (after l s (by_cell c)) (after l t (by_cell c))
  ends_own c f =
      let a = was_given l s c in
      let b = rw a.2 at f in
      rw a.2 (end_like a.0 a.0 a.1 a.1 (gives l s c) b b (λ z. refl))

  pub ends_other : (c d : CellCall) → gives l s c ≡ gives l t d → cell_fits c ≡ true → cell_fits d ≡ true →
      theirs os s k.thread ≡ false →
      (to_system (answer l s (by_cell c)) ≡ to_system (answer l t (by_cell d))) × Like os (after l s (by_cell c)) (after l t (by_cell d))
  ends_other c d g f i o =
      let a = was_given l s c in
      let b = was_given l t d in
      ends (gives l s c) a.0 b.0 a.1 b.1 a.2 (b.2 ∙ ap (given b.0 b.1) (sym g))
    where
      ends : (g : Given) (rs qs : List ℕ) (x y : ℕ) → c ≡ given rs x g → d ≡ given qs y g →
          (to_system (answer l s (by_cell c)) ≡ to_system (answer l t (by_cell d)))
          × Like os (after l s (by_cell c)) (after l t (by_cell d))
      ends g rs qs x y p q =
          let a = rw p at f in
          let b = rw q at i in
          rw (p, q) (end_alike rs qs x y g a b, end_like rs qs x y g a b (λ z. absurd (grind (arith, o, z))))
