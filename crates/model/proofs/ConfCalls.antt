-- A call by the system, in two states that look alike: it is answered alike, and leaves them alike.
use Rattle.std.proofs.Common.{◌≡◌, ℕ, true, false, List, [], ◌∷◌, is_some, Some, None, Option, sym, refl, ap, ◌∙◌, inl, inr, arith}
use Rattle.std.specs.Option.{option_map}
use Rattle.model.specs.Calls.{SystemCall, CellCall, Call, by_system, by_cell, garbled, how_many, new_cell, new_thread, new_table, hold}
use Rattle.model.specs.Calls.{give, show, remove, seal, stop, enter, resume}
use Rattle.model.specs.Answers.{Refusal, Answer, done, to_system}
use Rattle.model.specs.Pages.{sealed, Cell, Entry, kind, kind_number, part_of, cell_of, cell_is, thread_in, Entries, at}
use Rattle.model.specs.State.{Limits, State, entry, caller_by, is_owner_in, owner_by, owner, apply_all}
use Rattle.model.specs.Refusals.{failing, system_checks, checks, place, refusal}
use Rattle.model.specs.Monitor.{copied, system_edits, changed, caller_edits, edits_or, after, entered, first_registers, kept_registers}
use Rattle.model.specs.Monitor.{system_reply, caller_reply, reply, answer_or, answer}
use Rattle.model.specs.Machine.{Machine}
use Rattle.model.specs.Worlds.{cell_by, registers_after, PossibleCall}
use Rattle.model.specs.Observers.{Observer, among, runs_theirs}
use Rattle.model.proofs.Effects.{Pass, passed, not_true}
use Rattle.model.proofs.ConfSeen.{same_kind, same_checks, same_entered, same_first}
use Rattle.model.proofs.ConfLike.{Like, Agree, AllFine, like_all, set_here}

pub none_among : (os : Observer) → among os None ≡ false
unfolding among
none_among [] = refl
none_among (o ∷ os) = refl

none_edits : {A : Type 0} (x : Option A) → edits_or [] x ≡ []
unfolding edits_or
none_edits None = refl
none_edits (Some r) = refl

unchanged : (l : Limits) (s : State) (c : Call) → changed l s c ≡ [] → after l s c ≡ s
unchanged l s c e = ap (λ es. apply_all s (edits_or es (refusal l s c))) e ∙ ap (apply_all s) (none_edits (refusal l s c))

idle_none : (l : Limits) (s : State) (c : CellCall) → s.running ≡ None → (changed l s (by_cell c) ≡ []) × (reply l s (by_cell c) ≡ done)
unfolding changed caller_edits reply caller_reply caller_by
idle_none l s c h =
    (ap (λ r. caller_edits l s c (caller_by s.entries r)) h, ap (λ r. caller_reply l s c (caller_by s.entries r)) h)

-- Where no thread runs, none of theirs does.
pub idle : {A : Type 0} (os : Observer) (d : Entries) (r : Option ℕ) → r ≡ None → among os (cell_by (caller_by d r)) ≡ true → A
unfolding caller_by cell_by
idle os d None e h = absurd (grind (arith, none_among os, h))
idle os d (Some q) e h = absurd (grind (arith, e))

-- A page of a cell of theirs is theirs.
theirs_by : (os : Observer) (p : ℕ) (x : Entry) → among os (part_of (kind x)) ≡ true → among os (cell_of p x) ≡ true
unfolding kind part_of kind_number
theirs_by os p x h = grind (arith, none_among os)

-- The cell of a thread that runs.
pub cell_running : (d : Entries) (q : ℕ) → cell_by (caller_by d (Some q)) ≡ part_of (kind (at d q))
unfolding caller_by cell_by
cell_running d q = go (part_of (kind (at d q)))
  where
    go : (x : Option ℕ) → cell_by (option_map (λ c. record { thread = q; cell = c }) x) ≡ x
    go None = refl
    go (Some c) = refl

pub or_alike : (a b : Answer) (x : Option Refusal) → to_system a ≡ to_system b → to_system (answer_or a x) ≡ to_system (answer_or b x)
unfolding answer_or
or_alike a b None e = e
or_alike a b (Some r) e = refl

no_running : (x : Option ℕ) → is_some x ≡ false → x ≡ None
no_running x h = grind arith

entered_alike : (x : Option Cell) (rs : List ℕ) → to_system (entered x rs) ≡ entered x []
unfolding entered
entered_alike None rs = refl
entered_alike (Some x) rs = refl

entered_has : (m : Machine) (rs qs : List ℕ) (d : Entries) (c : Option ℕ) → is_owner_in sealed d c ≡ true →
    registers_after m rs (entered (owner_by d c) qs) ≡ qs
unfolding is_owner_in owner_by entered registers_after cell_is
entered_has m rs qs d c h = grind arith

same_edits : (l : Limits) (s t : State) (c : SystemCall) → s.open_pages ≡ t.open_pages → system_edits l s c ≡ system_edits l t c
unfolding system_edits copied
same_edits l s t c e = grind arith

module _ (l : Limits) (os : Observer) (s t : State) (h : Like os s t) where
  pub same_refusal : (c : Call) → refusal l s c ≡ refusal l t c
  same_refusal c = ap (λ cs. option_map (λ k. record { number = k; place = place c }) (failing cs))
      (same_checks s t h.pages.same l h.beside.running c)

  system_fine : (c : SystemCall) →
      AllFine (Agree (apply_all s (system_edits l s c)) (apply_all t (system_edits l s c))) (system_edits l s c)
  unfolding system_edits kind kind_number
  system_fine how_many = tt
  system_fine (new_cell p q) = (inl refl, (inl refl, tt))
  system_fine (new_thread p c a) = (inl refl, (tt, tt))
  system_fine (new_table p c i) = (inl refl, (tt, tt))
  system_fine (hold p c w o) = (inr (set_here s.contents t.contents p (copied l s o) [] h.beside.long), (tt, (tt, (tt, tt))))
  system_fine (give p c) = (inl refl, tt)
  system_fine (show o c w) = (tt, tt)
  system_fine (remove p) = (inl refl, tt)
  system_fine (seal c) = (tt, tt)
  system_fine (stop c) = (tt, tt)
  system_fine (enter q x y z) = (tt, tt)
  system_fine (resume q) = (tt, tt)

  pub call_like : (c : Call) → PossibleCall s c → Like os (after l s c) (after l t c)
  unfolding changed PossibleCall edits_or
  call_like (by_system c) k =
      rw (← same_refusal (by_system c), ← same_edits l s t c h.beside.open_pages) (go (refusal l s (by_system c)))
    where
      go : (x : Option Refusal) → Like os (apply_all s (edits_or (system_edits l s c) x)) (apply_all t (edits_or (system_edits l s c) x))
      go None = like_all os s t (system_edits l s c) h (system_fine c)
      go (Some r) = h
  call_like (by_cell c) k =
      let e = (idle_none l s c k).0 in
      let f = (idle_none l t c (sym h.beside.running ∙ k)).0 in
      rw (unchanged l s (by_cell c) e, unchanged l t (by_cell c) f) h
  call_like (garbled n) k = rw (unchanged l s (garbled n) refl, unchanged l t (garbled n) refl) h

  entered_same : (q : ℕ) (rs qs : List ℕ) → to_system (entered (owner s q) rs) ≡ to_system (entered (owner t q) qs)
  entered_same q rs qs =
      entered_alike (owner s q) rs
      ∙ (ap (λ k. entered (owner_by s.entries (part_of k)) []) (same_kind s t h.pages.same q)
      ∙ (same_entered s t h.pages.same (part_of (kind (entry t q))) [] ∙ sym (entered_alike (owner t q) qs)))

  system_alike : (c : SystemCall) → to_system (system_reply l s c) ≡ to_system (system_reply l t c)
  unfolding system_reply
  system_alike c = grind (arith, entered_same)

  pub call_alike : (c : Call) → PossibleCall s c → to_system (answer l s c) ≡ to_system (answer l t c)
  unfolding reply PossibleCall
  call_alike (by_system c) k = rw (same_refusal (by_system c)) (or_alike _ _ (refusal l t (by_system c)) (system_alike c))
  call_alike (by_cell c) k =
      rw (same_refusal (by_cell c), (idle_none l s c k).1, (idle_none l t c (sym h.beside.running ∙ k)).1)
  call_alike (garbled n) k = rw (same_refusal (garbled n))

  module _ (m : Machine) (rs qs : List ℕ) where
    -- The system called, so no cell ran; if one of theirs does now, it was entered or resumed.
    system_registers : (c : SystemCall) → s.running ≡ None → Pass (system_checks l s c) → Pass (system_checks l t c) →
        runs_theirs os (apply_all s (system_edits l s c)) ≡ true →
        registers_after m rs (system_reply l s c) ≡ registers_after m qs (system_reply l t c)
    unfolding system_edits system_reply system_checks
    system_registers how_many n a b z = idle os _ s.running n z
    system_registers (new_cell p q) n a b z = idle os _ s.running n z
    system_registers (new_thread p c x) n a b z = idle os _ s.running n z
    system_registers (new_table p c i) n a b z = idle os _ s.running n z
    system_registers (hold p c w o) n a b z = idle os _ s.running n z
    system_registers (give p c) n a b z = idle os _ s.running n z
    system_registers (show o c w) n a b z = idle os _ s.running n z
    system_registers (remove p) n a b z = idle os _ s.running n z
    system_registers (seal c) n a b z = idle os _ s.running n z
    system_registers (stop c) n a b z = idle os _ s.running n z
    system_registers (enter q x y w) n a b z =
        let f = entered_has m rs (first_registers (thread_in (entry s q)) x y w) s.entries (part_of (kind (entry s q))) a.1.0 in
        let g = entered_has m qs (first_registers (thread_in (entry t q)) x y w) t.entries (part_of (kind (entry t q))) b.1.0 in
        f ∙ (same_first s t h.pages.same q x y w ∙ sym g)
    system_registers (resume q) n a b z =
        let f = entered_has m rs (kept_registers (thread_in (entry s q))) s.entries (part_of (kind (entry s q))) a.1.0 in
        let g = entered_has m qs (kept_registers (thread_in (entry t q))) t.entries (part_of (kind (entry t q))) b.1.0 in
        let own = h.pages.own q (theirs_by os q (entry s q) (rw (cell_running s.entries q) at z)) in
        f ∙ (ap (λ x. kept_registers (thread_in x)) own ∙ sym g)

    pub call_registers : (c : Call) → PossibleCall s c → (runs_theirs os s ≡ true → rs ≡ qs) → runs_theirs os (after l s c) ≡ true →
        registers_after m rs (answer l s c) ≡ registers_after m qs (answer l t c)
    unfolding reply changed checks PossibleCall edits_or answer_or registers_after
    call_registers (by_system c) k e z = go (refusal l s (by_system c)) refl z
      where
        go : (x : Option Refusal) → refusal l s (by_system c) ≡ x → runs_theirs os (apply_all s (edits_or (system_edits l s c) x)) ≡ true →
            registers_after m rs (answer_or (system_reply l s c) x) ≡ registers_after m qs (answer l t (by_system c))
        go None f y =
            let g = sym (same_refusal (by_system c)) ∙ f in
            let a = passed l s (by_system c) f in
            let b = passed l t (by_system c) g in
            rw g (system_registers c (no_running s.running (not_true (is_some s.running) a.1.0)) a.1.1 b.1.1 y)
        go (Some r) f y = rw (sym (same_refusal (by_system c)) ∙ f) (e y)
    call_registers (by_cell c) k e z = idle os _ s.running k (rw (unchanged l s (by_cell c) (idle_none l s c k).0) at z)
    call_registers (garbled n) k e z = e (rw (unchanged l s (garbled n) refl) at z)
