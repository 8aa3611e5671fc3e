-- A run of a cell in two worlds that look alike: of an observer's own cell, and of another that gives the same away.
use Rattle.std.proofs.Common.{◌≡◌, ℕ, Bool, true, false, ◌≢◌, List, [], get_or, set, Some, None, sym, refl, ap, ◌∙◌, subst, ap₂, inl, inr, arith, length-set}
use mathlib.Core.Path.{fun_ext}
use Rattle.model.specs.Calls.{by_cell}
use Rattle.model.specs.Answers.{to_system}
use Rattle.model.specs.Pages.{Slot, nothing, closed, opened, held_by, kind, kind_number, part_of, slot_in, table_at, is_held}
use Rattle.model.specs.State.{Limits, State, entry, Caller, caller, caller_by}
use Rattle.model.specs.Refusals.{cell_fits}
use Rattle.model.specs.Monitor.{after, answer}
use Rattle.model.specs.Machine.{Machine, GoodMachine, words_behind, write_behind, sight, written, ended_by}
use Rattle.model.specs.Worlds.{World, cell_by, registers_after, Reachable, ran, ending, after_run, run_answer, by_run}
use Rattle.model.specs.Observers.{Observer, among, theirs, runs_theirs, Alike, SameGiven}
use Rattle.model.specs.Invariant.{Invariant}
use Rattle.model.specs.Promises.{InvariantHolds, RegistersGood}
use Rattle.model.proofs.Runs.{SamePages, written_pages}
use Rattle.model.proofs.Lists.{get_d_set}
use Rattle.model.proofs.Reached.{sizes}
use Rattle.model.proofs.ConfSeen.{same_slots, same_slot, same_tables, one_caller, same_kind}
use Rattle.model.proofs.ConfLike.{Like, Agree, set_same, to_like, from_like}
use Rattle.model.proofs.ConfCalls.{none_among}
use Rattle.model.proofs.Written.{written_keeps, written_both}
use Rattle.model.proofs.ConfRunning.{Runs, runs_now, runs_well, sees, goes_on_as}
use Rattle.model.proofs.ConfEnds.{answer_same, ends_own, ends_other}

-- A page that a cell of theirs holds is theirs.
holds_theirs : (os : Observer) (s : State) (p c : ℕ) → kind (entry s p) ≡ held_by c → theirs os s p ≡ among os (Some c)
unfolding kind_number part_of
holds_theirs os s p c h = rw h

-- The same words written behind the same slot leave two states alike.
behind_like : (os : Observer) (z : Slot) (ws : List ℕ) (s t : State) → Like os s t → Like os (write_behind z ws s) (write_behind z ws t)
unfolding write_behind
behind_like os nothing ws s t h = h
behind_like os (closed p true b) ws s t h = record {
  pages = record {
    same = record { long = h.pages.same.long; public = h.pages.same.public };
    own = h.pages.own;
    holds = λ q g a. set_same s.contents t.contents p q ws [] h.beside.long (h.pages.holds q g a);
  };
  beside = record {
    long = length-set s.contents p ws ∙ (h.beside.long ∙ sym (length-set t.contents p ws));
    open_pages = h.beside.open_pages;
    running = h.beside.running;
  };
}
behind_like os (closed p false b) ws s t h = h
behind_like os (opened o true) ws s t h = record {
  pages = record {
    same = record { long = h.pages.same.long; public = h.pages.same.public };
    own = h.pages.own;
    holds = h.pages.holds;
  };
  beside = record { long = h.beside.long; open_pages = ap (λ xs. set xs o ws) h.beside.open_pages; running = h.beside.running };
}
behind_like os (opened o false) ws s t h = h

-- What is behind a slot that names no page p leaves that page as it is.
behind_other : (z : Slot) (ws : List ℕ) (s : State) (p : ℕ) → ((q : ℕ) (a b : Bool) → z ≡ closed q a b → q ≢ p) →
    get_or (write_behind z ws s).contents p [] ≡ get_or s.contents p []
unfolding write_behind
behind_other nothing ws s p h = refl
behind_other (closed q true b) ws s p h = elim (get_d_set s.contents q p ws []) [ inl e ↦ e | inr e ↦ absurd (h q true b refl e.0) ]
behind_other (closed q false b) ws s p h = refl
behind_other (opened o true) ws s p h = refl
behind_other (opened o false) ws s p h = refl

words_same : (os : Observer) (s t : State) → Like os s t → (z : Slot) →
    ((p : ℕ) (a b : Bool) → z ≡ closed p a b → Agree s t p) → words_behind s z ≡ words_behind t z
unfolding words_behind
words_same os s t h nothing k = refl
words_same os s t h (closed p a b) k = k p a b refl
words_same os s t h (opened o a) k = ap (λ xs. get_or xs o []) h.beside.open_pages

held_is : (s : State) (p c : ℕ) → kind (entry s p) ≡ held_by c → is_held (entry s p) ≡ true
unfolding kind_number
held_is s p c h = rw h

-- Who runs is the same after words are written.
caller_after : (s t : State) → SamePages s t → caller t ≡ caller s
caller_after s t h = ap₂ caller_by h.entries h.running

module _ (l : Limits) (os : Observer) (s t : State) (h : Like os s t) (k : Caller) (i : Invariant l s) (e : caller s ≡ Some k) where
  -- What a cell of theirs sees is the same in both.
  sight_same : among os (Some k.cell) ≡ true → sight s k.cell ≡ sight t k.cell
  sight_same o = fun_ext (λ a. fun_ext (λ b. one a b))
    where
      one : (a b : ℕ) → sight s k.cell a b ≡ sight t k.cell a b
      one a b =
          let z = slot_in s.entries (table_at s.entries k.cell a) b in
          let y : z ≡ slot_in t.entries (table_at t.entries k.cell a) b =
          ap (λ ts. slot_in s.entries (get_or ts a None) b) (same_tables s t h.pages.same k.cell)
          ∙ same_slot s t h.pages.same (table_at t.entries k.cell a) b in
          let held = sees l s k.cell i (runs_now l s k i e).live a b in
          rw (← y)
          (ap (λ ws. record { slot = z; words = ws })
          (words_same os s t h z
          (λ p c d g. h.pages.holds p (holds_theirs os s p k.cell (held p c d g) ∙ o) (held_is s p k.cell (held p c d g)))))

module _ (l : Limits) (os : Observer) (s : State) (k : Caller) (i : Invariant l s) (e : caller s ≡ Some k) where
  -- What another cell writes is no page of theirs.
  keeps_theirs : among os (Some k.cell) ≡ false → (f : ℕ → ℕ → List ℕ) (p : ℕ) → theirs os s p ≡ true →
      get_or (written k.cell f s).contents p [] ≡ get_or s.contents p []
  keeps_theirs o f p g =
      written_keeps (λ u. get_or u.contents p [] ≡ get_or s.contents p []) k.cell f s
      (λ a b u z. behind_other _ (f a b) u p (λ q c d y x. apart q c d a b y x) ∙ z) refl
    where
      apart : (q : ℕ) (c d : Bool) (a b : ℕ) → slot_in s.entries (table_at s.entries k.cell a) b ≡ closed q c d → q ≢ p
      apart q c d a b y x =
          let z = holds_theirs os s q k.cell (sees l s k.cell i (runs_now l s k i e).live a b q c d y) in
          grind (arith, ap (theirs os s) x, z)

-- Two states after runs that wrote nothing of theirs, and the same into open pages.
ran_like : (os : Observer) (s t s' t' : State) → Like os s t → SamePages s s' → SamePages t t' → s'.open_pages ≡ t'.open_pages →
    ((p : ℕ) → theirs os s p ≡ true → Agree s' s p) → ((p : ℕ) → theirs os t p ≡ true → Agree t' t p) → Like os s' t'
ran_like os s t s' t' h a b o f g = record {
  pages = record {
    same = record {
      long = rw (a.entries, b.entries) h.pages.same.long;
      public = rw (a.entries, b.entries) h.pages.same.public;
    };
    own = rw (a.entries, b.entries) h.pages.own;
    holds = λ p i j.
        let i' : theirs os s p ≡ true = rw a.entries at i in
        let k : theirs os t p ≡ true = rw (same_kind s t h.pages.same p) at i' in
        f p i' ∙ (h.pages.holds p i' (rw a.entries at j) ∙ sym (g p k));
  };
  beside = record {
    long = a.contents_long ∙ (h.beside.long ∙ sym b.contents_long);
    open_pages = o;
    running = a.running ∙ (h.beside.running ∙ sym b.running);
  };
}

-- Both worlds can be, and look alike; the thread of k runs in them.
module _ (inv : InvariantHolds) (reg : RegistersGood) (l : Limits) (m : Machine) (os : Observer) (v w : World) (g : GoodMachine l m)
    (rv : Reachable l m v) (rw' : Reachable l m w) (A : Alike l os v w) (k : Caller) (e : caller v.state ≡ Some k) where
  start : Like os v.state w.state
  start = to_like l os v w (sizes l m v rv) (sizes l m w rw') A

  runs_too : caller w.state ≡ Some k
  runs_too = sym (one_caller v.state w.state start.pages.same l start.beside.running) ∙ e

  runs_first : Runs v.state k
  runs_first = runs_now l v.state k (inv l m v g rv) e

  ran_pages : (u : World) (x : ℕ) → SamePages u.state (after_run m u k.cell x)
  ran_pages u x = written_pages k.cell (ran m u k.cell x).words u.state

  caller_then : (x : ℕ) → caller (after_run m v k.cell x) ≡ Some k
  caller_then x = caller_after v.state (after_run m v k.cell x) (ran_pages v x) ∙ e

  runs_then : (x : ℕ) → Runs (after_run m v k.cell x) k
  runs_then x =
      let d = (ran_pages v x).entries in
      record { thread = rw d runs_first.thread; first = rw d runs_first.first; live = rw d runs_first.live }

  fits : (u : World) → Reachable l m u → caller u.state ≡ Some k → (x : ℕ) → cell_fits (ending m u k.cell x) ≡ true
  fits u r c x = (runs_well inv reg l m u g r k c x).ends_well

  pub run_own : (x : ℕ) → among os (Some k.cell) ≡ true →
      (run_answer l m v k.cell x ≡ run_answer l m w k.cell x) × Alike l os (by_run l m v k.cell x) (by_run l m w k.cell x)
  unfolding cell_by
  run_own x o =
      let c = k.cell in
      let s = after_run m v c x in
      let t = after_run m w c x in
      let i = inv l m v g rv in
      let theirs_run : runs_theirs os v.state ≡ true = ap (λ q. among os (cell_by q)) e ∙ o in
      let same_ran : ran m v c x ≡ ran m w c x =
      ap₂ (λ rs u. m.runs rs u x) (A.registers theirs_run) (sight_same l os v.state w.state start k i e o) in
      let f = (ran m v c x).words in
      let wrote = written_both (Like os) c f v.state w.state (same_slots v.state w.state start.pages.same)
      (same_tables v.state w.state start.pages.same c) (behind_like os) start in
      let same : Like os s t = subst (λ r. Like os s (written c r.words w.state)) same_ran wrote in
      let end : ending m v c x ≡ ending m w c x = ap (λ r. ended_by r.registers r.ends) same_ran in
      let told : run_answer l m v c x ≡ run_answer l m w c x =
      answer_same l os s t same k (caller_then x) (runs_then x) o (ending m v c x) ∙ ap (λ d. answer l t (by_cell d)) end in
      let then = ends_own l os s t same k (caller_then x) (ending m v c x) (fits v rv e x) in (
        told,
        from_like l os (by_run l m v c x) (by_run l m w c x)
            (subst (λ d. Like os (after l s (by_cell (ending m v c x))) (after l t (by_cell d))) end then)
            (λ z. ap₂ (λ r a. registers_after m r.registers a) same_ran told),
      )

  -- The thread that runs is not theirs, and none of theirs runs then.
  not_theirs : (s : State) → Runs s k → among os (Some k.cell) ≡ false → theirs os s k.thread ≡ false
  unfolding kind_number part_of
  not_theirs s r o = rw r.thread o

  none_then : (x : ℕ) → among os (Some k.cell) ≡ false → runs_theirs os (by_run l m v k.cell x).state ≡ false
  none_then x o = elim (goes_on_as l (after_run m v k.cell x) k (runs_then x) (caller_then x) (ending m v k.cell x)) [
    | inl z ↦ ap (among os) z ∙ none_among os
    | inr z ↦ ap (among os) z ∙ o
  ]

  pub run_other : (x y : ℕ) → among os (Some k.cell) ≡ false → SameGiven l m v w k.cell x y →
      (to_system (run_answer l m v k.cell x) ≡ to_system (run_answer l m w k.cell y))
      × Alike l os (by_run l m v k.cell x) (by_run l m w k.cell y)
  run_other x y o z =
      let s = after_run m v k.cell x in
      let t = after_run m w k.cell y in
      let same = ran_like os v.state w.state s t start (ran_pages v x) (ran_pages w y) z.open_pages
      (keeps_theirs l os v.state k (inv l m v g rv) e o (ran m v k.cell x).words)
      (keeps_theirs l os w.state k (inv l m w g rw') runs_too o (ran m w k.cell y).words) in
      let both = ends_other l os s t same k (caller_then x) (ending m v k.cell x) (ending m w k.cell y) z.ends (fits v rv e x)
      (fits w rw' runs_too y) (not_theirs s (runs_then x) o) in
      (both.0, from_like l os _ _ both.1 (λ h. absurd (grind (arith, none_then x o, h))))
