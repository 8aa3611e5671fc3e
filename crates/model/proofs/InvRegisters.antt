-- The registers of what runs are good: after every call, with what it is answered.
use Rattle.std.proofs.Common.{◌≡◌, ℕ, true, List, [], ◌∷◌, ◌++◌, replicate, is_some, Some, None, Option, refl, arith}
use Rattle.model.specs.Calls.{SystemCall, CellCall, Call, by_system, by_cell, garbled, how_many, new_cell, new_thread, new_table, hold}
use Rattle.model.specs.Calls.{give, show, remove, seal, stop, enter, resume, leave, interrupt, fault, grow, shrink, extend, who, draw}
use Rattle.model.specs.Answers.{Refusal, Answer}
use Rattle.model.specs.Pages.{sealed, Cell, Thread, Entry, thread, thread_of, kind, part_of, cell_in, cell_is, thread_in}
use Rattle.model.specs.State.{Limits, State, entry, word, all_words, seventeen, Caller, caller, caller_by, owner, owner_by, apply_all}
use Rattle.model.specs.Refusals.{refusal, checks, thread_there, may_run, system_checks, system_fits, failing, cell_checks}
use Rattle.model.specs.Monitor.{answer, after, changed, reply, answer_or, edits_or, system_edits, system_reply, caller_edits, caller_reply}
use Rattle.model.specs.Monitor.{cell_edits, cell_reply, entered, first_registers, kept_registers}
use Rattle.model.specs.Machine.{Machine, GoodMachine}
use Rattle.model.specs.Worlds.{registers_after, PossibleCall}
use Rattle.model.specs.Invariant.{EntryFits}
use Rattle.model.proofs.Effects.{Pass, passed}
use Rattle.model.proofs.InvRuns.{may_enter}

-- The thread on a page, and the cell.
thread_is : (x : Entry) (c : ℕ) → kind x ≡ thread_of c → (y : Thread) × (thread_in x ≡ Some y) × (x ≡ thread y)
unfolding kind thread_in
thread_is x c h = go (thread_in x) refl
  where
    go : (o : Option Thread) → thread_in x ≡ o → (y : Thread) × (thread_in x ≡ Some y) × (x ≡ thread y)
    go None e = absurd (grind arith)
    go (Some y) e = (y, e, grind arith)

cell_some : (o : Option Cell) → cell_is sealed o ≡ true → (x : Cell) × (o ≡ Some x)
unfolding cell_is
cell_some None h = absurd (grind (arith, h))
cell_some (Some x) h = (x, refl)

first_seventeen : (x y z a : ℕ) → word x ≡ true → word y ≡ true → word z ≡ true → word a ≡ true →
    seventeen (x ∷ y ∷ z ∷ (replicate 12 0 ++ (a ∷ 0 ∷ []))) ≡ true
unfolding all_words
first_seventeen x y z a h i j k = rw (h, i, j, k)

module _ (l : Limits) (m : Machine) (g : GoodMachine l m) (s : State) (rs : List ℕ) (fits : (p : ℕ) → EntryFits l (entry s p))
    (was : is_some s.running ≡ true → g.good rs ≡ true) where
  abbrev GoodAfter : State → Answer → Type 0
  GoodAfter t a = is_some t.running ≡ true → g.good (registers_after m rs a) ≡ true

  -- It is enough to look at a call that is not refused.
  unless_refused : (c : Call) → (refusal l s c ≡ None → GoodAfter (apply_all s (changed l s c)) (reply l s c)) →
      GoodAfter (after l s c) (answer l s c)
  unfolding answer_or edits_or registers_after
  unless_refused c h = go (refusal l s c) refl
    where
      go : (x : Option Refusal) → refusal l s c ≡ x → GoodAfter (apply_all s (edits_or (changed l s c) x)) (answer_or (reply l s c) x)
      go None e = h e
      go (Some r) e = was

  -- A thread is entered, with seventeen registers that are words.
  entered_good : (t : ℕ) (qs : Option Thread → List ℕ) → thread_there l s t ≡ true → may_run s t ≡ true →
      ((y : Thread) → (word y.start ≡ true) × (seventeen y.registers ≡ true) → seventeen (qs (Some y)) ≡ true) →
      g.good (registers_after m rs (entered (owner s t) (qs (thread_in (entry s t))))) ≡ true
  unfolding entered registers_after owner_by part_of EntryFits
  entered_good t qs h k f =
      let e = may_enter l s t h k in
      let y = thread_is (entry s t) e.0 e.1 in
      let x = cell_some (cell_in (entry s e.0)) e.2 in
      rw (e.1, x.1, y.1) (g.seventeen_are (qs (Some y.0)) (f y.0 (rw y.2 at (fits t))))

  taken_good : (c : SystemCall) → Pass (system_checks l s c) → system_fits l c ≡ true →
      GoodAfter (apply_all s (system_edits l s c)) (system_reply l s c)
  unfolding system_edits system_reply system_checks system_fits registers_after first_registers kept_registers
  taken_good how_many h f = was
  taken_good (new_cell p t) h f = was
  taken_good (new_thread p c a) h f = was
  taken_good (new_table p c i) h f = was
  taken_good (hold p c w o) h f = was
  taken_good (give p c) h f = was
  taken_good (show o c w) h f = was
  taken_good (remove p) h f = was
  taken_good (seal c) h f = was
  taken_good (stop c) h f = was
  taken_good (enter t x y z) h f = λ i. entered_good t (λ o. first_registers o x y z) h.0 h.1.0
      (λ u k. first_seventeen x y z u.start (grind arith) (grind arith) (grind arith) k.0)
  taken_good (resume t) h f = λ i. entered_good t kept_registers h.0 h.1.0 (λ u k. k.1)

  -- A cell calls, whose registers are seventeen words.
  module _ (e : seventeen rs ≡ true) where
    told_good : (k : Caller) (c : CellCall) →
        GoodAfter (apply_all s (edits_or (cell_edits l k c) (failing (cell_checks l s k c)))) (cell_reply l s k c)
    unfolding cell_edits cell_reply cell_checks edits_or registers_after
    told_good k (leave n) h = absurd (grind (arith, h))
    told_good k (interrupt qs) h = absurd (grind (arith, h))
    told_good k (fault n) h = absurd (grind (arith, h))
    told_good k (grow p w) h = g.goes_on_well rs _ _ e
    told_good k (shrink p w) h = g.goes_on_well rs _ _ e
    told_good k (extend p i) h = g.goes_on_well rs _ _ e
    told_good k who h = g.goes_on_well rs _ _ e
    told_good k (draw n) h = g.goes_on_well rs _ _ e

    pub cell_registers : (c : CellCall) → GoodAfter (after l s (by_cell c)) (answer l s (by_cell c))
    unfolding reply changed caller_reply caller_edits registers_after
    cell_registers c = unless_refused (by_cell c) (λ n. go (caller s))
      where
        go : (k : Option Caller) → GoodAfter (apply_all s (caller_edits l s c k)) (caller_reply l s c k)
        go None = was
        go (Some k) = told_good k c

  pub call_registers : (c : Call) → PossibleCall s c → GoodAfter (after l s c) (answer l s c)
  unfolding reply changed checks registers_after PossibleCall caller_by caller_edits caller_reply
  call_registers (by_system c) o =
      unless_refused (by_system c) (λ n. let k = passed l s (by_system c) n in taken_good c k.1.1 (grind (arith, k.0)))
  call_registers (by_cell c) o = unless_refused (by_cell c) (λ n. go s.running o)
    where
      go : (r : Option ℕ) → r ≡ None →
          let k : Option Caller = caller_by s.entries r in GoodAfter (apply_all s (caller_edits l s c k)) (caller_reply l s c k)
      go None i = was
      go (Some t) i = absurd (grind (arith, i))
  call_registers (garbled n) o = unless_refused (garbled n) (λ n. was)
