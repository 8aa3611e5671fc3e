-- The program does with a cell's calls what the definitions say.
use Rattle.std.proofs.Common.{◌≡◌, ℕ, ◌<◌, Bool, true, false, ◌&&◌, eqb, ltb, List, [], length, is_some, Some, None, Option, unwrap_or, sym, refl, ap, ◌∙◌, arith, ltb-false, ltb-true, eqb-true}
use Rattle.std.specs.Option.{option_map}
use Rattle.std.proofs.lemmas.List.{get_or_past}
use Rattle.std.proofs.lemmas.Bool.{and_parts}
use Rattle.model.specs.Calls.{CellCall, by_cell, cell_number, leave, interrupt, fault, grow, shrink, extend, who, draw}
use Rattle.model.specs.Answers.{Refusal, told}
use Rattle.model.specs.Pages as pages
use Rattle.model.specs.Pages.{Entry, free, thread, kind, thread_of}
use Rattle.model.specs.State.{Limits, State, entry, apply_all, Caller, caller, all_words, Edit}
use Rattle.model.specs.Refusals as refusals
use Rattle.model.specs.Refusals.{failing, checks, place}
use Rattle.model.specs.Monitor as model
use Rattle.model.specs.Monitor.{cell_edits, caller_edits, edits_or, changed, reply}
use Rattle.model.proofs.Effects.{passes}
use Rattle.model.proofs.ConfRunning.{Runs, runs_now}
use Rattle.pages.specs.Flat.{flat}
use Rattle.pages.specs.Layout.{encode}
use Rattle.lookups.specs.Lookups as look
use Rattle.lookups.proofs.Checking.{check}
use Rattle.lookups.proofs.Right.{Known, the_first, shown_caller, caller_right}
use Rattle.running.proofs.Written.{ended_written, name_right}
use Rattle.growing.proofs.Checked.{grow_checked, shrink_checked, extend_checked}
use Rattle.growing.proofs.Written.{grown_written, pages_grown, shrunk_written, extended_written}
use Rattle.full_monitor.specs.Program as program
use Rattle.full_monitor.specs.Program.{unless, reply_unless}
use Rattle.full_monitor.proofs.RightSystem.{unless_same, reply_same}

the_thread : (x : Entry) (c : ℕ) → kind x ≡ thread_of c → (h : pages.Thread) × (x ≡ thread h)
unfolding kind
the_thread free c e = absurd (grind (arith, e))
the_thread (pages.cell x) c e = absurd (grind (arith, e))
the_thread (thread x) c e = (x, refl)
the_thread (pages.top x) c e = absurd (grind (arith, e))
the_thread (pages.table x) c e = absurd (grind (arith, e))
the_thread (pages.held x) c e = absurd (grind (arith, e))
the_thread (pages.spare x) c e = absurd (grind (arith, e))

fits_same : (c : CellCall) → program.cell_fits c ≡ refusals.cell_fits c
unfolding refusals.cell_fits
fits_same c = grind arith

module _ (l : Limits) (s : State) (k : Known l s) where
  abbrev m : List ℕ
  m = encode l s

  -- a page that is something is there
  low : (p : ℕ) (x : Entry) → entry s p ≡ x → pages.is_free x ≡ false → p < length s.entries
  unfolding kind pages.kind_number
  low p x e f = by (ltb p (length s.entries)) refl
    where
      by : (b : Bool) → ltb p (length s.entries) ≡ b → p < length s.entries
      by true h = ltb-true p (length s.entries) h
      by false h =
          let q : free ≡ x = sym (get_or_past s.entries p free (ltb-false p (length s.entries) h)) ∙ e in
          absurd (grind (arith, f, q))

  -- One who calls.
  module _ (j : Caller) (calls : caller s ≡ Some j) where
    runs : Runs s j
    runs = runs_now l s j k.invariant calls

    checks_right : (c : CellCall) → failing (program.cell_checks m (shown_caller s j) c) ≡ failing (refusals.cell_checks l s j c)
    unfolding refusals.cell_checks
    checks_right (leave n) = refl
    checks_right (interrupt rs) = refl
    checks_right (fault n) = refl
    checks_right (grow p w) = grow_checked l s k j calls p w
    checks_right (shrink p w) = shrink_checked l s k j calls p w
    checks_right (extend p i) = extend_checked l s k j calls p i
    checks_right who = refl
    checks_right (draw n) = refl

    memory_right : (c : CellCall) → refusals.cell_fits c ≡ true → failing (refusals.cell_checks l s j c) ≡ None →
        program.cell_memory m (shown_caller s j) c ≡ encode l (apply_all s (cell_edits l j c))
    unfolding refusals.cell_fits cell_edits kind pages.kind_number
    memory_right (leave n) f h =
        let t = the_thread (entry s j.thread) j.cell runs.thread in
        ended_written l s k j.thread t.0 false _ t.1 (low j.thread (thread t.0) t.1 refl) refl
    memory_right (interrupt rs) f h =
        let t = the_thread (entry s j.thread) j.cell runs.thread in
        ended_written l s k j.thread t.0 true rs t.1 (low j.thread (thread t.0) t.1 refl)
        (eqb-true (length rs) 17 (and_parts (eqb (length rs) 17) (all_words rs) f).0)
    memory_right (fault n) f h =
        let t = the_thread (entry s j.thread) j.cell runs.thread in
        ended_written l s k j.thread t.0 false _ t.1 (low j.thread (thread t.0) t.1 refl) refl
    memory_right (grow p w) f h = grown_written l s k j calls p w h
    memory_right (shrink p w) f h = shrunk_written l s k j calls p w h
    memory_right (extend p i) f h = extended_written l s k j calls p i h
    memory_right who f h = refl
    memory_right (draw n) f h = refl

    pages_right : (c : CellCall) → failing (refusals.cell_checks l s j c) ≡ None →
        program.cell_pages (flat s.contents) c ≡ flat (apply_all s (cell_edits l j c)).contents
    unfolding cell_edits
    pages_right (leave n) h = refl
    pages_right (interrupt rs) h = refl
    pages_right (fault n) h = refl
    pages_right (grow p w) h = pages_grown l s k j calls p w h
    pages_right (shrink p w) h = refl
    pages_right (extend p i) h = refl
    pages_right who h = refl
    pages_right (draw n) h = refl

    reply_right : (c : CellCall) → program.cell_reply m (shown_caller s j) c ≡ model.cell_reply l s j c
    unfolding model.cell_reply kind pages.kind_number
    reply_right (leave n) = refl
    reply_right (interrupt rs) = refl
    reply_right (fault n) = refl
    reply_right (grow p w) = ap (λ o. told (unwrap_or o 0) []) (checks_right (grow p w))
    reply_right (shrink p w) = ap (λ o. told (unwrap_or o 0) []) (checks_right (shrink p w))
    reply_right (extend p i) = ap (λ o. told (unwrap_or o 0) []) (checks_right (extend p i))
    reply_right who =
        let y = the_first (entry s j.cell) runs.first in
        ap (told 0) (name_right l s k j.cell y.0 y.1 (low j.cell (pages.cell y.0) y.1 refl))
    reply_right (draw n) = refl

  -- the same, whoever calls, and if none does
  caller_reply : (c : CellCall) → program.caller_reply m c (look.caller m) ≡ model.caller_reply l s c (caller s)
  unfolding model.caller_reply
  caller_reply c = ap (program.caller_reply m c) (caller_right l s k) ∙ by (caller s) refl
    where
      by : (o : Option Caller) → caller s ≡ o → program.caller_reply m c (option_map (shown_caller s) o) ≡ model.caller_reply l s c o
      by None e = refl
      by (Some j) e = reply_right j e c

  unless_edits : (A : Type 0) (f : State → A) (es : List Edit) (o : Option ℕ)
      → unless (f (apply_all s es)) (f s) o ≡ f (apply_all s (edits_or es o))
  unfolding edits_or
  unless_edits A f es None = refl
  unless_edits A f es (Some n) = refl

  caller_memory : (c : CellCall) → refusals.cell_fits c ≡ true →
      program.caller_memory m c (look.caller m) ≡ encode l (apply_all s (caller_edits l s c (caller s)))
  unfolding caller_edits
  caller_memory c f = ap (program.caller_memory m c) (caller_right l s k) ∙ by (caller s) refl
    where
      by : (o : Option Caller) → caller s ≡ o →
          program.caller_memory m c (option_map (shown_caller s) o) ≡ encode l (apply_all s (caller_edits l s c o))
      by None e = refl
      by (Some j) e =
          ap (unless _ m) (checks_right j e c)
          ∙ unless_same _ _ m (failing (refusals.cell_checks l s j c)) (memory_right j e c f)
          ∙ unless_edits (List ℕ) (encode l) (cell_edits l j c) (failing (refusals.cell_checks l s j c))

  caller_pages : (c : CellCall) →
      program.caller_pages m (flat s.contents) c (look.caller m) ≡ flat (apply_all s (caller_edits l s c (caller s))).contents
  unfolding caller_edits
  caller_pages c = ap (program.caller_pages m (flat s.contents) c) (caller_right l s k) ∙ by (caller s) refl
    where
      by : (o : Option Caller) → caller s ≡ o →
          program.caller_pages m (flat s.contents) c (option_map (shown_caller s) o) ≡ flat (apply_all s (caller_edits l s c o)).contents
      by None e = refl
      by (Some j) e =
          ap (unless _ (flat s.contents)) (checks_right j e c)
          ∙ unless_same _ _ (flat s.contents) (failing (refusals.cell_checks l s j c)) (pages_right j e c)
          ∙ unless_edits (List ℕ) (λ t. flat t.contents) (cell_edits l j c) (failing (refusals.cell_checks l s j c))

  module _ (can : (n : ℕ) → l.can n ≡ true) where
    some_caller : (o : Option Caller) → is_some (option_map (shown_caller s) o) ≡ is_some o
    some_caller None = refl
    some_caller (Some j) = refl

    failing_right : (c : CellCall) → program.cell_failing m c ≡ failing (checks l s (by_cell c))
    unfolding checks
    failing_right c =
        check _ _ _ _ _ (fits_same c ∙ sym (ap (λ b. b && refusals.cell_fits c) (can (cell_number c)))) (λ _.
        check _ _ _ _ _ (ap is_some (caller_right l s k) ∙ some_caller (caller s)) (λ _. refl))

    fitting : (c : CellCall) → failing (checks l s (by_cell c)) ≡ None → refusals.cell_fits c ≡ true
    unfolding checks
    fitting c h = (and_parts (l.can (cell_number c)) (refusals.cell_fits c) (passes (checks l s (by_cell c)) h).0).1

    pub says_cell : (c : CellCall) → program.says m (flat s.contents) (flat s.open_pages) (by_cell c) ≡ model.answer l s (by_cell c)
    unfolding program.says reply place
    says_cell c =
        ap (reply_unless (program.caller_reply m c (look.caller m))) (failing_right c)
        ∙ reply_same _ _ (failing (checks l s (by_cell c))) (λ h. caller_reply c)

    edits_unless : (A : Type 0) (f : State → A) (c : CellCall) (o : Option ℕ) →
        unless (f (apply_all s (caller_edits l s c (caller s)))) (f s) o
        ≡ f (apply_all s (edits_or {A = Refusal} (changed l s (by_cell c))
        (option_map (λ n. record { number = n; place = place (by_cell c) }) o)))
    unfolding edits_or changed
    edits_unless A f c None = refl
    edits_unless A f c (Some n) = refl

    pub leaves_cell : (c : CellCall) →
        program.leaves m (flat s.contents) (flat s.open_pages) (by_cell c) ≡ encode l (model.after l s (by_cell c))
    unfolding program.leaves
    leaves_cell c =
        ap (unless _ m) (failing_right c)
        ∙ unless_same _ _ m (failing (checks l s (by_cell c))) (λ h. caller_memory c (fitting c h))
        ∙ edits_unless (List ℕ) (encode l) c (failing (checks l s (by_cell c)))

    pub pages_cell : (c : CellCall) →
        program.leaves_pages m (flat s.contents) (flat s.open_pages) (by_cell c) ≡ flat (model.after l s (by_cell c)).contents
    unfolding program.leaves_pages
    pages_cell c =
        ap (unless _ (flat s.contents)) (failing_right c)
        ∙ unless_same _ _ (flat s.contents) (failing (checks l s (by_cell c))) (λ h. caller_pages c)
        ∙ edits_unless (List ℕ) (λ t. flat t.contents) c (failing (checks l s (by_cell c)))
