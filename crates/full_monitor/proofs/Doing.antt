-- From what a room did to what the program does.
use Rattle.std.proofs.Common.{◌≡◌, ℕ, true, false, List, [], is_some, Some, None, Ok, Err, Option, Result, unwrap_or, sym, refl, ap, ◌∙◌, ap₂, arith}
use borrow.Author.Tests.{clash}
use Rattle.answers.specs.declared.reason.Reason.{Reason}
use Rattle.model.specs.Calls.{SystemCall, CellCall, Call, by_system, by_cell, garbled}
use Rattle.model.specs.Answers.{Answer, refused, done, enters, told}
use Rattle.model.specs.Refusals.{Check, failing}
use Rattle.pages.specs.Rows.{running_in, running_put}
use Rattle.lookups.specs.Lookups.{thread_of, caller, caller_of}
use Rattle.lookups.specs.Outcomes.{Taken}
use Rattle.lookups.specs.declared.Caller.{Caller}
use Rattle.running.specs.Made.{top_for, Entered}
use Rattle.running.specs.declared.Entry.{Entry}
use Rattle.full_monitor.specs.Program.{fits, system_checks, system_memory, system_pages, system_reply, cell_checks}
use Rattle.full_monitor.specs.Program.{cell_memory, cell_pages, cell_reply, unless, reply_unless, system_failing, cell_failing}
use Rattle.full_monitor.specs.Program.{caller_memory, caller_pages, caller_reply, says, leaves, leaves_pages, Does}
use Rattle.full_monitor.specs.Outcomes.{done_by, entered_by, told_by}

pub same : {A : Type 0} (x : A) (o : Option ℕ) → x ≡ unless x x o
same x None = refl
same x (Some k) = refl

-- a room's outcome
pub taken_leaves : {A B : Type 0} (cs : List Check) (before made after : A) (r : Result B Reason) → Taken cs before made after r →
    after ≡ unless made before (failing cs)
taken_leaves cs b m a (Ok x) t = t.1 ∙ sym (ap (unless m b) t.0)
taken_leaves cs b m a (Err r) t = t.1 ∙ sym (ap (unless m b) t.0)

pub taken_done : {A : Type 0} (cs : List Check) (before made after : A) (r : Result (Unit {0}) Reason) → Taken cs before made after r →
    done_by r ≡ reply_unless done (failing cs)
taken_done cs b m a (Ok x) t = sym (ap (reply_unless done) t.0)
taken_done cs b m a (Err r) t = sym (ap (reply_unless done) t.0)

pub taken_told : {A : Type 0} (cs : List Check) (before made after : A) (r : Result (Unit {0}) Reason) → Taken cs before made after r →
    told_by r ≡ told (unwrap_or (failing cs) 0) []
taken_told cs b m a (Ok x) t = sym (ap (λ o. told (unwrap_or o 0) []) t.0)
taken_told cs b m a (Err r) t = sym (ap (λ o. told (unwrap_or o 0) []) t.0)

pub entered_says : (cs : List Check) (m : List ℕ) (t : ℕ) (rs after : List ℕ) (r : Result Entry Reason) → Entered cs m t rs after r →
    entered_by r ≡ reply_unless (enters (top_for m (thread_of m t)) rs) (failing cs)
entered_says cs m t rs a (Ok e) h = ap₂ enters h.2 h.3 ∙ sym (ap (reply_unless (enters (top_for m (thread_of m t)) rs)) h.0)
entered_says cs m t rs a (Err r) h = sym (ap (reply_unless (enters (top_for m (thread_of m t)) rs)) h.0)

pub entered_leaves : (cs : List Check) (m : List ℕ) (t : ℕ) (rs after : List ℕ) (r : Result Entry Reason) → Entered cs m t rs after r →
    after ≡ unless (running_put m (Some t)) m (failing cs)
entered_leaves cs m t rs a (Ok e) h = h.1 ∙ sym (ap (unless (running_put m (Some t)) m) h.0)
entered_leaves cs m t rs a (Err r) h = h.1 ∙ sym (ap (unless (running_put m (Some t)) m) h.0)

-- one who calls runs
pub calls_run : (m : List ℕ) (k : Caller) → caller m ≡ Some k → is_some (running_in m) ≡ true
calls_run m k h = by (running_in m) h
  where
    by : (o : Option ℕ) → caller_of m o ≡ Some k → is_some o ≡ true
    by None e = absurd (grind (arith, e))
    by (Some t) e = refl

module _ (m cs os : List ℕ) (q : Call) (f : fits q ≡ true) where
  -- a call by the system, while none runs
  module _ (c : SystemCall) (e : q ≡ by_system c) (idle : running_in m ≡ None) where
    system_all : system_failing m c ≡ failing (system_checks m c)
    system_all = rw (sym (ap fits e) ∙ f, idle) refl

    pub system_does : (a : Answer) (after closed : List ℕ) → a ≡ reply_unless (system_reply m c) (failing (system_checks m c)) →
        after ≡ unless (system_memory m os c) m (failing (system_checks m c)) →
        closed ≡ unless (system_pages cs os c) cs (failing (system_checks m c)) → Does m cs os q a after closed
    unfolding says leaves leaves_pages
    system_does a n d x y z = record {
      answer = x ∙ ap (reply_unless (system_reply m c)) (sym system_all) ∙ ap (says m cs os) (sym e);
      memory = y ∙ ap (unless (system_memory m os c) m) (sym system_all) ∙ ap (leaves m cs os) (sym e);
      pages = z ∙ ap (unless (system_pages cs os c) cs) (sym system_all) ∙ ap (leaves_pages m cs os) (sym e);
    }

    pub done_does : (r : Result (Unit {0}) Reason) (a : Answer) (after : List ℕ) → a ≡ done_by r →
        Taken (system_checks m c) m (system_memory m os c) after r → system_reply m c ≡ done → cs ≡ system_pages cs os c →
        Does m cs os q a after cs
    done_does r a n d t x y =
        system_does a n cs (d ∙ taken_done (system_checks m c) m (system_memory m os c) n r t
        ∙ ap (λ z. reply_unless z (failing (system_checks m c))) (sym x))
        (taken_leaves (system_checks m c) m (system_memory m os c) n r t)
        (same cs (failing (system_checks m c)) ∙ ap (λ z. unless z cs (failing (system_checks m c))) y)

    pub entered_does : (t : ℕ) (rs : List ℕ) (r : Result Entry Reason) (a : Answer) (after : List ℕ) → a ≡ entered_by r →
        Entered (system_checks m c) m t rs after r → system_reply m c ≡ enters (top_for m (thread_of m t)) rs →
        system_memory m os c ≡ running_put m (Some t) → cs ≡ system_pages cs os c → Does m cs os q a after cs
    entered_does t rs r a n d h x y z =
        system_does a n cs (d ∙ entered_says (system_checks m c) m t rs n r h
        ∙ ap (λ b. reply_unless b (failing (system_checks m c))) (sym x))
        (entered_leaves (system_checks m c) m t rs n r h ∙ ap (λ b. unless b m (failing (system_checks m c))) (sym y))
        (same cs (failing (system_checks m c)) ∙ ap (λ b. unless b cs (failing (system_checks m c))) z)

  -- a call by a cell, while one runs
  module _ (k : Caller) (c : CellCall) (e : q ≡ by_cell c) (calls : caller m ≡ Some k) where
    cell_all : cell_failing m c ≡ None
    cell_all = rw (sym (ap fits e) ∙ f, calls) refl

    pub cell_does : (a : Answer) (after closed : List ℕ) → a ≡ cell_reply m k c →
        after ≡ unless (cell_memory m k c) m (failing (cell_checks m k c)) →
        closed ≡ unless (cell_pages cs c) cs (failing (cell_checks m k c)) → Does m cs os q a after closed
    unfolding says leaves leaves_pages
    cell_does a n d x y z = record {
      answer = x ∙ ap (caller_reply m c) (sym calls) ∙ ap (reply_unless (caller_reply m c (caller m))) (sym cell_all)
          ∙ ap (says m cs os) (sym e);
      memory = y ∙ ap (caller_memory m c) (sym calls) ∙ ap (unless (caller_memory m c (caller m)) m) (sym cell_all)
          ∙ ap (leaves m cs os) (sym e);
      pages = z ∙ ap (caller_pages m cs c) (sym calls) ∙ ap (unless (caller_pages m cs c (caller m)) cs) (sym cell_all)
          ∙ ap (leaves_pages m cs os) (sym e);
    }

    pub told_does : (r : Result (Unit {0}) Reason) (a : Answer) (after : List ℕ) → a ≡ told_by r →
        Taken (cell_checks m k c) m (cell_memory m k c) after r →
        cell_reply m k c ≡ told (unwrap_or (failing (cell_checks m k c)) 0) [] → cs ≡ cell_pages cs c → Does m cs os q a after cs
    told_does r a n d t x y =
        cell_does a n cs (d ∙ taken_told (cell_checks m k c) m (cell_memory m k c) n r t ∙ sym x)
        (taken_leaves (cell_checks m k c) m (cell_memory m k c) n r t)
        (same cs (failing (cell_checks m k c)) ∙ ap (λ b. unless b cs (failing (cell_checks m k c))) y)

  -- a call by the wrong one: refused by 14, and nothing is changed
  pub cell_waits : (c : CellCall) → q ≡ by_cell c → caller m ≡ None →
      Does m cs os q (refused (record { number = 14; place = 0 })) m cs
  unfolding says leaves leaves_pages
  cell_waits c e none =
      let all : cell_failing m c ≡ Some 14 = rw (sym (ap fits e) ∙ f, none) refl in
      record {
        answer = ap (reply_unless (caller_reply m c (caller m))) (sym all) ∙ ap (says m cs os) (sym e);
        memory = ap (unless (caller_memory m c (caller m)) m) (sym all) ∙ ap (leaves m cs os) (sym e);
        pages = ap (unless (caller_pages m cs c (caller m)) cs) (sym all) ∙ ap (leaves_pages m cs os) (sym e);
      }

  pub system_waits : (c : SystemCall) → q ≡ by_system c → is_some (running_in m) ≡ true →
      Does m cs os q (refused (record { number = 14; place = 0 })) m cs
  unfolding says leaves leaves_pages
  system_waits c e runs =
      let all : system_failing m c ≡ Some 14 = rw (sym (ap fits e) ∙ f, runs) refl in
      record {
        answer = ap (reply_unless (system_reply m c)) (sym all) ∙ ap (says m cs os) (sym e);
        memory = ap (unless (system_memory m os c) m) (sym all) ∙ ap (leaves m cs os) (sym e);
        pages = ap (unless (system_pages cs os c) cs) (sym all) ∙ ap (leaves_pages m cs os) (sym e);
      }

-- a call that is out of range: refused by 2, and nothing is changed
pub out_of_range : (m cs os : List ℕ) (q : Call) → fits q ≡ false → Does m cs os q (refused (record { number = 2; place = 0 })) m cs
unfolding says leaves leaves_pages
out_of_range m cs os (by_system c) f = record { answer = rw f refl; memory = rw f refl; pages = rw f refl }
out_of_range m cs os (by_cell c) f = record { answer = rw f refl; memory = rw f refl; pages = rw f refl }
out_of_range m cs os (garbled n) f = absurd (clash (sym f))
