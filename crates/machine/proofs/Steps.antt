-- A run, step by step.
use Rattle.std.proofs.Common.{◌≡◌, ℕ, suc, ◌+◌, ◌-◌, ◌*◌, ◌<◌, List, get_or, Some, None, sym, refl, ap, ◌∙◌, subst, ap₂, arith}
use Rattle.std.specs.Option.{option_map}
use Rattle.std.specs.declared.ops.ControlFlow.{ControlFlow}
use Rattle.std.specs.declared.ops.ControlFlow.TheVariants.{Continue, Break}
use Rattle.fields.specs.declared.values.Registers.{Registers}
use Rattle.model.specs.Calls.{by_cell}
use Rattle.model.specs.Processor.{Step, moves, stores, asks, Came, then, steps}
use Rattle.calls.specs.Meaning.{call_of}
use Rattle.calls.specs.declared.call.Call.{Call}
use Rattle.machine.specs.Instructions.{made_up}
use Rattle.full_pages.specs.Meaning.{Sized}
use Rattle.machine.specs.Lent.{Words, lent, looked}
use Rattle.machine.specs.Held.{words_of, sees, Whole, Kept}
use Rattle.machine.specs.declared.seeing.Lent.{Lent}
use Rattle.machine.specs.Came.{Runs, left, ended_with, step_registers, step_ends, step_words, Comes, run_of}
use Rattle.machine.specs.declared.values.Ran.{Ran}

module _ (m : List ℕ) (t : ℕ) (go : List ℕ → Words → Came Words) (w : Words) where
  -- it did not end
  went : (s : Step) → step_ends s ≡ None → then (lent m t) go w s ≡ go (step_registers s) (step_words m t w s)
  unfolding then
  went (moves rs) h = refl
  went (stores rs x v) h = refl
  went (asks rs c) h = absurd (grind (arith, h))

  -- it ended, with a call
  pub record Ended (s : Step) (e : Call) : Type 0 where
    pub registers : (then (lent m t) go w s).registers ≡ step_registers s
    pub memory : (then (lent m t) go w s).memory ≡ step_words m t w s
    pub ends : by_cell (then (lent m t) go w s).ends ≡ call_of e

  ended : (s : Step) (e : Call) → step_ends s ≡ Some (call_of e) → Ended s e
  unfolding then
  ended (moves rs) e h = absurd (grind (arith, h))
  ended (stores rs x v) e h = absurd (grind (arith, h))
  ended (asks rs c) e h = record { registers = refl; memory = refl; ends = let q : by_cell c ≡ call_of e = cc in q }

-- What is lent stays whole, and stays the same over two steps.
pub whole_on : (a b : Lent) → Whole a → Kept a b → Whole b
whole_on a b w k =
    let sized : Sized b.memory.now = subst Sized (sym k.memory) w.fit.sized in
    record {
      fit = record { sized = sized; top_there = subst (λ m. b.top < get_or m 0 0) (sym k.memory) (rw k.top w.fit.top_there) };
      closed_long = k.closed_long ∙ w.closed_long ∙ ap (λ m. get_or m 0 0 * 1024) (sym k.memory);
      open_long = k.open_long ∙ w.open_long ∙ ap (λ m. get_or m 1 0 * 1024) (sym k.memory);
    }

pub kept_on : (a b c : Lent) → Kept a b → Kept b c → Kept a c
kept_on a b c h g = record {
  memory = g.memory ∙ h.memory;
  top = g.top ∙ h.top;
  same_closed = g.same_closed ∙ h.same_closed;
  same_open = g.same_open ∙ h.same_open;
  closed_long = g.closed_long ∙ h.closed_long;
  open_long = g.open_long ∙ h.open_long;
}

-- what a run leaves is what is in the slices then
pub left_in : (m : List ℕ) (t : ℕ) (before : Words) (cs os : List ℕ) (l : Lent) (n d : ℕ) (rs : List ℕ) (r : Ran) →
    cs ≡ l.closed.now → os ≡ l.«open».now → Runs m t before (words_of l) n d rs r →
    Runs m t before (record { closed_pages = cs; open_pages = os }) n d rs r
left_in m t before cs os l n d rs r h g runs = rw (h, g) runs

-- one step more of a run
more : (n i : ℕ) → i < n → n - i ≡ suc (n - (i + 1))
more n i h = omega arith

-- the same of a memory and a top table
record ComesBy (m : List ℕ) (t : ℕ) (before after : Words) (s : Step) (r : ControlFlow Ran Registers) : Type 0 where
  registers : (left r).words ≡ step_registers s
  ends : option_map call_of (ended_with r) ≡ step_ends s
  words : after ≡ step_words m t before s

abbrev StepBy : List ℕ → ℕ → Words → Words → List ℕ → ℕ → ControlFlow Ran Registers → Type 0
StepBy m t before after rs chance r =
    ComesBy m t before after (made_up rs (looked m t before.closed_pages before.open_pages) chance) r

steps_by : (start before after : Lent) (rs : List ℕ) (chance : ℕ) (r : ControlFlow Ran Registers) → Kept start before →
    Comes before after (made_up rs (sees before) chance) r →
    StepBy start.memory.now start.top (words_of before) (words_of after) rs chance r
steps_by start before after rs chance r q k =
    subst (λ m. StepBy m start.top (words_of before) (words_of after) rs chance r) q.memory
    (subst (λ t. StepBy before.memory.now t (words_of before) (words_of after) rs chance r) q.top
    (record { registers = k.registers; ends = k.ends; words = k.words }))

module _ (start : Lent) (n i chance : ℕ) (low : i < n) (rs : List ℕ) (before after : Lent) (r : ControlFlow Ran Registers)
    (q : Kept start before) (comes : Comes before after (made_up rs (sees before) chance) r) where
  abbrev run_on : ℕ → List ℕ → Lent → Came Words
  run_on j qs l = run_of start.memory.now start.top j chance qs (words_of l)

  abbrev one : Step
  one = made_up rs (looked start.memory.now start.top before.closed.now before.«open».now) chance

  abbrev rest : List ℕ → Words → Came Words
  rest = steps (lent start.memory.now start.top) made_up (n - (i + 1)) chance

  first : run_on (n - i) rs before ≡ then (lent start.memory.now start.top) rest (words_of before) one
  unfolding steps
  first = ap (λ j. run_on j rs before) (more n i low)

  pub went_on : (next : Registers) → r ≡ Continue next → run_on (n - i) rs before ≡ run_on (n - (i + 1)) next.words after
  went_on next h =
      let k = steps_by start before after rs chance r q comes in
      first ∙ went start.memory.now start.top rest (words_of before) one (sym k.ends ∙ ap (λ x. option_map call_of (ended_with x)) h)
      ∙ ap₂ rest (sym k.registers ∙ ap (λ x. (left x).words) h) (sym k.words)

  pub it_ended : (e : Ran) → r ≡ Break e →
      (e.registers.words ≡ (run_on (n - i) rs before).registers) × (call_of e.ends ≡ by_cell (run_on (n - i) rs before).ends)
      × (words_of after ≡ (run_on (n - i) rs before).memory)
  it_ended e h =
      let k = steps_by start before after rs chance r q comes in
      let d = ended start.memory.now start.top rest (words_of before) one e.ends
      (sym k.ends ∙ ap (λ x. option_map call_of (ended_with x)) h) in (
        sym (ap (λ x. (left x).words) h) ∙ k.registers ∙ sym d.registers ∙ sym (ap (λ x. x.registers) first),
        sym d.ends ∙ sym (ap (λ x. by_cell x.ends) first),
        k.words ∙ sym d.memory ∙ sym (ap (λ x. x.memory) first),
      )
