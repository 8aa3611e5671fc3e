-- What an answer says of a call: whether it was refused, and what it changed.
use Rattle.std.proofs.Common.{◌≡◌, ℕ, ◌<◌, ◌≢◌, List, [], length, get_or, Some, None, Option, unwrap_or, sym, refl, ap, ◌∙◌, arith, get_or-set_same}
use Rattle.std.proofs.lemmas.List.{get_or_default}
use Rattle.model.specs.Calls.{Place, SystemCall, CellCall, Call, by_system, by_cell, garbled, hold, grow}
use Rattle.model.specs.Answers.{Refusal, Answer, refused, done, told}
use Rattle.model.specs.State.{Limits, State, Caller, caller, Edit, apply_all, zeros}
use Rattle.model.specs.Refusals.{refusal, failing, cell_checks, error}
use Rattle.model.specs.Monitor.{answer, edits, after, changed, reply, system_reply, cell_reply, caller_reply, entered, answer_or, edits_or}
use Rattle.model.specs.Monitor.{caller_edits, cell_edits, system_edits, copied}
use Rattle.model.specs.Promises.{RefusedKeeps, ErrorKeeps, HeldGetsZeros, HeldGetsOpen, GrownGets}

-- No reply is a refusal.
system_not : (l : Limits) (s : State) (c : SystemCall) (r : Refusal) → system_reply l s c ≢ refused r
unfolding system_reply entered
system_not l s c r h = grind arith

cell_not : (l : Limits) (s : State) (k : Caller) (c : CellCall) (r : Refusal) → cell_reply l s k c ≢ refused r
unfolding cell_reply
cell_not l s k c r h = grind arith

reply_not : (l : Limits) (s : State) (c : Call) (r : Refusal) → reply l s c ≢ refused r
unfolding reply caller_reply
reply_not l s (by_system c) r h = system_not l s c r h
reply_not l s (by_cell c) r h = go (caller s) h
  where
    go : (x : Option Caller) → caller_reply l s c x ≢ refused r
    go None z = grind arith
    go (Some k) z = cell_not l s k c r z
reply_not l s (garbled n) r h = grind arith

-- A call that is answered otherwise was not refused.
taken_by : (a : Answer) (x : Option Refusal) (b : Answer) → ((r : Refusal) → b ≢ refused r) → answer_or a x ≡ b → (x ≡ None) × (a ≡ b)
unfolding answer_or
taken_by a None b n h = (refl, h)
taken_by a (Some r) b n h = absurd (n r (sym h))

pub not_refused : (l : Limits) (s : State) (c : Call) (b : Answer) → ((r : Refusal) → b ≢ refused r) → answer l s c ≡ b →
    refusal l s c ≡ None
not_refused l s c b n h = (taken_by (reply l s c) (refusal l s c) b n h).0

pub taken : (l : Limits) (s : State) (c : Call) (b : Answer) → ((r : Refusal) → b ≢ refused r) → answer l s c ≡ b →
    (edits l s c ≡ changed l s c) × (reply l s c ≡ b)
unfolding edits_or
taken l s c b n h = let x = taken_by (reply l s c) (refusal l s c) b n h in (rw x.0, x.1)

-- 5.
pub refused_keeps : RefusedKeeps
unfolding answer_or edits_or
refused_keeps l s c r = go (refusal l s c)
  where
    go : (x : Option Refusal) → answer_or (reply l s c) x ≡ refused r → apply_all s (edits_or (changed l s c) x) ≡ s
    go None h = absurd (reply_not l s c r h)
    go (Some q) h = refl

system_told : (l : Limits) (s : State) (c : SystemCall) (e : ℕ) (ns : List ℕ) → system_reply l s c ≢ told e ns
unfolding system_reply entered
system_told l s c e ns h = grind arith

cell_told : (l : Limits) (s : State) (k : Caller) (c : CellCall) (e : ℕ) (ns : List ℕ) → cell_reply l s k c ≡ told e ns → e ≢ 0 →
    error l s k c ≢ 0
unfolding cell_reply
cell_told l s k c e ns h n z = grind arith

none_if : (x : Option ℕ) (es : List Edit) → unwrap_or x 0 ≢ 0 → edits_or es x ≡ []
unfolding edits_or
none_if None es h = absurd (h refl)
none_if (Some n) es h = refl

told_none : (l : Limits) (s : State) (c : Call) (e : ℕ) (ns : List ℕ) → reply l s c ≡ told e ns → e ≢ 0 → changed l s c ≡ []
unfolding reply changed caller_reply caller_edits edits_or
told_none l s (by_system c) e ns h n = absurd (system_told l s c e ns h)
told_none l s (by_cell c) e ns h n = go (caller s) h
  where
    go : (x : Option Caller) → caller_reply l s c x ≡ told e ns → caller_edits l s c x ≡ []
    go None z = grind arith
    go (Some k) z = none_if (failing (cell_checks l s k c)) (cell_edits l k c) (cell_told l s k c e ns z n)
told_none l s (garbled n) e ns h m = refl

pub error_keeps : ErrorKeeps
error_keeps l s c e ns h n =
    let x = taken l s c (told e ns) (λ r z. grind arith) h in
    ap (apply_all s) (x.0 ∙ told_none l s c e ns x.1 n)

-- 3. What a cell gets.
hold_gets : (l : Limits) (s : State) (p c : ℕ) (w : Place) (o : Option ℕ) → p < length s.contents →
    answer l s (by_system (hold p c w o)) ≡ done → get_or (after l s (by_system (hold p c w o))).contents p [] ≡ copied l s o
unfolding changed system_edits
hold_gets l s p c w o h a =
    let x = taken l s (by_system (hold p c w o)) done (λ r z. grind arith) a in
    ap (λ es. get_or (apply_all s es).contents p []) x.0 ∙ get_or-set_same s.contents p (copied l s o) [] h

pub held_gets_zeros : HeldGetsZeros
unfolding copied
held_gets_zeros l s p c w = hold_gets l s p c w None

pub held_gets_open : HeldGetsOpen
unfolding copied
held_gets_open l s p c w o h low a = hold_gets l s p c w (Some o) h a ∙ get_or_default s.open_pages o (zeros l) [] low

no_error : (l : Limits) (s : State) (k : Caller) (p : ℕ) (w : Place) → error l s k (grow p w) ≡ 0 →
    failing (cell_checks l s k (grow p w)) ≡ None
unfolding cell_checks
no_error l s k p w h = grind arith

pub grown_gets : GrownGets
unfolding changed reply caller_reply caller_edits cell_reply cell_edits edits_or cell_checks
grown_gets l s p w h a =
    let x = taken l s (by_cell (grow p w)) (told 0 []) (λ r z. grind arith) a in
    ap (λ es. get_or (apply_all s es).contents p []) x.0 ∙ go (caller s) x.1
  where
    go : (x : Option Caller) → caller_reply l s (grow p w) x ≡ told 0 [] →
        get_or (apply_all s (caller_edits l s (grow p w) x)).contents p [] ≡ zeros l
    go None z = grind arith
    go (Some k) z =
        let x = no_error l s k p w (grind arith) in
        ap (λ y. get_or (apply_all s (edits_or (cell_edits l k (grow p w)) y)).contents p []) x
        ∙ get_or-set_same s.contents p (zeros l) [] h
