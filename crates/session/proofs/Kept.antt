-- What holds of a session's slices goes on to hold.
use Rattle.std.proofs.Common.{◌≡◌, ℕ, suc, ◌<◌, Bool, true, false, cond, List, [], ◌∷◌, length, get_or, Result, Vec, sym, refl, ap, ◌∙◌, subst, lt-ltb}
use Rattle.std.specs.Vec.{with_items}
use Rattle.std.proofs.lemmas.Bool.{and_from}
use Rattle.fields.specs.declared.values.Unwritten.{Unwritten}
use Rattle.model.specs.Calls.{Call}
use Rattle.model.specs.State.{Limits, word, all_words}
use Rattle.model.specs.Events.{Event, wrote, wrote_open}
use Rattle.pages.specs.Flat.{page_put}
use Rattle.monitor.specs.Called.{Slices}
use Rattle.monitor.specs.declared.values.Reply.{Reply}
use Rattle.session.specs.Flat.{whole_page, page_fits}
use Rattle.session.specs.Holding.{with_call, CallsHold, WritesHold, OpenWritesHold}
use Rattle.session.proofs.Refilled.{refilled_with}

-- words are words, one by one
pub all_from : (ws : List ℕ) → ((i : ℕ) → get_or ws i 0 < 4294967296) → all_words ws ≡ true
unfolding all_words
all_from [] h = refl
all_from (w ∷ ws) h = and_from (word w) (all_words ws) (lt-ltb w 4294967296 (h 0)) (all_from ws (λ i. h (suc i)))

-- What was written if there was room, by whether there was.
module _ (holds : Limits → List Event → List ℕ → List ℕ → List ℕ → Type 0) (l : Limits) (es : List Event) (m cs os : List ℕ)
    (w : holds l es m cs os) (p : ℕ) (ws : List ℕ) (g : all_words ws ≡ true) where
  open_if : OpenWritesHold holds → (b : Bool) → b ≡ page_fits os p ws →
      holds l (cond b (wrote_open p (whole_page ws) ∷ es) es) m cs (cond b (page_put os p (whole_page ws)) os)
  open_if law true f = law l es m cs os p ws w g (sym f)
  open_if law false f = w

  closed_if : WritesHold holds → (b : Bool) → b ≡ page_fits cs p ws →
      holds l (cond b (wrote p (whole_page ws) ∷ es) es) m (cond b (page_put cs p (whole_page ws)) cs) os
  closed_if law true f = law l es m cs os p ws w g (sym f)
  closed_if law false f = w

-- The same in a Vec that was lent as a slice.
module _ (holds : Limits → List Event → List ℕ → List ℕ → List ℕ → Type 0) {Z : Type 0} (v : Vec ℕ Z) (p : ℕ) (ws : List ℕ)
    (words : (i : ℕ) → get_or ws i 0 < 4294967296) (b : Bool) (lent out : List ℕ) (value : lent ≡ v.items)
    (long : length out ≡ length lent) (done : b ≡ page_fits lent p ws) (after : out ≡ cond b (page_put lent p (whole_page ws)) lent) where
  fits : b ≡ page_fits v.items p ws
  fits = done ∙ ap (λ xs. page_fits xs p ws) value

  items : (with_items v out).items ≡ cond b (page_put v.items p (whole_page ws)) v.items
  items = refilled_with v out lent long value ∙ after ∙ ap (λ xs. cond b (page_put xs p (whole_page ws)) xs) value

  pub open_written : OpenWritesHold holds → (l : Limits) (es : List Event) (m cs : List ℕ) → holds l es m cs v.items →
      holds l (cond b (wrote_open p (whole_page ws) ∷ es) es) m cs (with_items v out).items
  open_written law l es m cs h =
      subst (holds l (cond b (wrote_open p (whole_page ws) ∷ es) es) m cs) (sym items)
      (open_if holds l es m cs v.items h p ws (all_from ws words) law b fits)

  pub closed_written : WritesHold holds → (l : Limits) (es : List Event) (m os : List ℕ) → holds l es m v.items os →
      holds l (cond b (wrote p (whole_page ws) ∷ es) es) m (with_items v out).items os
  closed_written law l es m os h =
      subst (λ xs. holds l (cond b (wrote p (whole_page ws) ∷ es) es) m xs os) (sym items)
      (closed_if holds l es m v.items os h p ws (all_from ws words) law b fits)

-- What a call leaves goes on to hold, in Vecs that were lent as slices.
module _ (holds : Limits → List Event → List ℕ → List ℕ → List ℕ → Type 0)
    (does : List ℕ → Call → Slices → Slices → Result Reply Unwritten → Type 0) {Y Z : Type 0} (u : Vec ℕ Y) (v : Vec ℕ Z)
    (os m cs o n d t x : List ℕ) (q : Call) (r : Result Reply Unwritten) (a : m ≡ u.items) (b : cs ≡ v.items) (e : o ≡ os)
    (long : length n ≡ length m) (far : length d ≡ length cs)
    (did : does o q (record { memory = m; closed = cs; told = t }) (record { memory = n; closed = d; told = x }) r) where
  pub call_kept : CallsHold holds does → (l : Limits) (es : List Event) → holds l es u.items v.items os →
      holds l (with_call q es r) (with_items u n).items (with_items v d).items os
  call_kept law l es h =
      law l es (record { memory = u.items; closed = v.items; told = t })
      (record { memory = (with_items u n).items; closed = (with_items v d).items; told = x }) os q r h
      (rw (sym (refilled_with u n m long a), sym (refilled_with v d cs far b), a, b, e) at did)
