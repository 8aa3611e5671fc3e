-- What events made, the monitor and whoever writes pages go on making: a call and a page that is written are one event more.
use Rattle.std.proofs.Common.{◌≡◌, ℕ, zero, suc, ◌+◌, ◌-◌, ◌*◌, ◌/◌, ◌<◌, ◌≤◌, true, ltb, leb, List, [], ◌∷◌, ◌++◌, length, replicate, Ok, Err, Result, sym, refl, ap, ◌∙◌, arith, length-append, ltb-true, leb-true}
use lib.ListN.{length-replicate}
use Rattle.std.proofs.lemmas.List.{replicate-append-replicate}
use Rattle.std.proofs.lemmas.Bool.{and_parts, and_from}
use Rattle.fields.specs.declared.values.Unwritten.{Unwritten}
use Rattle.fields.specs.declared.values.Unwritten.TheVariants.{TooMany, TooShort}
use Rattle.model.specs.Calls.{Call}
use Rattle.model.specs.State.{Limits, State, Sized, Page, word, all_words}
use Rattle.model.specs.Monitor as model
use Rattle.model.specs.Events.{Event, wrote, wrote_open, event, state, Paged}
use Rattle.model.proofs.Edits.{open_pages_stay}
use Rattle.monitor.specs.Stage.{good_limits}
use Rattle.monitor.specs.Called.{Slices, Called}
use Rattle.monitor.specs.declared.values.Reply.{Reply}
use Rattle.session.specs.Flat.{whole_page, page_fits}
use Rattle.session.specs.Holding.{limits_of, with_call, HoldsAtFirst, CallsHold, WritesHold, OpenWritesHold}
use Rattle.pages.specs.Flat.{flat, page_put}
use Rattle.pages.specs.Layout.{encode}
use Rattle.pages.specs.Rows.{new_memory}
use Rattle.pages.proofs.Edits.{edits_written}
use Rattle.pages.proofs.Flats.{pages_written}
use Rattle.lookups.proofs.Right.{Known}
use Rattle.lookups.proofs.Edited.{contents_wide, opens_wide}
use Rattle.full_monitor.specs.Called.{Made, Refines}
use Rattle.full_monitor.proofs.Right.{known}

length_whole : (ws : List ℕ) → length ws ≤ 1024 → length (whole_page ws) ≡ 1024
length_whole ws h = omega (arith, h, length-append ws (replicate (1024 - length ws) 0), length-replicate {A = ℕ} (1024 - length ws) 0)

all_zeros : (n : ℕ) → all_words (replicate n 0) ≡ true
unfolding all_words
all_zeros zero = refl
all_zeros (suc n) = all_zeros n

all_append : (xs ys : List ℕ) → all_words xs ≡ true → all_words ys ≡ true → all_words (xs ++ ys) ≡ true
unfolding all_words
all_append [] ys h g = g
all_append (x ∷ xs) ys h g =
    let a = and_parts (word x) (all_words xs) h in and_from (word x) (all_words (xs ++ ys)) a.0 (all_append xs ys a.1 g)

-- Some words, and zeros behind them, are a page.
whole : (l : Limits) (ws : List ℕ) → Sized l → length ws ≤ 1024 → all_words ws ≡ true → Page l (whole_page ws)
whole l ws z h g = (length_whole ws h ∙ sym z.words_are, all_append ws (replicate (1024 - length ws) 0) g (all_zeros (1024 - length ws)))

module _ (l : Limits) (es : List Event) (m cs os : List ℕ) (w : Made l es m cs os) where
  s : State
  s = state l es

  k : Known l (state l es)
  k = known l es w.sized w.paged

  pub closed_long : length cs ≡ l.pages * 1024
  closed_long =
      ap length w.closed ∙ pages_written.long (state l es).contents (contents_wide l (state l es) k)
      ∙ ap (λ n. n * 1024) k.invariant.contents_long

  pub opens_long : length os ≡ l.opens * 1024
  opens_long =
      ap length w.opens ∙ pages_written.long (state l es).open_pages (opens_wide l (state l es) k)
      ∙ ap (λ n. n * 1024) k.invariant.opens_long

  wrote_made : (p : ℕ) (ws : List ℕ) → page_fits cs p ws ≡ true → all_words ws ≡ true →
      Made l (wrote p (whole_page ws) ∷ es) m (page_put cs p (whole_page ws)) os
  unfolding state event Paged
  wrote_made p ws f g =
      let i = and_parts (ltb p (length cs / 1024)) (leb (length ws) 1024) f in
      let low : p < l.pages = omega (arith, ltb-true _ _ i.0, closed_long) in
      let few : length ws ≤ 1024 = leb-true _ _ i.1 in
      record {
        sized = w.sized;
        can = w.can;
        paged = ((low, whole l ws w.sized few g), w.paged);
        memory = w.memory;
        closed = ap (λ x. page_put x p (whole_page ws)) w.closed
            ∙ pages_written.put (state l es).contents p (whole_page ws) (contents_wide l (state l es) k)
            (omega (arith, low, k.invariant.contents_long)) (length_whole ws few);
        opens = w.opens;
      }

  wrote_open_made : (o : ℕ) (ws : List ℕ) → page_fits os o ws ≡ true → all_words ws ≡ true →
      Made l (wrote_open o (whole_page ws) ∷ es) m cs (page_put os o (whole_page ws))
  unfolding state event Paged
  wrote_open_made o ws f g =
      let i = and_parts (ltb o (length os / 1024)) (leb (length ws) 1024) f in
      let low : o < l.opens = omega (arith, ltb-true _ _ i.0, opens_long) in
      let few : length ws ≤ 1024 = leb-true _ _ i.1 in
      record {
        sized = w.sized;
        can = w.can;
        paged = ((low, whole l ws w.sized few g), w.paged);
        memory = w.memory;
        closed = w.closed;
        opens = ap (λ x. page_put x o (whole_page ws)) w.opens
            ∙ pages_written.put (state l es).open_pages o (whole_page ws) (opens_wide l (state l es) k)
            (omega (arith, low, k.invariant.opens_long)) (length_whole ws few);
      }

  -- a call, which leaves the open pages as they were
  called_made : (c : Call) (told : List ℕ) (after : Slices) (r : Result Reply Unwritten) →
      Called (model.answer l (state l es) c) (encode l (model.after l (state l es) c)) (flat (model.after l (state l es) c).contents)
      (record { memory = m; closed = cs; told = told }) after r →
      Made l (with_call c es r) after.memory after.closed os
  unfolding state event Paged
  called_made c told after (Ok r) h = record {
    sized = w.sized;
    can = w.can;
    paged = (tt, w.paged);
    memory = h.1;
    closed = h.2;
    opens = w.opens ∙ ap flat (sym (open_pages_stay l (state l es) c));
  }
  called_made c told after (Err TooMany) h = absurd h
  called_made c told after (Err (TooShort n)) h = record {
    sized = w.sized;
    can = w.can;
    paged = w.paged;
    memory = ap (λ x. x.memory) h.2 ∙ w.memory;
    closed = ap (λ x. x.closed) h.2 ∙ w.closed;
    opens = w.opens;
  }

-- At the start.
flat_zeros : (n : ℕ) → replicate (1024 * n) 0 ≡ flat (replicate n (replicate 1024 0))
unfolding flat
flat_zeros zero = refl
flat_zeros (suc n) =
    let e : 1024 * suc n ≡ 1024 + 1024 * n = omega arith in
    ap (λ i. replicate i 0) e ∙ sym (replicate-append-replicate 1024 (1024 * n) 0)
    ∙ ap (λ xs. replicate 1024 0 ++ xs) (flat_zeros n)

opened_made : (pages opens : ℕ) → good_limits pages opens ≡ true →
    Made (limits_of pages opens) [] (new_memory pages opens) (replicate (1024 * pages) 0) (replicate (1024 * opens) 0)
unfolding state
opened_made pages opens h =
    let a = and_parts (leb 2 pages) _ h in
    let b = and_parts (leb pages 4096) (leb opens 1048576) a.1 in
    record {
      sized = record {
        least_pages = leb-true _ _ a.0;
        most_pages = leb-true _ _ b.0;
        most_opens = leb-true _ _ b.1;
        places_are = refl;
        slots_are = refl;
        words_are = refl;
      };
      can = λ k. refl;
      paged = tt;
      memory = edits_written.start (limits_of pages opens);
      closed = flat_zeros pages;
      opens = flat_zeros opens;
    }

-- So for a session.
pub at_first : HoldsAtFirst Made
at_first = opened_made

pub calls_hold : CallsHold Made Refines
calls_hold l es before after os c r w h = called_made l es before.memory before.closed os w c before.told after r (h l es w)

pub writes_hold : WritesHold Made
writes_hold l es m cs os p ws w g f = wrote_made l es m cs os w p ws f g

pub open_writes_hold : OpenWritesHold Made
open_writes_hold l es m cs os p ws w g f = wrote_open_made l es m cs os w p ws f g
