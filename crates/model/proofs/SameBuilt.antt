-- Cells of which the same was measured were built of the same: measured words can be read as parts in one way.
use Rattle.std.proofs.Common.{◌≡◌, ℕ, ◌+◌, ◌*◌, ◌<◌, Bool, true, false, cond, eqb, ltb, List, [], ◌∷◌, ◌++◌, length, get_or, drop, Some, None, Option, sym, refl, ap, ◌∙◌, ap₂, inl, inr, arith}
use lib.ListN.{length-replicate}
use Rattle.std.proofs.lemmas.Bool.{and_parts, ltb-true, cases_lt}
use Rattle.std.proofs.lemmas.List.{get_or_past, get_or_default}
use Rattle.model.specs.Calls.{Place, SystemCall, by_system, by_cell, garbled, system_number, how_many, new_cell, new_thread, new_table}
use Rattle.model.specs.Calls.{hold, give, show, remove, seal, stop, enter, resume}
use Rattle.model.specs.Answers.{Refusal}
use Rattle.model.specs.Measured.{Part, thread_from, page_at, part_words, place_word}
use Rattle.model.specs.State.{Limits, Sized, State, zeros}
use Rattle.model.specs.Refusals.{system_fits, checks, refusal}
use Rattle.model.specs.Monitor.{copied}
use Rattle.model.specs.Machine.{Machine, GoodMachine}
use Rattle.model.specs.Worlds.{World, Act, calls, writes, runs, new_world, step, AllPossible, Reachable}
use Rattle.model.specs.Invariant.{Invariant}
use Rattle.model.specs.Builds.{built_by, built_or, built_call, built_act, built_from, built, parts_words}
use Rattle.model.specs.Promises.{InvariantHolds, SameMeasuredSameBuilt}
use Rattle.model.proofs.Effects.{passed}
use Rattle.model.proofs.Built.{measured_is_built}
use Rattle.model.proofs.Confidentiality.{reachable_more}

-- A part as it is measured: the slot of a page's place is below 1,024, and it has as many words.
abbrev Well : Part → Type 0
Well (thread_from a) = Unit {0}
Well (page_at w ws) = (w.slot < 1024) × (length ws ≡ 1024)

abbrev AllWell : List Part → Type 0
AllWell [] = Unit {0}
AllWell (x ∷ xs) = Well x × AllWell xs

-- Two lists with parts of one length in front.
front : (xs ys us vs : List ℕ) → length xs ≡ length ys → xs ++ us ≡ ys ++ vs → (xs ≡ ys) × (us ≡ vs)
front [] [] us vs h e = (refl, e)
front [] (y ∷ ys) us vs h e = absurd (omega arith)
front (x ∷ xs) [] us vs h e = absurd (omega arith)
front (x ∷ xs) (y ∷ ys) us vs h e =
    let r = front xs ys us vs (omega arith) (ap (drop 1) e) in
    let z : x ≡ y = ap (λ ws. get_or ws 0 0) e in (ap₂ (λ a as'. a ∷ as') z r.0, r.1)

-- A place is told by its word.
bits : (t s u v : ℕ) (a b c d : Bool) → s < 1024 → v < 1024 →
    4194304 * t + (4096 * s + (cond a 4 0 + (cond b 2 0 + 1))) ≡ 4194304 * u + (4096 * v + (cond c 4 0 + (cond d 2 0 + 1))) →
    (t ≡ u) × (s ≡ v) × (a ≡ c) × (b ≡ d)
bits t s u v a b c d g h e = grind arith

place_told : (v w : Place) → v.slot < 1024 → w.slot < 1024 → place_word v ≡ place_word w → v ≡ w
place_told v w g h e =
    let z = bits v.table v.slot w.table w.slot v.run v.write w.run w.write g h e in grind (arith, z)

parsed : (a b : List Part) → AllWell a → AllWell b → parts_words a ≡ parts_words b → a ≡ b
unfolding part_words
parsed [] [] g h e = refl
parsed [] (thread_from x ∷ b) g h e = absurd (grind (arith, e))
parsed [] (page_at w ws ∷ b) g h e = absurd (grind (arith, e))
parsed (thread_from x ∷ a) [] g h e = absurd (grind (arith, e))
parsed (page_at w ws ∷ a) [] g h e = absurd (grind (arith, e))
parsed (thread_from x ∷ a) (thread_from y ∷ b) g h e =
    ap₂ (λ z r. thread_from z ∷ r) (ap (λ ws. get_or ws 1 0) e) (parsed a b g.1 h.1 (ap (drop 16) e))
parsed (thread_from x ∷ a) (page_at w ws ∷ b) g h e = let z : ◌≡◌ {A = ℕ} 2 4 = ap (λ us. get_or us 0 0) e in absurd (omega arith)
parsed (page_at w ws ∷ a) (thread_from y ∷ b) g h e = let z : ◌≡◌ {A = ℕ} 4 2 = ap (λ us. get_or us 0 0) e in absurd (omega arith)
parsed (page_at v us ∷ a) (page_at w ws ∷ b) g h e =
    let z = place_told v w g.0.0 h.0.0 (ap (λ xs. get_or xs 1 0) e) in
    let r = front us ws (parts_words a) (parts_words b) (g.0.1 ∙ sym h.0.1) (ap (drop 16) e) in
    rw (z, r.0, parsed a b g.1 h.1 r.1)

well_more : (b : List Part) (x : Part) → AllWell b → Well x → AllWell (b ++ (x ∷ []))
well_more [] x g h = (h, tt)
well_more (y ∷ b) x g h = (g.0, well_more b x g.1 h)

well_if : (t : Bool) (a b : List Part) → AllWell a → AllWell b → AllWell (cond t a b)
well_if true a b g h = g
well_if false a b g h = h

-- What is copied is as long as a page.
pub copied_long : (l : Limits) (s : State) (o : Option ℕ) → Invariant l s → length (copied l s o) ≡ l.words
unfolding copied
copied_long l s None i = length-replicate l.words 0
copied_long l s (Some o) i = elim (cases_lt o (length s.open_pages)) [
  | inl h ↦ ap length (get_or_default s.open_pages o (zeros l) [] h) ∙ (i.opens_fit o (rw i.opens_long at h)).0
  | inr h ↦ ap length (get_or_past s.open_pages o (zeros l) h) ∙ length-replicate l.words 0
]

-- What a cell is built of are such parts.
module _ (l : Limits) (z : Sized l) (o : ℕ) where
  well_by : (s : State) → Invariant l s → (b : List Part) → AllWell b → (c : SystemCall) → system_fits l c ≡ true →
      AllWell (built_by l s o c b)
  unfolding built_by system_fits
  well_by s i b g how_many f = g
  well_by s i b g (new_cell p t) f = well_if (eqb p o) [] b tt g
  well_by s i b g (new_thread p c a) f = well_if (eqb c o) _ b (well_more b (thread_from a) g tt) g
  well_by s i b g (new_table p c k) f = g
  well_by s i b g (hold p c w x) f =
      let low = ltb-true w.slot l.slots (and_parts (ltb w.table l.places) (ltb w.slot l.slots) f).1 in
      let part = well_more b (page_at w (copied l s x)) g (omega arith, copied_long l s x i ∙ z.words_are) in
      well_if (eqb c o) _ b part g
  well_by s i b g (give p c) f = g
  well_by s i b g (show x c w) f = g
  well_by s i b g (remove p) f = g
  well_by s i b g (seal c) f = g
  well_by s i b g (stop c) f = g
  well_by s i b g (enter t x y w) f = g
  well_by s i b g (resume t) f = g

  well_act : (w : World) → Invariant l w.state → (b : List Part) → AllWell b → (a : Act) → AllWell (built_act l w o a b)
  unfolding built_act built_call built_or checks
  well_act w i b g (calls (by_system c)) = go (refusal l w.state (by_system c)) refl
    where
      go : (x : Option Refusal) → refusal l w.state (by_system c) ≡ x → AllWell (built_or b (built_by l w.state o c b) x)
      go None e =
          well_by w.state i b g c (and_parts (l.can (system_number c)) (system_fits l c) (passed l w.state (by_system c) e).0).1
      go (Some r) e = g
  well_act w i b g (calls (by_cell c)) = g
  well_act w i b g (calls (garbled n)) = g
  well_act w i b g (writes x ws) = g
  well_act w i b g (runs x) = g

  well_from : InvariantHolds → (m : Machine) → GoodMachine l m → (w : World) → Reachable l m w → (b : List Part) → AllWell b →
      (acts : List Act) → AllPossible l m w acts → AllWell (built_from l m o w b acts)
  well_from inv m k w r b g [] p = g
  well_from inv m k w r b g (a ∷ acts) p =
      let g' = well_act w (inv l m w k r) b g a in
      well_from inv m k (step l m w a) (reachable_more l m w a r p.0) (built_act l w o a b) g' acts p.1

  well_built : InvariantHolds → (m : Machine) → GoodMachine l m → (acts : List Act) → AllPossible l m (new_world l) acts →
      AllWell (built l m o acts)
  well_built inv m k acts p =
      well_from inv m k (new_world l) (record { acts = []; possible = tt; made = refl }) [] tt acts p

-- 9.
pub same_measured_same_built : InvariantHolds → SameMeasuredSameBuilt
same_measured_same_built inv l k m n ds es o q x y z u g h a b c d e =
    parsed (built l m o ds) (built k n q es) (well_built l z o inv m g ds a) (well_built k u q inv n h es b)
    (sym (measured_is_built l m ds o x c) ∙ (e ∙ measured_is_built k n es q y d))
