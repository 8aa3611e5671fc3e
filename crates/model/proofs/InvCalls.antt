-- The edits of every call are good where they are made: by the call's checks, and by what was true before.
use Rattle.std.proofs.Common.{◌≡◌, ℕ, ◌<◌, Bool, true, false, not, ◌&&◌, ◌≢◌, ◌⊎◌, List, [], ◌∷◌, length, set, replicate, Some, None, Option, refl, ap, ◌∙◌, subst, inl, inr, arith, get_or-set_same, ltb-true, eqb-true}
use borrow.Author.Tests.{eqb-false}
use Rattle.model.specs.Calls.{Place, SystemCall, CellCall, how_many, new_cell, new_thread, new_table, hold, give, show, remove, seal, stop}
use Rattle.model.specs.Calls.{enter, resume, leave, interrupt, fault, grow, shrink, extend, who, draw}
use Rattle.model.specs.Pages.{Slot, nothing, closed, opened, building, sealed, stopped, phase_number, ◌is◌, Table, Entry, free}
use Rattle.model.specs.Pages.{table, held, spare, Kind, unused, first_page, thread_of, top_of, table_of, held_by, spare_of, kind}
use Rattle.model.specs.Pages.{kind_number, part_of, is_free, is_cell, is_in, cell_in, cell_is, slots_in, has_parts, in_table, Entries, at}
use Rattle.model.specs.Pages.{table_at, slot_in, slot_put_in, closed_in, is_spare, is_held}
use Rattle.model.specs.State.{Limits, State, entry, Caller, caller, caller_by, is_owner_in, Edit, put_entry, put_slot, put_table}
use Rattle.model.specs.Refusals.{there, system_checks, cell_checks, own_spare, may_go}
use Rattle.model.specs.Monitor.{system_edits, cell_edits}
use Rattle.model.proofs.Lists.{get_d_set, changed_here, getD_replicated}
use Rattle.model.proofs.Effects.{Pass}
use Rattle.model.proofs.InvSound.{kind_at, top_in, table_on, slot_on, top_at, Alive, Sound, Unseen, Turns}
use Rattle.model.proofs.InvTurns.{fresh_turns, freed_turns, no_parts, slots_put, slot_sound}
use Rattle.model.proofs.InvGood.{table_its, AllGood, none, then, makes}

-- What tests say of a page.
pub the_first : (x : Entry) → is_cell x ≡ true → kind x ≡ first_page
unfolding kind kind_number
the_first x h = grind arith

pub sealed_live : (x : Entry) → is_in sealed x ≡ true → (is_cell x ≡ true) × (is_in stopped x ≡ false)
unfolding kind kind_number cell_in cell_is phase_number
sealed_live x h = grind arith

pub sealed_alive : (x : Entry) → is_in sealed x ≡ true → Alive x
unfolding kind cell_in cell_is phase_number
sealed_alive x h = grind arith

building_alive : (x : Entry) → is_in building x ≡ true → Alive x
unfolding kind cell_in cell_is phase_number
building_alive x h = grind arith

the_free : (x : Entry) → is_free x ≡ true → x ≡ free
unfolding kind kind_number
the_free x h = grind arith

the_unused : (x : Entry) → is_free x ≡ true → kind x ≡ unused
unfolding kind kind_number
the_unused x h = grind arith

pub the_spare : (x : Entry) (c : ℕ) → is_spare x ≡ true → (part_of (kind x) is c) ≡ true → kind x ≡ spare_of c
unfolding kind kind_number part_of ◌is◌
the_spare x c h k = grind arith

pub the_held : (x : Entry) (c : ℕ) → is_held x ≡ true → (part_of (kind x) is c) ≡ true → kind x ≡ held_by c
unfolding kind kind_number part_of ◌is◌
the_held x c h k = grind arith

-- Free, or spare.
abbrev Idle : Kind → Type 0
Idle k = (k ≡ unused) ⊎ ((b : ℕ) × (k ≡ spare_of b))

-- A page became x, a part of the cell c.
record Taken (d : Entries) (p c : ℕ) (x : Entry) : Type 0 where
  turns : Turns d p x 0
  alive : Alive (at (set d p x) c)
  kinds : kind_at (set d p x) p ≡ kind x
  unseen : ((b : ℕ) → kind x ≢ table_of b) → Unseen (set d p x) p
  unnamed : (j : ℕ) → table_on (top_at (set d p x) c) j ≢ Some p

-- A free or a spare page may become one: no cell sees it.
module _ (d : Entries) (S : Sound d) (p c : ℕ) (x : Entry) (was : Idle (kind_at d p)) (a : Alive (at d c)) (low : p < length d)
    (part : part_of (kind x) ≡ Some c) (no_top : (b : ℕ) → kind x ≢ top_of b) (empty : (j : ℕ) → slot_on x j ≡ nothing) where
  no_one : Unseen d p
  no_one b q j u v h k e = grind (arith, S.sees_held b q j p u v)

  taken : Taken d p c x
  unfolding part_of
  taken =
      let here : (q : ℕ) → (at (set d p x) q ≡ at d q) ⊎ ((p ≡ q) × (at (set d p x) q ≡ x)) = λ q. get_d_set d p q x free in
      record {
        turns = fresh_turns d S p c x (grind arith) (λ b. grind arith) (λ b. grind arith) no_one a.0 part no_top empty;
        alive = grind (arith, here c);
        kinds = ap kind (get_or-set_same d p x free low);
        unseen = λ n b q j u v h k e. grind (arith, here b, here q, S.sees_held b q j p u v);
        unnamed = λ j e. grind (arith, here c, here (top_in (at d c)), S.has_top c, S.has_table c j p);
      }

-- A slot of a table is emptied, where a cell saw a page: no cell sees that page then.
abbrev empties : ℕ → Table → Table
empties j x = record { cell = x.cell; slots = set x.slots j nothing }

emptied : (j : ℕ) (x : Entry) → (slot_on (in_table (empties j) x) j ≡ nothing) × (kind (in_table (empties j) x) ≡ kind x)
    × (cell_in (in_table (empties j) x) ≡ cell_in x)
unfolding in_table slots_in kind cell_in
emptied j x = (grind (arith, changed_here (slots_in x) j (λ y. nothing) nothing refl), grind arith, grind arith)

the_closed : (z : Slot) (p : ℕ) → (closed_in z is p) ≡ true → (a : Bool) × (b : Bool) × (z ≡ closed p a b)
unfolding closed_in ◌is◌
the_closed nothing p h = absurd (grind (arith, h))
the_closed (closed q a b) p h = (a, b, grind (arith, eqb-true q p h))
the_closed (opened o a) p h = absurd (grind (arith, h))

module _ (d : Entries) (S : Sound d) (c p q j : ℕ) (a : Alive (at d c)) (kp : kind_at d p ≡ held_by c) (kq : kind_at d q ≡ table_of c)
    (seen : (closed_in (slot_on (at d q) j) is p) ≡ true) where
  -- All pages then, each one of them, and what stays.
  d2 : Entries
  d2 = set d q (in_table (empties j) (at d q))

  there_2 : (r : ℕ) → (at d2 r ≡ at d r) ⊎ ((q ≡ r) × (at d2 r ≡ in_table (empties j) (at d q)))
  unfolding d2
  there_2 r = get_d_set d q r (in_table (empties j) (at d q)) free

  kind_2 : (r : ℕ) → kind_at d2 r ≡ kind_at d r
  kind_2 r = grind (arith, there_2 r, emptied j (at d q))

  alive_2 : (b : ℕ) → Alive (at d2 b) → Alive (at d b)
  alive_2 b h = grind (arith, there_2 b, emptied j (at d q))

  gone : slot_on (at d2 q) j ≡ nothing
  unfolding d2 in_table
  gone = ap (λ x. slot_on x j) (changed_here d q (in_table (empties j)) free refl) ∙ (emptied j (at d q)).0

  slot_2 : (r k y : ℕ) (u v : Bool) → slot_on (at d2 r) k ≡ closed y u v → slot_on (at d r) k ≡ closed y u v
  slot_2 r k y u v h = grind (arith, there_2 r, slots_put (at d q) (empties j) j k nothing (λ y. refl))

  unseen_2 : Unseen d2 p
  unseen_2 b r k u v f g m =
      let z = the_closed (slot_on (at d q) j) p seen in
      grind (
        arith,
        gone,
        kind_2 r,
        slot_2 r k p u v m,
        S.sees_held b r k p u v (alive_2 b f),
        S.one_place c q j r k p z.0 z.1 u v a kq,
      )

  spared : Turns d2 p (spare (record { cell = c })) 0
  unfolding d2 kind part_of slots_in
  spared =
      fresh_turns d2 (slot_sound d S c q j nothing (empties j) kq (λ y u v e. absurd (grind (arith, e))) (λ y. refl) (λ y. refl)) p c
      (spare (record { cell = c })) (grind (arith, kind_2 p)) (λ b. grind (arith, kind_2 p)) (λ b. grind (arith, kind_2 p)) unseen_2
      (kind_2 c ∙ a.0) refl (λ b e. grind (arith, e)) (λ i. refl)

-- Who calls is a thread, of a sealed cell.
abbrev pub Runs : State → Type 0
Runs s = (t : ℕ) → s.running ≡ Some t → (c : ℕ) × (kind (entry s t) ≡ thread_of c) × (is_in sealed (entry s c) ≡ true)

pub record CallsNow (s : State) (k : Caller) : Type 0 where
  pub runs : s.running ≡ Some k.thread
  pub its_thread : kind (entry s k.thread) ≡ thread_of k.cell
  pub is_sealed : is_in sealed (entry s k.cell) ≡ true

pub who_calls : (s : State) (k : Caller) → Runs s → caller s ≡ Some k → CallsNow s k
unfolding caller_by part_of
who_calls s k R e = go s.running refl e
  where
    go : (r : Option ℕ) → s.running ≡ r → caller_by s.entries r ≡ Some k → CallsNow s k
    go None i h = absurd (grind (arith, h))
    go (Some t) i h =
        let x = R t i in
        let y : Some (record { thread = t; cell = x.0 }) ≡ Some k = rw x.1 at h in
        record { runs = cc; its_thread = cc; is_sealed = cc }

module _ (l : Limits) (s : State) (S : Sound s.entries) (long : length s.entries ≡ l.pages) where
  low : (p : ℕ) → there l p ≡ true → p < length s.entries
  low p h = rw long (ltb-true p l.pages h)

  own_idle : (k : Caller) (p : ℕ) → own_spare l s k p ≡ true → Idle (kind (entry s p))
  own_idle k p h = inr (k.cell, the_spare (entry s p) k.cell (grind arith) (grind arith))

  -- A page becomes one that the cell c holds, and sees;
  held_good : (p c : ℕ) (w : Place) (es : List Edit) → Idle (kind (entry s p)) → Alive (entry s c) → there l p ≡ true →
      ((t : State) → AllGood t es) →
      AllGood s (put_entry p (held (record { cell = c })) ∷ put_slot c w (closed p w.write w.run) ∷ es)
  unfolding kind part_of slots_in
  held_good p c w es i a h g =
      let x : Entry = held (record { cell = c }) in
      let k = taken s.entries S p c x i a (low p h) refl (λ b z. grind (arith, z)) (λ j. refl) in
      let P : ℕ → Type 0 = λ q. (kind_at (set s.entries p x) q ≡ held_by c) × Unseen (set s.entries p x) q in
      then s _ _ k.turns
      (then _ _ _ (k.alive, λ q u v z. let y : p ≡ q = cc in subst P y (k.kinds, k.unseen (λ b e. grind (arith, e)))) (g _))

  -- an empty table of the cell c;
  table_good : (p c i n : ℕ) → Idle (kind (entry s p)) → Alive (entry s c) → there l p ≡ true →
      AllGood s (put_entry p (table (record { cell = c; slots = replicate n nothing })) ∷ put_table c i p ∷ [])
  unfolding kind part_of slots_in
  table_good p c i n id a h =
      let k = taken s.entries S p c (table (record { cell = c; slots = replicate n nothing })) id a (low p h) refl
      (λ b z. grind (arith, z)) (λ j. getD_replicated n j nothing) in
      then s _ _ k.turns (then _ _ _ (k.alive, k.kinds, k.unnamed) (none _))

  -- a spare page, or a thread.
  part_good : (p c : ℕ) (x : Entry) (es : List Edit) → Idle (kind (entry s p)) → Alive (entry s c) → there l p ≡ true →
      (kind x ≡ spare_of c) ⊎ (kind x ≡ thread_of c) → ((t : State) → AllGood t es) → AllGood s (put_entry p x ∷ es)
  unfolding kind part_of slots_in
  part_good p c x es i a h k g =
      then s _ _ (taken s.entries S p c x i a (low p h) (grind arith) (λ b. grind arith) (λ j. grind arith)).turns (g _)

  -- What the checks of a call say: a cell is not stopped; a page that may go is spare, or its cell is stopped; it has no parts.
  cell_alive : (c : ℕ) → (there l c && is_cell (entry s c)) ≡ true → not (is_in stopped (entry s c)) ≡ true → Alive (entry s c)
  cell_alive c h k = (the_first (entry s c) (grind arith), grind arith)

  gone_or_spare : (p c : ℕ) → part_of (kind (entry s p)) ≡ Some c → may_go s p ≡ true →
      (kind (entry s p) ≡ spare_of c) ⊎ (is_in stopped (entry s c) ≡ true)
  unfolding is_owner_in kind kind_number part_of
  gone_or_spare p c e h = grind arith

  pub no_part : (p : ℕ) → not (is_cell (entry s p) && has_parts s.entries p) ≡ true → (q : ℕ) → part_of (kind (entry s q)) ≢ Some p
  unfolding kind_number
  no_part p h q e = no_parts s.entries p q (grind (arith, S.owned q p e)) e

  pub system_good : (c : SystemCall) → Pass (system_checks l s c) → AllGood s (system_edits l s c)
  unfolding system_edits system_checks kind
  system_good how_many h = none s
  system_good (new_cell p t) h = makes s p t l.places _ (record {
    was_first = the_free (entry s p) (grind (arith, h.1.0));
    was_top = the_free (entry s t) (grind (arith, h.1.0));
    apart = eqb-false p t (grind (arith, h.0));
    low_first = low p (grind (arith, h.0));
    low_top = low t (grind (arith, h.0));
    its_top = refl;
  })
  system_good (new_thread p c a) h =
      part_good p c _ _ (inl (the_unused (entry s p) h.1.1.0)) (cell_alive c h.0 h.1.1.1.0) h.1.0 (inr refl)
      (λ t. then t _ _ tt (none _))
  system_good (new_table p c i) h =
      table_good p c i l.slots (inl (the_unused (entry s p) h.1.1.1.1.1.0)) (cell_alive c h.1.0 h.1.1.0)
      h.1.1.1.1.0
  system_good (hold p c w o) h =
      held_good p c w _ (inl (the_unused (entry s p) h.1.1.1.1.1.0)) (building_alive (entry s c) h.1.0) h.1.1.1.1.0
      (λ t. then t _ _ tt (then _ _ _ tt (none _)))
  system_good (give p c) h =
      part_good p c _ _ (inl (the_unused (entry s p) h.1.1.0)) (cell_alive c h.0 h.1.1.1.0) h.1.0 (inl refl) none
  system_good (show o c w) h = then s _ _ (building_alive (entry s c) h.1.0, λ p a b e. absurd (grind (arith, e))) (none _)
  system_good (remove p) h =
      then s _ _ (freed_turns s.entries S p (no_part p h.1.0) (λ c e. gone_or_spare p c e h.1.1.0)) (none _)
  system_good (seal c) h = then s _ _ (inr (building_alive (entry s c) h.1.0).1) (none _)
  system_good (stop c) h = then s _ _ (inl refl) (none _)
  system_good (enter t x y z) h = then s _ _ tt (none _)
  system_good (resume t) h = then s _ _ tt (none _)

  -- A page that a cell takes out of a slot may become spare.
  shrink_good : (c p : ℕ) (w : Place) (q : Option ℕ) → Alive (entry s c) → kind (entry s p) ≡ held_by c →
      table_at s.entries c w.table ≡ q → (closed_in (slot_in s.entries q w.slot) is p) ≡ true →
      Turns (slot_put_in s.entries q w.slot nothing) p (spare (record { cell = c })) 0
  unfolding slot_put_in slot_in closed_in ◌is◌ d2
  shrink_good c p w None a k e h = absurd (grind (arith, h))
  shrink_good c p w (Some q) a k e h = spared s.entries S c p q w.slot a k (table_its s.entries S c w.table q a e) h

  pub cell_good : (k : Caller) (c : CellCall) → CallsNow s k → Pass (cell_checks l s k c) → AllGood s (cell_edits l k c)
  unfolding cell_edits cell_checks
  cell_good k (leave n) r h = then s _ _ tt (then _ _ _ tt (none _))
  cell_good k (interrupt rs) r h = then s _ _ tt (then _ _ _ tt (none _))
  cell_good k (fault n) r h = then s _ _ tt (then _ _ _ tt (none _))
  cell_good k (grow p w) r h =
      held_good p k.cell w _ (own_idle k p h.0) (sealed_alive (entry s k.cell) r.is_sealed) (grind (arith, h.0))
      (λ t. then t _ _ tt (none _))
  cell_good k (shrink p w) r h =
      let a = sealed_alive (entry s k.cell) r.is_sealed in
      let e : kind (entry s p) ≡ held_by k.cell = the_held (entry s p) k.cell (grind (arith, h.0)) (grind (arith, h.0)) in
      then s _ _ (a, λ q u v z. absurd (grind (arith, z))) (then _ _ _ (shrink_good k.cell p w _ a e refl h.1.0) (none _))
  cell_good k (extend p i) r h =
      table_good p k.cell i l.slots (own_idle k p h.1.0) (sealed_alive (entry s k.cell) r.is_sealed)
      (grind (arith, h.1.0))
  cell_good k who r h = none s
  cell_good k (draw n) r h = none s
