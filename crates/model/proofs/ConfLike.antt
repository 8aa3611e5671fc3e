-- Two states look alike to an observer; and each edit leaves two such states alike.
use Rattle.std.proofs.Common.{◌≡◌, ℕ, zero, suc, ◌≤◌, Bool, true, false, ◌⊎◌, List, [], ◌∷◌, length, get_or, set, Some, None, Option, sym, refl, ap, ◌∙◌, inl, inr, arith, length-set}
use Rattle.std.proofs.lemmas.List.{get_or_past}
use Rattle.std.proofs.lemmas.Bool.{cases_lt}
use Rattle.model.specs.Measured.{Part}
use Rattle.model.specs.Pages.{Slot, Phase, Cell, Thread, Top, Table, Entry, free, kind, is_held, cell_of, cell_in, in_cell, in_thread}
use Rattle.model.specs.Pages.{in_top, in_table, changed_at, slot_put_in, table_put_by, tables_by}
use Rattle.model.specs.State.{Limits, State, entry, with_entries, apply, apply_all, Edit, put_entry, put_slot, put_table, measure}
use Rattle.model.specs.State.{set_phase, set_thread, write_page, run}
use Rattle.model.specs.Worlds.{World}
use Rattle.model.specs.Observers.{Observer, among, theirs, runs_theirs, public_part, Alike}
use Rattle.model.proofs.Reached.{Sizes}
use Rattle.model.proofs.CellAt.{measured_on, in_phase}
use Rattle.model.proofs.ConfSeen.{PublicSame, same_tables, same_put}

module _ {A : Type 0} where
  -- Two lists of one length after a write: both as before, or both as written.
  getD_set_both : (xs ys : List A) (i j : ℕ) (a b d : A) → length xs ≡ length ys →
      ((get_or (set xs i a) j d ≡ get_or xs j d) × (get_or (set ys i b) j d ≡ get_or ys j d))
      ⊎ ((i ≡ j) × (get_or (set xs i a) j d ≡ a) × (get_or (set ys i b) j d ≡ b))
  getD_set_both [] [] i j a b d h = inl (refl, refl)
  getD_set_both [] (y ∷ ys) i j a b d h = absurd (omega arith)
  getD_set_both (x ∷ xs) [] i j a b d h = absurd (omega arith)
  getD_set_both (x ∷ xs) (y ∷ ys) zero zero a b d h = inr (refl, refl, refl)
  getD_set_both (x ∷ xs) (y ∷ ys) zero (suc j) a b d h = inl (refl, refl)
  getD_set_both (x ∷ xs) (y ∷ ys) (suc i) zero a b d h = inl (refl, refl)
  getD_set_both (x ∷ xs) (y ∷ ys) (suc i) (suc j) a b d h =
      elim (getD_set_both xs ys i j a b d (omega arith)) [ inl e ↦ inl e | inr e ↦ inr (ap suc e.0, e.1, e.2) ]

  pub set_same : (xs ys : List A) (i j : ℕ) (a d : A) → length xs ≡ length ys → get_or xs j d ≡ get_or ys j d →
      get_or (set xs i a) j d ≡ get_or (set ys i a) j d
  set_same xs ys i j a d h e =
      elim (getD_set_both xs ys i j a a d h) [ inl z ↦ z.0 ∙ (e ∙ sym z.1) | inr z ↦ z.1 ∙ sym z.2 ]

  pub set_here : (xs ys : List A) (i : ℕ) (a d : A) → length xs ≡ length ys → get_or (set xs i a) i d ≡ get_or (set ys i a) i d
  set_here [] [] i a d h = refl
  set_here [] (y ∷ ys) i a d h = absurd (omega arith)
  set_here (x ∷ xs) [] i a d h = absurd (omega arith)
  set_here (x ∷ xs) (y ∷ ys) zero a d h = refl
  set_here (x ∷ xs) (y ∷ ys) (suc i) a d h = set_here xs ys i a d (omega arith)

-- What the edits of a page do.
abbrev slotted : ℕ → Slot → Table → Table
slotted j z x = record { cell = x.cell; slots = set x.slots j z }

abbrev tabled : ℕ → ℕ → Top → Top
tabled i p x = record { cell = x.cell; tables = set x.tables i (Some p) }

abbrev threaded : Bool → List ℕ → Thread → Thread
threaded u rs x = record { cell = x.cell; start = x.start; under_way = u; registers = rs }

-- An edit of a page keeps its kind, and acts on what is public of it.
pub record Edits (f g F : Entry → Entry) : Type 0 where
  pub kinds : (x : Entry) → kind (f x) ≡ kind x
  left : (x : Entry) → public_part (f x) ≡ F (public_part x)
  right : (x : Entry) → public_part (g x) ≡ F (public_part x)

pub edits_slot : (j : ℕ) (z : Slot) → Edits (in_table (slotted j z)) (in_table (slotted j z)) (in_table (slotted j z))
unfolding kind in_cell in_thread in_table
edits_slot j z = record { kinds = λ x. grind arith; left = λ x. grind arith; right = λ x. grind arith }

pub edits_table : (i p : ℕ) → Edits (in_top (tabled i p)) (in_top (tabled i p)) (in_top (tabled i p))
unfolding kind in_cell in_thread in_top
edits_table i p = record { kinds = λ x. grind arith; left = λ x. grind arith; right = λ x. grind arith }

pub edits_measured : (m : Part) → Edits (in_cell (measured_on m)) (in_cell (measured_on m)) (λ x. x)
unfolding kind in_cell in_thread
edits_measured m = record { kinds = λ x. grind arith; left = λ x. grind arith; right = λ x. grind arith }

pub edits_phase : (f : Phase) → Edits (in_cell (in_phase f)) (in_cell (in_phase f)) (in_cell (in_phase f))
unfolding kind in_cell in_thread
edits_phase f = record { kinds = λ x. grind arith; left = λ x. grind arith; right = λ x. grind arith }

pub edits_thread : (u : Bool) (rs qs : List ℕ) → Edits (in_thread (threaded u rs)) (in_thread (threaded u qs)) (in_thread (threaded u []))
unfolding kind in_cell in_thread
edits_thread u rs qs = record { kinds = λ x. grind arith; left = λ x. grind arith; right = λ x. grind arith }

-- Pages look alike: what is public is the same, and of their own pages everything; Q is said of those that they hold.
pub record LikePages (os : Observer) (Q : ℕ → Type 0) (s t : State) : Type 0 where
  pub same : PublicSame s t
  pub own : (p : ℕ) → theirs os s p ≡ true → entry s p ≡ entry t p
  pub holds : (p : ℕ) → theirs os s p ≡ true → is_held (entry s p) ≡ true → Q p

-- A page that becomes a held one has to be as Q says.
abbrev Fine : (ℕ → Type 0) → Edit → Type 0
Fine Q (put_entry p x) = (is_held x ≡ false) ⊎ Q p
Fine Q (put_slot c w z) = Unit {0}
Fine Q (put_table c i p) = Unit {0}
Fine Q (measure c m) = Unit {0}
Fine Q (set_phase c f) = Unit {0}
Fine Q (set_thread q u rs) = Unit {0}
Fine Q (write_page p ws) = Unit {0}
Fine Q (run r) = Unit {0}

abbrev pub AllFine : (ℕ → Type 0) → List Edit → Type 0
AllFine Q [] = Unit {0}
AllFine Q (e ∷ es) = Fine Q e × AllFine Q es

module _ (os : Observer) (Q : ℕ → Type 0) (s t : State) (h : LikePages os Q s t) where
  like_set : (p : ℕ) (x y : Entry) → public_part x ≡ public_part y → (among os (cell_of p x) ≡ true → x ≡ y) →
      (among os (cell_of p x) ≡ true → is_held x ≡ true → Q p) →
      LikePages os Q (with_entries s (set s.entries p x)) (with_entries t (set t.entries p y))
  like_set p x y e o k =
      let both = λ (q : ℕ). getD_set_both s.entries t.entries p q x y free h.same.long in record {
        same = record {
          long = length-set s.entries p x ∙ (h.same.long ∙ sym (length-set t.entries p y));
          public = λ q. elim (both q) [ inl z ↦ rw (z.0, z.1) (h.same.public q) | inr z ↦ rw (z.1, z.2) e ];
        };
        own = λ q g. elim (both q) [
          | inl z ↦ rw (z.0, z.1) (h.own q (rw z.0 at g))
          | inr z ↦ rw (z.1, z.2) (o (rw (z.1, ← z.0) at g))
        ];
        holds = λ q g a. elim (both q) [
          | inl z ↦ h.holds q (rw z.0 at g) (rw z.0 at a)
          | inr z ↦ rw (← z.0) (k (rw (z.1, ← z.0) at g) (rw z.1 at a))
        ];
      }

  like_change : (p : ℕ) (f g F : Entry → Entry) → Edits f g F → (theirs os s p ≡ true → (x : Entry) → f x ≡ g x) →
      LikePages os Q (with_entries s (changed_at s.entries p f)) (with_entries t (changed_at t.entries p g))
  like_change p f g F e o =
      like_set p (f (entry s p)) (g (entry t p)) (e.left (entry s p) ∙ (ap F (h.same.public p) ∙ sym (e.right (entry t p))))
      (λ z. let k = rw (e.kinds (entry s p)) at z in o k (entry s p) ∙ ap g (h.own p k))
      (λ z a. h.holds p (rw (e.kinds (entry s p)) at z) (rw (e.kinds (entry s p)) at a))

  like_slot : (q : Option ℕ) (j : ℕ) (z : Slot) →
      LikePages os Q (with_entries s (slot_put_in s.entries q j z)) (with_entries t (slot_put_in t.entries q j z))
  unfolding slot_put_in
  like_slot None j z = h
  like_slot (Some q) j z = like_change q _ _ _ (edits_slot j z) (λ k x. refl)

  like_table : (y : Option Cell) (i p : ℕ) →
      LikePages os Q (with_entries s (table_put_by s.entries y i p)) (with_entries t (table_put_by t.entries y i p))
  unfolding table_put_by
  like_table None i p = h
  like_table (Some y) i p = like_change y.top _ _ _ (edits_table i p) (λ k x. refl)

  like_thread : (q : ℕ) (u : Bool) (rs qs : List ℕ) → (theirs os s q ≡ true → rs ≡ qs) →
      LikePages os Q (apply s (set_thread q u rs)) (apply t (set_thread q u qs))
  like_thread q u rs qs e = like_change q _ _ _ (edits_thread u rs qs) (λ k x. ap (λ y. in_thread (threaded u y) x) (e k))

  like_edit : (e : Edit) → Fine Q e → LikePages os Q (apply s e) (apply t e)
  like_edit (put_entry p x) k =
      like_set p x x refl (λ z. refl) (λ z a. elim k [ inl n ↦ absurd (grind (arith, n, a)) | inr q ↦ q ])
  like_edit (put_slot c w z) k =
      rw (same_tables s t h.same c) (like_slot (get_or (tables_by t.entries (cell_in (entry t c))) w.table None) w.slot z)
  like_edit (put_table c i p) k = rw (same_put s t h.same c i p) (like_table (cell_in (entry t c)) i p)
  like_edit (measure c m) k = like_change c _ _ _ (edits_measured m) (λ z x. refl)
  like_edit (set_phase c f) k = like_change c _ _ _ (edits_phase f) (λ z x. refl)
  like_edit (set_thread q u rs) k = like_thread q u rs rs (λ z. refl)
  like_edit (write_page p ws) k =
      record { same = record { long = h.same.long; public = h.same.public }; own = h.own; holds = h.holds }
  like_edit (run r) k = record { same = record { long = h.same.long; public = h.same.public }; own = h.own; holds = h.holds }

like_edits : (os : Observer) (Q : ℕ → Type 0) (s t : State) (es : List Edit) → AllFine Q es → LikePages os Q s t →
    LikePages os Q (apply_all s es) (apply_all t es)
like_edits os Q s t [] k h = h
like_edits os Q s t (e ∷ es) k h = like_edits os Q (apply s e) (apply t e) es k.1 (like_edit os Q s t h e k.0)

-- All but pages: closed pages are as many, and the rest is the same.
pub record Beside (s t : State) : Type 0 where
  pub long : length s.contents ≡ length t.contents
  pub open_pages : s.open_pages ≡ t.open_pages
  pub running : s.running ≡ t.running

beside_edit : (s t : State) (e : Edit) → Beside s t → Beside (apply s e) (apply t e)
beside_edit s t e h = record { long = grind (arith, length-set); open_pages = grind arith; running = grind arith }

has_edit : (s t : State) (e : Edit) (p : ℕ) → Beside s t → get_or s.contents p [] ≡ get_or t.contents p [] →
    get_or (apply s e).contents p [] ≡ get_or (apply t e).contents p []
has_edit s t e p h k = grind (arith, set_same)

-- A closed page has the same words in both.
abbrev pub Agree : State → State → ℕ → Type 0
Agree s t p = get_or s.contents p [] ≡ get_or t.contents p []

pub record Like (os : Observer) (s t : State) : Type 0 where
  pub pages : LikePages os (Agree s t) s t
  pub beside : Beside s t

has_edits : (s t : State) (es : List Edit) (p : ℕ) → Beside s t → Agree s t p → Agree (apply_all s es) (apply_all t es) p
has_edits s t [] p h k = k
has_edits s t (e ∷ es) p h k = has_edits (apply s e) (apply t e) es p (beside_edit s t e h) (has_edit s t e p h k)

beside_edits : (s t : State) (es : List Edit) → Beside s t → Beside (apply_all s es) (apply_all t es)
beside_edits s t [] h = h
beside_edits s t (e ∷ es) h = beside_edits (apply s e) (apply t e) es (beside_edit s t e h)

now_says : (os : Observer) (P Q : ℕ → Type 0) (s t : State) → ((p : ℕ) → P p → Q p) → LikePages os P s t → LikePages os Q s t
now_says os P Q s t f h = record { same = h.same; own = h.own; holds = λ p g a. f p (h.holds p g a) }

-- Edits leave two such states alike, where each page that becomes a held one has the same words then.
pub like_all : (os : Observer) (s t : State) (es : List Edit) → Like os s t → AllFine (Agree (apply_all s es) (apply_all t es)) es →
    Like os (apply_all s es) (apply_all t es)
like_all os s t es h k = record {
  pages = like_edits os _ s t es k (now_says os _ _ s t (λ p. has_edits s t es p h.beside) h.pages);
  beside = beside_edits s t es h.beside;
}

-- One thread is given registers, the same in both if it is theirs.
pub like_put : (os : Observer) (s t : State) (q : ℕ) (u : Bool) (rs qs : List ℕ) → Like os s t → (theirs os s q ≡ true → rs ≡ qs) →
    Like os (apply s (set_thread q u rs)) (apply t (set_thread q u qs))
like_put os s t q u rs qs h e = record {
  pages = like_thread os (Agree s t) s t h.pages q u rs qs e;
  beside = record { long = h.beside.long; open_pages = h.beside.open_pages; running = h.beside.running };
}

-- Worlds look alike if their states do, and the registers are the same of a thread that runs and is theirs.
pub to_like : (l : Limits) (os : Observer) (v w : World) → Sizes l v.state → Sizes l w.state → Alike l os v w →
    Like os v.state w.state
to_like l os v w a b h =
    record {
      pages = record {
        same = record {
          long = a.entries ∙ sym b.entries;
          public = λ p. elim (cases_lt p l.pages) [ inl k ↦ h.public p k | inr k ↦ ap public_part (the_same p k) ];
        };
        own = λ p g. elim (cases_lt p l.pages) [ inl k ↦ h.own p k g | inr k ↦ the_same p k ];
        holds = λ p g z. elim (cases_lt p l.pages) [
          | inl k ↦ h.own_contents p k g z
          | inr k ↦
              get_or_past v.state.contents p [] (rw a.contents k)
              ∙ sym (get_or_past w.state.contents p [] (rw b.contents k))
        ];
      };
      beside = record { long = a.contents ∙ sym b.contents; open_pages = h.open_pages; running = h.running };
    }
  where
    the_same : (p : ℕ) → l.pages ≤ p → entry v.state p ≡ entry w.state p
    the_same p k = get_or_past v.state.entries p free (rw a.entries k) ∙ sym (get_or_past w.state.entries p free (rw b.entries k))

pub from_like : (l : Limits) (os : Observer) (v w : World) → Like os v.state w.state →
    (runs_theirs os v.state ≡ true → v.registers ≡ w.registers) → Alike l os v w
from_like l os v w h g = record {
  public = λ p k. h.pages.same.public p;
  own = λ p k. h.pages.own p;
  own_contents = λ p k. h.pages.holds p;
  open_pages = h.beside.open_pages;
  running = h.beside.running;
  registers = g;
}
