-- A piece of a format that keeps its promises in front of any bytes, and what follows for all of the bytes.
use Rattle.std.proofs.Common.{◌≡◌, ℕ, ◌+◌, ◌-◌, ◌<◌, ◌≤◌, ◌⊎◌, List, [], ◌∷◌, ◌++◌, length, get_or, take, Ok, Err, Result, sym, refl, ap, ◌∙◌, subst, inl, inr, ⊎_elim, append_assoc, append-nil, arith, length-append, MatchResult}
use Rattle.std.proofs.lemmas.List.{take_at, length-take-le}
use Rattle.std.proofs.lemmas.Bool.{cases_lt}
use Rattle.fields.specs.Bytes.{Bytes}
use Rattle.fields.specs.Codec.{Got, got, lost, Codec, and_then, both, via, closed, read_all, Begins, ReadBack, OneSpelling, Ceases}
use Rattle.fields.specs.Codec.{SaysWhere}
use Rattle.fields.specs.Steps.{seen, Reading}
use Rattle.std.proofs.ByRecursion.{All-from_get_or}
use Rattle.fields.proofs.Lists.{begins_more, begins_long, take_behind, taken_behind, all_parts}

-- where a piece is lost with r bytes left, some value's bytes share all that stands before them
abbrev pub Reached : {A : Type 0} → Codec A → List ℕ → ℕ → Type 0
Reached {A} c bs r = (v : A) × (k : ℕ) × (k + r ≡ length bs) × c.fits v × Begins (take k bs) (c.write v)

pub record Lawful {A : Type 0} (c : Codec A) : Type 0 where
  pub back : (v : A) (rest : List ℕ) → c.fits v → c.read (c.write v ++ rest) ≡ got v rest
  pub only : (bs : List ℕ) (v : A) (rest : List ℕ) → Bytes bs → c.read bs ≡ got v rest → c.fits v × (bs ≡ c.write v ++ rest)
  pub reached : (bs : List ℕ) (r : ℕ) → Bytes bs → c.read bs ≡ lost r → Reached c bs r
  pub no_more : (bs : List ℕ) (r : ℕ) → Bytes bs → c.read bs ≡ lost r → (v : A) (more : List ℕ) (j : ℕ) → c.fits v →
      j ≤ length bs → Begins (take j bs) (c.write v ++ more) → j + r ≤ length bs

-- two values whose bytes stand at the front of the same bytes are one
pub one_front : {A : Type 0} (c : Codec A) (l : Lawful c) (v w : A) (x y : List ℕ) → c.fits v → c.fits w →
    c.write v ++ x ≡ c.write w ++ y → got v x ≡ got w y
one_front c l v w x y f g e = sym (l.back v x f) ∙ ap c.read e ∙ l.back w y g

-- some value can be carried
pub inhabited : {A : Type 0} (c : Codec A) (l : Lawful c) → (v : A) × c.fits v
inhabited {A} c l =
    let by : (g : Got A) → c.read [] ≡ g → (v : A) × c.fits v =
    λ g. elim g as (λ g. c.read [] ≡ g → (v : A) × c.fits v) [
      | got v rest ↦ λ e. (v, (l.only [] v rest tt e).0)
      | lost r ↦ λ e. let h = l.reached [] r tt e in (h.0, h.3)
    ] in
    by (c.read []) refl

-- a value whose bytes stand in front, and all that begins as long as they are
pub front_of : {A : Type 0} (c : Codec A) (l : Lawful c) (v w : A) (x rest : List ℕ) (j : ℕ) → c.fits v → c.fits w →
    length (c.write w) ≤ j → Begins (take j (c.write w ++ rest)) (c.write v ++ x) →
    (v ≡ w) × Begins (take (j - length (c.write w)) rest) x
front_of c l v w x rest j f g h b =
    let k : ℕ = j - length (c.write w) in
    let e : j ≡ length (c.write w) + k = omega arith in
    let t : take j (c.write w ++ rest) ≡ c.write w ++ take k rest =
    ap (λ n. take n (c.write w ++ rest)) e ∙ take_behind (c.write w) rest k in
    let u : c.write v ++ x ≡ c.write w ++ (take k rest ++ b.0) =
    b.1 ∙ ap (λ z. z ++ b.0) t ∙ append_assoc (c.write w) (take k rest) b.0 in
    let s : got v x ≡ got w (take k rest ++ b.0) = one_front c l v w x _ f g u in
    (cc, (b.0, cc))

-- what was read before what was read behind it
abbrev Before : {A B : Type 0} → Got A → (A → List ℕ → Got B) → Got B → Type 0
Before {A} g f h = (a : A) × (mid : List ℕ) × (g ≡ got a mid) × (f a mid ≡ h)

pub clash : {A P : Type 0} (a : A) (rest : List ℕ) (r : ℕ) → got a rest ≡ lost r → P
clash a rest r e = let z : ◌≡◌ {A = ℕ} 0 1 = cc in absurd (omega arith)

pub then_got : {A B : Type 0} (g : Got A) (f : A → List ℕ → Got B) (b : B) (rest : List ℕ) → and_then g f ≡ got b rest → Before g f
    (got b rest)
then_got (got a mid) f b rest e = (a, mid, refl, e)
then_got (lost r) f b rest e = clash b rest r (sym e)

pub then_lost : {A B : Type 0} (g : Got A) (f : A → List ℕ → Got B) (r : ℕ) → and_then g f ≡ lost r → (g ≡ lost r) ⊎ Before g f (lost r)
then_lost (got a mid) f r e = inr (a, mid, refl, e)
then_lost (lost s) f r e = inl (cc)

-- what only maps a value is lost where the value is
only_lost : {A B : Type 0} (g : Got A) (f : A → B) (r : ℕ) → and_then g (λ a rest. got (f a) rest) ≡ lost r → g ≡ lost r
only_lost (got a rest) f r e = clash (f a) rest r e
only_lost (lost s) f r e = cc

second_lost : {A B : Type 0} (q : A → Codec B) (a : A) (mid : List ℕ) (r : ℕ) →
    and_then {B = A × B} ((q a).read mid) (λ b end. got (a, b) end) ≡ lost r → (q a).read mid ≡ lost r
second_lost q a mid r e = only_lost ((q a).read mid) (λ b. (a, b)) r e

-- one piece and then another
abbrev Pair : {A B : Type 0} (p : Codec A) (q : A → Codec B) → Type 0
Pair {A} p q = Lawful p × ((a : A) → p.fits a → Lawful (q a))

-- the second piece stands behind the first
behind : {A : Type 0} (p : Codec A) (l : Lawful p) (bs : List ℕ) (a : A) (mid : List ℕ) → Bytes bs → p.read bs ≡ got a mid →
    p.fits a × (bs ≡ p.write a ++ mid) × Bytes mid × (length bs ≡ length (p.write a) + length mid)
behind p l bs a mid t e =
    let o = l.only bs a mid t e in
    (o.0, o.1, (all_parts _ (p.write a) mid (rw o.1 at t)).1, ap length o.1 ∙ length-append (p.write a) mid)

both_back : {A B : Type 0} (p : Codec A) (q : A → Codec B) → Pair p q → (v : A × B) (rest : List ℕ) → (both p q).fits v →
    (both p q).read ((both p q).write v ++ rest) ≡ got v rest
both_back p q l v rest f =
    rw (
      append_assoc (p.write v.0) ((q v.0).write v.1) rest,
      l.0.back v.0 ((q v.0).write v.1 ++ rest) f.0,
      (l.1 v.0 f.0).back v.1 rest f.1,
    ) refl

both_only : {A B : Type 0} (p : Codec A) (q : A → Codec B) → Pair p q → (bs : List ℕ) (v : A × B) (rest : List ℕ) → Bytes bs →
    (both p q).read bs ≡ got v rest → (both p q).fits v × (bs ≡ (both p q).write v ++ rest)
both_only p q l bs v rest t e =
    let g = then_got (p.read bs) _ v rest e in
    let a = g.0 in
    let o = behind p l.0 bs a g.1 t g.2 in
    let h = then_got ((q a).read g.1) _ v rest g.3 in
    let u = (l.1 a o.0).only g.1 h.0 h.1 o.2 h.2 in
    let av : (a, h.0) ≡ v = cc in
    let ev : h.1 ≡ rest = cc in
    let P : _ → _ → Type 0 = λ v rest. (both p q).fits v × (bs ≡ (both p q).write v ++ rest) in
    subst (P v) ev (subst (λ v. P v h.1) av
    ((o.0, u.0), o.1 ∙ ap (λ z. p.write a ++ z) u.1 ∙ sym (append_assoc (p.write a) ((q a).write h.0) h.1)))

both_reached : {A B : Type 0} (p : Codec A) (q : A → Codec B) → Pair p q → (bs : List ℕ) (r : ℕ) → Bytes bs →
    (both p q).read bs ≡ lost r → Reached (both p q) bs r
both_reached p q l bs r t e =
    ⊎_elim
    (λ g. let w = l.0.reached bs r t g in
    let b = inhabited (q w.0) (l.1 w.0 w.3) in
    ((w.0, b.0), w.1, w.2, (w.3, b.1), begins_more _ _ _ w.4))
    (λ g. let a = g.0 in
    let o = behind p l.0 bs a g.1 t g.2 in
    let n = second_lost q a g.1 r g.3 in
    let w = (l.1 a o.0).reached g.1 r o.2 n in
    let u = taken_behind (p.write a) g.1 bs ((q a).write w.0) w.1 r o.1 w.2 w.4 in
    ((a, w.0), length (p.write a) + w.1, u.0, (o.0, w.3), u.1))
    (then_lost (p.read bs) _ r e)

both_no_more : {A B : Type 0} (p : Codec A) (q : A → Codec B) → Pair p q → (bs : List ℕ) (r : ℕ) → Bytes bs → (both p q).read bs ≡ lost r →
    (v : A × B) (more : List ℕ) (j : ℕ) → (both p q).fits v → j ≤ length bs → Begins (take j bs) ((both p q).write v ++ more) →
    j + r ≤ length bs
both_no_more p q l bs r t e v more j f h b =
    let c : List ℕ = (q v.0).write v.1 in
    let d : Begins (take j bs) (p.write v.0 ++ (c ++ more)) = (b.0, sym (append_assoc (p.write v.0) c more) ∙ b.1) in
    ⊎_elim
    (λ g. l.0.no_more bs r t g v.0 (c ++ more) j f.0 h d)
    (λ g. let a = g.0 in
    let o = behind p l.0 bs a g.1 t g.2 in
    let n = second_lost q a g.1 r g.3 in
    let w = (l.1 a o.0).reached g.1 r o.2 n in
    ⊎_elim
    (λ short. omega (arith, w.2, o.3))
    (λ long.
    let fr = front_of p l.0 v.0 a (c ++ more) g.1 j f.0 o.0 long
    (subst (λ z. Begins (take j z) (p.write v.0 ++ (c ++ more))) o.1 d) in
    let same : (q v.0).fits v.1 → (q a).fits v.1 = subst (λ x. (q v.0).fits v.1 → (q x).fits v.1) fr.0 (λ z. z) in
    let at_a : c ≡ (q a).write v.1 = ap (λ x. (q x).write v.1) fr.0 in
    let k : ℕ = j - length (p.write a) in
    let m = (l.1 a o.0).no_more g.1 r o.2 n v.1 more k (same f.1) (omega (arith, o.3))
    (subst (λ z. Begins (take k g.1) (z ++ more)) at_a fr.1) in
    omega (arith, o.3))
    (cases_lt j (length (p.write a))))
    (then_lost (p.read bs) _ r e)

pub lawful_both : {A B : Type 0} (p : Codec A) (q : A → Codec B) → Lawful p → ((a : A) → p.fits a → Lawful (q a)) → Lawful (both p q)
lawful_both p q l m = record {
  back = both_back p q (l, m);
  only = both_only p q (l, m);
  reached = both_reached p q (l, m);
  no_more = both_no_more p q (l, m);
}

-- the same bytes for values of another type
pub lawful_via : {A B : Type 0} (to : A → B) (from : B → A) (c : Codec A) → Lawful c → ((a : A) → c.fits a → from (to a) ≡ a) →
    Lawful (via to from c)
lawful_via to from c l same = record {
  back = λ v rest f. rw (l.back (from v) rest f.0, f.1) refl;
  only = λ bs v rest t e.
      let g = then_got (c.read bs) _ v rest e in
      let o = l.only bs g.0 g.1 t g.2 in
      let tv : to g.0 ≡ v = cc in
      let ev : g.1 ≡ rest = cc in
      let fv : g.0 ≡ from v = sym (same g.0 o.0) ∙ ap from tv in
      ((subst c.fits fv o.0, ap to (sym fv) ∙ tv), o.1 ∙ ap (λ a. c.write a ++ g.1) fv ∙ ap (λ z. c.write (from v) ++ z) ev);
  reached = λ bs r t e.
      let w = l.reached bs r t (only_lost (c.read bs) to r e) in
      let s = same w.0 w.3 in
      (to w.0, w.1, w.2, (subst c.fits (sym s) w.3, ap to s), subst (λ a. Begins (take w.1 bs) (c.write a)) (sym s) w.4);
  no_more = λ bs r t e v more j f h b. l.no_more bs r t (only_lost (c.read bs) to r e) (from v) more j f.0 h b;
}

-- all of the bytes
pub read_back : {A : Type 0} (c : Codec A) → Lawful c → ReadBack c
read_back c l v f =
    let e : c.read (c.write v) ≡ got v [] = ap c.read (sym (append-nil (c.write v))) ∙ l.back v [] f in
    rw e refl

closed_ok : {A : Type 0} (n : ℕ) (g : Got A) (v : A) → closed n g ≡ Ok v → g ≡ got v []
closed_ok n (got w []) v e = cc
closed_ok n (got w (b ∷ bs)) v e = let z : ◌≡◌ {A = ℕ} 0 1 = cc in absurd (omega arith)
closed_ok n (lost r) v e = let z : ◌≡◌ {A = ℕ} 0 1 = cc in absurd (omega arith)

pub one_spelling : {A : Type 0} (c : Codec A) → Lawful c → OneSpelling c
one_spelling c l bs v t e =
    let o = l.only bs v [] t (closed_ok (length bs) (c.read bs) v e) in
    (o.0, sym (o.1 ∙ append-nil (c.write v)))

-- bytes are lost with so many left, or something stands behind a value
abbrev Left : {A : Type 0} → ℕ → Got A → ℕ → Type 0
Left {A} n g k = ((r : ℕ) × (g ≡ lost r) × (k ≡ n - r)) ⊎ ((v : A) × (rest : List ℕ) × (g ≡ got v rest) × (k ≡ n - length rest) ×
    (0 < length rest))

closed_err : {A : Type 0} (n : ℕ) (g : Got A) (k : ℕ) → closed n g ≡ Err k → Left n g k
closed_err n (got v []) k e = let z : ◌≡◌ {A = ℕ} 0 1 = cc in absurd (omega arith)
closed_err n (got v (b ∷ bs)) k e = inr (v, b ∷ bs, refl, cc, omega arith)
closed_err n (lost r) k e = inl (r, refl, cc)

pub says_where : {A : Type 0} (c : Codec A) → Lawful c → SaysWhere c
says_where c l bs k t e =
    ⊎_elim
    (λ g. let w = l.reached bs g.0 t g.1 in
    let wk : w.1 ≡ k = omega (arith, w.2, g.2) in
    record {
      within = omega (arith, w.2, g.2);
      shared = (w.0, w.3, subst (λ n. Begins (take n bs) (c.write w.0)) wk w.4);
      longest = λ v j f h b.
          let d = subst (λ z. Begins (take j bs) z) (sym (append-nil (c.write v))) b in
          omega (arith, l.no_more bs g.0 t g.1 v [] j f h d, g.2);
    })
    (λ g. let v = g.0 in
    let o = behind c l bs v g.1 t g.2 in
    let kv : k ≡ length (c.write v) = omega (arith, g.3, o.3) in
    record {
      within = omega (arith, g.3);
      shared = (v, o.0, ([], rw (kv, o.1, take_at (c.write v) g.1 (length (c.write v)) refl) (sym (append-nil (c.write v)))));
      longest = λ w j f h b.
          ⊎_elim
          (λ short. omega arith)
          (λ long.
          let d = subst (λ z. Begins (take j z) (c.write w ++ [])) o.1 (subst (λ z. Begins (take j bs) z) (sym (append-nil
          (c.write w))) b) in
          let fr = front_of c l w v [] g.1 j f o.0 long d in
          let n = begins_long _ _ fr.1 in
          let m : length (take (j - length (c.write v)) g.1) ≡ j - length (c.write v) = length-take-le _ g.1 (omega (
            arith,
            o.3,
          )) in
          omega arith)
          (cases_lt j (length (c.write v)));
    })
    (closed_err (length bs) (c.read bs) k e)

-- a place lies within the bytes
pub err_within : {A : Type 0} (n : ℕ) (g : Got A) (k : ℕ) → closed n g ≡ Err k → k ≤ n
err_within n g k e = ⊎_elim (λ l. omega (arith, l.2)) (λ l. omega (arith, l.3)) (closed_err n g k e)

-- what was read, and by that how it is spelled
spelled : {A B : Type 0} (c : Codec A) (f : B → A) (bs : List ℕ) (r : Result B ℕ) → Lawful c → Bytes bs → read_all c bs ≡ seen f r →
    MatchResult r (λ v. c.write (f v) ≡ bs) (λ k. Ceases c bs k)
spelled c f bs (Ok v) l t e = (one_spelling c l bs (f v) t e).1
spelled c f bs (Err k) l t e = says_where c l bs k t e

pub reading : {A B : Type 0} (c : Codec A) (f : B → A) (bs : List ℕ) (r : Result B ℕ) → Lawful c → ((i : ℕ) → get_or bs i 0 < 256) →
    read_all c bs ≡ seen f r → Reading c f bs r
reading c f bs r l t e = record { value = e; spelling = spelled c f bs r l (All-from_get_or _ bs 0 (λ i _. t i)) e }
