-- Bytes can carry the calls that lines are.
use Rattle.std.proofs.Common.{◌≡◌, ℕ, zero, suc, ◌^◌, ◌<◌, ◌≤◌, Bool, true, false, cond, ltb, leb, ◌⊎◌, List, [], ◌∷◌, length, get_or, Some, None, codes, Option, sym, refl, ap, ◌∙◌, subst, inl, inr, ⊎_elim, arith, le-leb, leb-true}
use Rattle.std.specs.Option.{option_map}
use Rattle.std.specs.Str.{bytes_eq}
use Rattle.std.proofs.ByRecursion.{All-set}
use Rattle.std.proofs.lemmas.Bool.{cases_Bool}
use Rattle.model.specs.Calls as model
use Rattle.fields.specs.Bytes.{Wide}
use Rattle.fields.specs.declared.values.Place.{Place}
use Rattle.calls.specs.Kinds.{kind_number}
use Rattle.calls.specs.declared.kind.Kind.{Kind as CallKind}
use Rattle.calls.specs.declared.kind.Kind.TheVariants as kinds
use Rattle.calls.specs.Table.{carried, Carried, read_call}
use Rattle.calls.proofs.Stand.{calls_back}
use Rattle.script.specs.Words.{words}
use Rattle.script.specs.Numerals.{number_of}
use Rattle.script.specs.Taking.{and_then, take_number, take_rights, place_with, take_place}
use Rattle.script.specs.Pages.{is_open}
use Rattle.script.specs.Forms.{Form, forms}
use Rattle.script.specs.Fitting.{nothing_taken, with_number, with_place, take_keyword, take_word, fit}
use Rattle.script.specs.Lines as line
use Rattle.script.specs.Lines.{before, each, at_most, word_of, taken_body, call_with, nth_number, alone}
use Rattle.script.specs.Lines.{meant, or_else, as_form, first_form, skipped, line_of}
use Rattle.script.specs.declared.forms.Kind.{Kind}
use Rattle.script.specs.declared.forms.Kind.TheVariants.{Call, HoldFrom, Interrupt, Limits, Write, Print}
use Rattle.script.specs.declared.fitting.Taken.{Taken}
use Rattle.script.specs.Said.{Said, Back}
use Rattle.script.specs.declared.line.Line.{Line}
use Rattle.script.specs.declared.line.Line.TheVariants as lines
use Rattle.script.proofs.Figures.{numbers_only}

-- nothing is something
no_some : {A : Type 0} (P : Type 0) (x : A) → None ≡ Some x → P
no_some P x e = let z : ◌≡◌ {A = ℕ} 0 1 = cc in absurd (omega arith)

and_then_some : {A B : Type 0} (o : Option (A × List (List ℕ))) (f : A → List (List ℕ) → Option B) (b : B) → and_then o f ≡ Some b →
    (a : A) × (ws : List (List ℕ)) × (o ≡ Some (a, ws)) × (f a ws ≡ Some b)
and_then_some None f b e = no_some _ b e
and_then_some (Some x) f b e = (x.0, x.1, refl, e)

mapped_some : {A B : Type 0} (f : A → B) (o : Option A) (b : B) → option_map f o ≡ Some b → (a : A) × (o ≡ Some a) × (f a ≡ b)
mapped_some f None b e = no_some _ b e
mapped_some f (Some a) b e = (a, refl, cc)

cond_some : {A : Type 0} (t : Bool) (o : Option A) (b : A) → cond t o None ≡ Some b → (t ≡ true) × (o ≡ Some b)
cond_some true o b e = (refl, e)
cond_some false o b e = no_some _ b e

-- what was taken fits eight bytes
pub record Small (t : Taken) : Type 0 where
  pub numbers : Wide t.numbers
  pub table : t.place.table < 2 ^ 64
  pub slot : t.place.slot < 2 ^ 64

number_small : (ws : List (List ℕ)) (n : ℕ) (rest : List (List ℕ)) → take_number ws ≡ Some (n, rest) → n < 2 ^ 64
number_small [] n rest e = no_some _ (n, rest) e
number_small (w ∷ ws) n rest e =
    let m = mapped_some (λ n. (n, ws)) (number_of w) (n, rest) e in
    let i : m.0 ≡ n = ap (λ x. x.0) m.2 in
    omega (arith, (numbers_only w m.0 m.1).1)

place_small : (ws : List (List ℕ)) (w : Place) (rest : List (List ℕ)) → take_place ws ≡ Some (w, rest) →
    (w.table < 2 ^ 64) × (w.slot < 2 ^ 64)
place_small ws w rest e =
    let a = and_then_some (take_number ws) _ (w, rest) e in
    let b = and_then_some (take_number a.1) _ (w, rest) a.3 in
    let p : place_with a.0 b.0 (take_rights b.1) ≡ (w, rest) = cc b.3 in
    let i : a.0 ≡ w.table = ap (λ x. x.0.table) p in
    let j : b.0 ≡ w.slot = ap (λ x. x.0.slot) p in
    (omega (arith, number_small ws a.0 a.1 a.2), omega (arith, number_small a.1 b.0 b.1 b.2))

with_small : (t u : Taken) (n : ℕ) → Small t → n < 2 ^ 64 → with_number t n ≡ Some u → Small u
with_small t u n s h e =
    let c = cond_some (ltb t.count 4) _ u e in
    let i = ap (λ o. elim o as (λ _. Taken) [ None ↦ u | Some x ↦ x ]) c.1 in
    let ns = All-set (λ n. n < 2 ^ 64) t.numbers t.count n h s.numbers in
    subst Small i (record { numbers = ns; table = s.table; slot = s.slot })

keyword_small : (sign : List ℕ) (ws : List (List ℕ)) (t u : Taken) (rest : List (List ℕ)) → Small t →
    take_keyword sign ws t ≡ Some (u, rest) → Small u
keyword_small sign [] t u rest s e = no_some _ (u, rest) e
keyword_small sign (w ∷ ws) t u rest s e =
    let c = cond_some (bytes_eq w sign) (Some (t, ws)) (u, rest) e in
    let p : ◌≡◌ {A = Taken × List (List ℕ)} (t, ws) (u, rest) = cc c.1 in
    subst Small (ap (λ x. x.0) p) s

word_small : (sign : List ℕ) (ws : List (List ℕ)) (t u : Taken) (rest : List (List ℕ)) → Small t → take_word sign ws t ≡ Some (u, rest) →
    Small u
unfolding take_word
word_small sign ws t u rest s e =
    ⊎_elim
    (λ (y : bytes_eq sign (codes "#") ≡ true).
    let a = and_then_some (take_number ws) _ (u, rest) (rw y at e) in
    let m = mapped_some (λ t. (t, a.1)) (with_number t a.0) (u, rest) a.3 in
    subst Small (ap (λ x. x.0) m.2) (with_small t m.0 a.0 s (number_small ws a.0 a.1 a.2) m.1))
    (λ (y : bytes_eq sign (codes "#") ≡ false).
    ⊎_elim
    (λ (z : bytes_eq sign (codes "@") ≡ true).
    let a = and_then_some (take_place ws) _ (u, rest) (rw (y, z) at e) in
    let p : ◌≡◌ {A = Taken × List (List ℕ)} (with_place t a.0, a.1) (u, rest) = cc a.3 in
    let l = place_small ws a.0 a.1 a.2 in
    subst Small (ap (λ x. x.0) p) (record { numbers = s.numbers; table = l.0; slot = l.1 }))
    (λ (z : bytes_eq sign (codes "@") ≡ false). keyword_small sign ws t u rest s (rw (y, z) at e))
    (cases_Bool (bytes_eq sign (codes "@"))))
    (cases_Bool (bytes_eq sign (codes "#")))

fit_small : (signs ws : List (List ℕ)) (t u : Taken) (rest : List (List ℕ)) → Small t → fit signs ws t ≡ Some (u, rest) → Small u
unfolding fit
fit_small [] ws t u rest s e =
    let p : ◌≡◌ {A = Taken × List (List ℕ)} (t, ws) (u, rest) = cc in subst Small (ap (λ x. x.0) p) s
fit_small (sign ∷ signs) ws t u rest s e =
    let a = and_then_some (take_word sign ws t) (λ t ws. fit signs ws t) (u, rest) e in
    fit_small signs a.1 a.0 u rest (word_small sign ws t a.0 a.1 s a.2) a.3

-- any of numbers that fit fits, and so does 0 behind them
at_small : (ns : List ℕ) (i : ℕ) → Wide ns → get_or ns i 0 < 2 ^ 64
at_small [] i h = omega arith
at_small (n ∷ ns) zero h = h.0
at_small (n ∷ ns) (suc i) h = at_small ns i h.1

none : 0 < 2 ^ 64
none = omega arith

-- the first of the numbers, and zeros
zeros : Wide (0 ∷ (0 ∷ (0 ∷ (0 ∷ []))))
zeros = (none, (none, (none, (none, tt))))

nowhere_small : Wide (0 ∷ (0 ∷ []))
nowhere_small = (none, (none, tt))

module _ (t : Taken) (s : Small t) where
  first : (i : ℕ) → nth_number t i < 2 ^ 64
  first i = at_small t.numbers i s.numbers

  one : Wide (nth_number t 0 ∷ (0 ∷ (0 ∷ (0 ∷ []))))
  one = (first 0, (none, (none, (none, tt))))

  two : Wide (nth_number t 0 ∷ (nth_number t 1 ∷ (0 ∷ (0 ∷ []))))
  two = (first 0, (first 1, (none, (none, tt))))

  three : Wide (nth_number t 0 ∷ (nth_number t 1 ∷ (nth_number t 2 ∷ (0 ∷ []))))
  three = (first 0, (first 1, (first 2, (none, tt))))

  four : Wide (nth_number t 0 ∷ (nth_number t 1 ∷ (nth_number t 2 ∷ (nth_number t 3 ∷ []))))
  four = (first 0, (first 1, (first 2, (first 3, tt))))

  place_there : Wide (t.place.table ∷ (t.place.slot ∷ []))
  place_there = (s.table, (s.slot, tt))

-- a call of a kind, with no list
kind_carries : (k : CallKind) (t : Taken) → Small t → Carried (call_with (kind_number k) (taken_body t []))
unfolding call_with carried
kind_carries kinds.HowMany t s = record { short = refl; numbers = zeros; place = nowhere_small; list = tt }
kind_carries kinds.NewCell t s = record { short = refl; numbers = two t s; place = nowhere_small; list = tt }
kind_carries kinds.NewThread t s = record { short = refl; numbers = three t s; place = nowhere_small; list = tt }
kind_carries kinds.NewTable t s = record { short = refl; numbers = three t s; place = nowhere_small; list = tt }
kind_carries kinds.Hold t s = record { short = refl; numbers = two t s; place = place_there t s; list = tt }
kind_carries kinds.Give t s = record { short = refl; numbers = two t s; place = nowhere_small; list = tt }
kind_carries kinds.Show t s = record { short = refl; numbers = two t s; place = place_there t s; list = tt }
kind_carries kinds.Remove t s = record { short = refl; numbers = one t s; place = nowhere_small; list = tt }
kind_carries kinds.Seal t s = record { short = refl; numbers = one t s; place = nowhere_small; list = tt }
kind_carries kinds.Stop t s = record { short = refl; numbers = one t s; place = nowhere_small; list = tt }
kind_carries kinds.Enter t s = record { short = refl; numbers = four t s; place = nowhere_small; list = tt }
kind_carries kinds.Resume t s = record { short = refl; numbers = one t s; place = nowhere_small; list = tt }
kind_carries kinds.Leave t s = record { short = refl; numbers = one t s; place = nowhere_small; list = tt }
kind_carries kinds.Interrupt t s = record { short = refl; numbers = zeros; place = nowhere_small; list = tt }
kind_carries kinds.Fault t s = record { short = refl; numbers = one t s; place = nowhere_small; list = tt }
kind_carries kinds.Grow t s = record { short = refl; numbers = one t s; place = place_there t s; list = tt }
kind_carries kinds.Shrink t s = record { short = refl; numbers = one t s; place = place_there t s; list = tt }
kind_carries kinds.Extend t s = record { short = refl; numbers = two t s; place = nowhere_small; list = tt }
kind_carries kinds.Who t s = record { short = refl; numbers = zeros; place = nowhere_small; list = tt }
kind_carries kinds.Draw t s = record { short = refl; numbers = one t s; place = nowhere_small; list = tt }

hold_carries : (t : Taken) → Small t → Carried (call_with 4 (taken_body t (nth_number t 2 ∷ [])))
unfolding call_with carried
hold_carries t s = record { short = refl; numbers = two t s; place = place_there t s; list = (first t s 2, tt) }

before_small : (o : Option ℕ) (p : Option (List ℕ)) (l : List ℕ) → ((n : ℕ) → o ≡ Some n → n < 2 ^ 64) →
    ((m : List ℕ) → p ≡ Some m → Wide m) →
    before o p ≡ Some l → Wide l
before_small None p l f g e = no_some _ l e
before_small (Some n) None l f g e = no_some _ l e
before_small (Some n) (Some m) l f g e = let i : n ∷ m ≡ l = cc in subst Wide i (f n refl, g m refl)

each_small : (ws : List (List ℕ)) (l : List ℕ) → each number_of ws ≡ Some l → Wide l
each_small [] l e = let i : [] ≡ l = cc in subst Wide i tt
each_small (w ∷ ws) l e =
    before_small (number_of w) (each number_of ws) l (λ n f. (numbers_only w n f).1) (λ m f. each_small ws m f) e

at_most_some : (most : ℕ) (o : Option (List ℕ)) (l : List ℕ) → at_most most o ≡ Some l → (o ≡ Some l) × (length l ≤ most)
at_most_some most None l e = no_some _ l e
at_most_some most (Some ns) l e =
    let c = cond_some (leb (length ns) most) (Some ns) l e in
    let i : ns ≡ l = cc c.1 in
    (c.1, omega (arith, leb-true (length ns) most c.0, ap length i))

alone_some : (l m : line.Line) (ws : List (List ℕ)) → alone l ws ≡ Some m → l ≡ m
alone_some l m [] e = cc
alone_some l m (w ∷ ws) e = no_some _ m e

interrupt_carries : (ns : List ℕ) → Wide ns → length ns ≤ 255 → Carried (model.by_cell (model.interrupt ns))
unfolding carried
interrupt_carries ns w h = record {
  short = le-leb (length ns) 255 h;
  numbers = zeros;
  place = nowhere_small;
  list = w;
}

-- whether a line is a call
abbrev is_call : line.Line → Bool
is_call line.skip = false
is_call (line.limits c p) = false
is_call (line.call c) = true
is_call (line.write b p ws) = false
is_call (line.print b p) = false

other : (P : Type 0) (l : line.Line) (c : model.Call) → is_call l ≡ false → l ≡ line.call c → P
other P l c f e = let b : false ≡ true = sym f ∙ ap is_call e in let z : ◌≡◌ {A = ℕ} 0 1 = cc in absurd (omega arith)

same_call : (c d : model.Call) → line.call c ≡ line.call d → c ≡ d
same_call c d e = cc

meant_carries : (k : Kind) (t : Taken) (ws : List (List ℕ)) (c : model.Call) → Small t → meant k t ws ≡ Some (line.call c) →
    Carried c
meant_carries (Call n) t ws c s e = subst Carried (same_call _ c (alone_some _ _ ws e)) (kind_carries n t s)
meant_carries HoldFrom t ws c s e = subst Carried (same_call _ c (alone_some _ _ ws e)) (hold_carries t s)
meant_carries Interrupt t ws c s e =
    let m = mapped_some (λ ns. line.call (model.by_cell (model.interrupt ns))) (at_most 255 (each number_of ws)) (line.call c) e in
    let a = at_most_some 255 (each number_of ws) m.0 m.1 in
    subst Carried (same_call _ c m.2) (interrupt_carries m.0 (each_small ws m.0 a.0) a.1)
meant_carries Limits t ws c s e = other _ _ c refl (alone_some _ _ ws e)
meant_carries (Write side) t ws c s e =
    let m = mapped_some (λ ns. line.write (is_open side) (nth_number t 0) ns) (at_most 1024 (each word_of ws)) (line.call c) e in other _ _ c
    refl m.2
meant_carries (Print side) t ws c s e = other _ _ c refl (alone_some _ _ ws e)

as_carries : (f : Form) (ws : List (List ℕ)) (c : model.Call) → as_form f ws ≡ Some (line.call c) → Carried c
unfolding as_form
as_carries f ws c e =
    let a = and_then_some (fit (words f.text) ws nothing_taken) (λ t rest. meant f.kind t rest) (line.call c) e in
    let s = fit_small (words f.text) ws nothing_taken a.0 a.1
    (record { numbers = zeros; table = none; slot = none }) a.2 in
    meant_carries f.kind a.0 a.1 c s a.3

or_else_some : (o p : Option line.Line) (l : line.Line) → or_else o p ≡ Some l → (o ≡ Some l) ⊎ (p ≡ Some l)
or_else_some (Some m) p l e = inl e
or_else_some None p l e = inr e

first_carries : (fs : List Form) (ws : List (List ℕ)) (c : model.Call) → first_form fs ws ≡ Some (line.call c) → Carried c
first_carries [] ws c e = no_some _ (line.call c) e
first_carries (f ∷ fs) ws c e =
    ⊎_elim (λ l. as_carries f ws c l) (λ r. first_carries fs ws c r)
    (or_else_some (as_form f ws) (first_form fs ws) (line.call c) e)

same_some : {A : Type 0} {o : Option A} {x y : A} → o ≡ Some x → o ≡ Some y → x ≡ y
same_some e f = cc

pub line_carries : (text : List ℕ) (c : model.Call) → line_of text ≡ Some (line.call c) → Carried c
unfolding line_of
line_carries text c e =
    ⊎_elim
    (λ y. let s : Some line.skip ≡ Some (line.call c) = rw y at e in other _ line.skip c refl (cc))
    (λ y. first_carries forms (words text) c (rw y at e))
    (cases_Bool (skipped (words text)))

-- what is said of a line's call, once more
pub said_back : (text : List ℕ) (r : Line) (bytes page : List ℕ) → Said (line_of text) r bytes page → Back (line_of text) r bytes
said_back text (lines.Call n) bytes page s = λ c e.
    ap read_call s.2.front ∙ calls_back s.0 (line_carries text s.0 s.1) ∙ same_call s.0 c (same_some s.1 e)
said_back text lines.Skip bytes page s = tt
said_back text (lines.Limits p q) bytes page s = tt
said_back text (lines.Write p n) bytes page s = tt
said_back text (lines.Print p) bytes page s = tt
said_back text lines.Unreadable bytes page s = tt
