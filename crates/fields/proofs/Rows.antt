-- A table's messages keep their promises, if each row's fields can be had back from what they make.
use Rattle.std.proofs.Common.{◌≡◌, ℕ, suc, ◌+◌, ◌-◌, ◌<◌, ◌≤◌, Bool, true, false, eqb, List, [], ◌∷◌, ◌++◌, length, get_or, take, replicate, is_some, Some, None, Ok, Err, Option, Result, sym, refl, ap, ◌∙◌, ⊎_elim, arith, length-append, eqb-true, leb-true}
use Rattle.std.proofs.lemmas.Bool.{cases_Bool}
use Rattle.std.specs.Option.{option_map, option_to_list}
use Rattle.std.specs.List.{AllByRecursion, slice_get}
use Rattle.model.specs.Calls as model
use Rattle.fields.specs.Bytes.{Bytes, Wide}
use Rattle.fields.specs.Codec.{Got, got, lost, and_then, closed, read_all}
use Rattle.fields.specs.Shapes.{Layout, Body, padded, origin, place_if, list_if, body}
use Rattle.fields.specs.Tables.{first, second, third, fourth}
use Rattle.fields.specs.Tables.{Row, find, layout_of, made, shaped, message, messages}
use Rattle.fields.specs.Steps.{seen, Reading}
use Rattle.fields.proofs.Lawful.{Lawful, lawful_both, lawful_via, reading}
use Rattle.fields.proofs.Pieces.{lawful_nothing, lawful_byte}
use Rattle.fields.proofs.Bodies.{lawful_body, wide_first}

lawful_shaped : {A : Type 0} (o : Option (Row A)) → Lawful (shaped o)
lawful_shaped (Some r) = lawful_body r.layout
lawful_shaped None = lawful_nothing _

-- what a row's fields make has that row's number, and those fields
abbrev pub Again : {A : Type 0} → (A → ℕ × Body) → Row A → Type 0
Again from r = (f : Body) → (body r.layout).fits f → from (r.makes f) ≡ (r.number, f)

found : {A : Type 0} (from : A → ℕ × Body) (none : A) (rs : List (Row A)) (n : ℕ) (f : Body) → AllByRecursion (Again from) rs →
    is_some (find n rs) ≡ true →
    (shaped (find n rs)).fits f → from (made none (find n rs) f) ≡ (n, f)
found from none [] n f h s g = let z : ◌≡◌ {A = ℕ} 0 1 = cc in absurd (omega arith)
found from none (r ∷ rs) n f h s g =
    ⊎_elim
    (λ y. let e : n ≡ r.number = eqb-true n r.number y in rw y (h.0 f (rw y at g) ∙ ap (λ k. (k, f)) (sym e)))
    (λ y. rw y (found from none rs n f h.1 (rw y at s) (rw y at g)))
    (cases_Bool (eqb n r.number))

pub lawful_messages : {A : Type 0} (from : A → ℕ × Body) (none : A) (rs : List (Row A)) → is_some (find 0 rs) ≡ true
    → AllByRecursion (Again from) rs →
    Lawful (messages none rs from)
lawful_messages from none rs zero-there again =
    lawful_via _ from (message rs) (lawful_both _ _ (lawful_byte _ zero-there) (λ n _. lawful_shaped (find n rs)))
    (λ m g. found from none rs m.0 m.1 again g.0 g.1)

-- one byte more in front
abbrev pub behind_one : {A B : Type 0} → (B → A) → Result B ℕ → Result A ℕ
behind_one f (Ok v) = Ok (f v)
behind_one f (Err k) = Err (k + 1)

some_row : {A : Type 0} (o : Option (Row A)) (l : Layout) → option_map (λ r. r.layout) o ≡ Some l → (is_some o ≡ true) × (shaped o ≡ body l)
some_row None l e = let z : ◌≡◌ {A = ℕ} 0 1 = cc in absurd (omega arith)
some_row (Some r) l e = (refl, let d : r.layout ≡ l = cc in ap body d)

-- what is left after a number, once the fields behind it are read
closed_behind : (n len : ℕ) (g : Got Body) → ((r : ℕ) → g ≡ lost r → r ≤ len) →
    ((f : Body) (rest : List ℕ) → g ≡ got f rest → length rest ≤ len) →
    closed (suc len) (and_then {B = ℕ × Body} g (λ b end. got (n, b) end)) ≡ behind_one (λ f. (n, f)) (closed len g)
closed_behind n len (got f []) l h = refl
closed_behind n len (got f (b ∷ bs)) l h =
    let i : suc (length bs) ≤ len = h f (b ∷ bs) refl in
    ap Err (omega arith)
closed_behind n len (lost r) l h = let i : r ≤ len = l r refl in ap Err (omega arith)

-- bytes that begin with a row's number, in terms of what is read of the fields behind it
pub read_behind : {A : Type 0} (rs : List (Row A)) (n : ℕ) (bs : List ℕ) (l : Layout) → Bytes bs → layout_of n rs ≡ Some l →
    read_all (message rs) (n ∷ bs) ≡ behind_one (λ f. (n, f)) (read_all (body l) bs)
read_behind rs n bs l t e =
    let s = some_row (find n rs) l e in
    let law = lawful_body l in
    let c = closed_behind n (length bs) ((body l).read bs)
    (λ r h. let w = law.reached bs r t h in omega (arith, w.2))
    (λ f rest h. let o = law.only bs f rest t h in omega (arith, ap length o.1 ∙ length-append ((body l).write f) rest)) in
    let a : read_all (message rs) (n ∷ bs)
    ≡ closed (suc (length bs)) (and_then {B = ℕ × Body} ((body l).read bs) (λ b end. got (n, b) end)) = rw (s.0, s.1) refl in
    a ∙ c

closed_via : {A B : Type 0} (to : A → B) (n : ℕ) (g : Got A) → closed n (and_then g (λ a rest. got (to a) rest)) ≡ seen to (closed n g)
closed_via to n (got v []) = refl
closed_via to n (got v (b ∷ bs)) = refl
closed_via to n (lost r) = refl

-- what the messages of a table mean, as code has read them by their parts
pub messages_read : {A B C : Type 0} (from : A → ℕ × Body) (none : A) (rs : List (Row A)) (see : B → A) → Lawful (messages none rs from) →
    (bs : List ℕ) → ((i : ℕ) → get_or bs i 0 < 256) → (parts : C → ℕ × Body) (r : Result C ℕ) (s : Result B ℕ) →
    read_all (message rs) bs ≡ seen parts r → seen (λ m. made none (find m.0 rs) m.1) (seen parts r) ≡ seen see s →
    Reading (messages none rs from) see bs s
messages_read {A} from none rs see law bs typed parts r s v w =
    let to : ℕ × Body → A = λ m. made none (find m.0 rs) m.1 in
    reading (messages none rs from) see bs s law typed (closed_via to (length bs) ((message rs).read bs) ∙ ap (seen to) v ∙ w)

-- four numbers of which only some are there
none_there : (ns : List ℕ) → (padded 0).fits ns → 0 ∷ (0 ∷ (0 ∷ (0 ∷ []))) ≡ ns
none_there ns h = h.1

one_there : (ns : List ℕ) → (padded 1).fits ns → get_or ns 0 0 ∷ (0 ∷ (0 ∷ (0 ∷ []))) ≡ ns
one_there [] h = absurd (omega (arith, h.0.0))
one_there (a ∷ ns) h = h.1

two_there : (ns : List ℕ) → (padded 2).fits ns → get_or ns 0 0 ∷ (get_or ns 1 0 ∷ (0 ∷ (0 ∷ []))) ≡ ns
two_there [] h = absurd (omega (arith, h.0.0))
two_there (a ∷ []) h = absurd (omega (arith, h.0.0))
two_there (a ∷ (b ∷ ns)) h = h.1

three_there : (ns : List ℕ) → (padded 3).fits ns → get_or ns 0 0 ∷ (get_or ns 1 0 ∷ (get_or ns 2 0 ∷ (0 ∷ []))) ≡ ns
three_there [] h = absurd (omega (arith, h.0.0))
three_there (a ∷ []) h = absurd (omega (arith, h.0.0))
three_there (a ∷ (b ∷ [])) h = absurd (omega (arith, h.0.0))
three_there (a ∷ (b ∷ (c ∷ ns))) h = h.1

four_there : (ns : List ℕ) → (padded 4).fits ns → get_or ns 0 0 ∷ (get_or ns 1 0 ∷ (get_or ns 2 0 ∷ (get_or ns 3 0 ∷ []))) ≡ ns
four_there [] h = absurd (omega (arith, h.0.0))
four_there (a ∷ []) h = absurd (omega (arith, h.0.0))
four_there (a ∷ (b ∷ [])) h = absurd (omega (arith, h.0.0))
four_there (a ∷ (b ∷ (c ∷ []))) h = absurd (omega (arith, h.0.0))
four_there (a ∷ (b ∷ (c ∷ (d ∷ ns)))) h = h.1

-- fields that are the same one by one
same_body : (n : ℕ) (f : Body) (ns : List ℕ) (w : model.Place) (l : List ℕ) → ns ≡ f.numbers → w ≡ f.place → l ≡ f.list →
    ◌≡◌ {A = ℕ × Body} (n, record { numbers = ns; place = w; list = l }) (n, f)
same_body n f ns w l a b c = rw (a, b, c) refl

-- The fields of a layout are those that are there, and zeros: with nothing but numbers; with a place; with a list.
abbrev Is : ℕ → Bool → Option ℕ → (Body → Body) → Type 0
Is k p l g = (n : ℕ) (f : Body) → (body (record { numbers = k; place = p; list = l })).fits f → ◌≡◌ {A = ℕ × Body} (n, g f) (n, f)

pub no_numbers : Is 0 false None (λ f. record { numbers = 0 ∷ 0 ∷ 0 ∷ 0 ∷ []; place = origin; list = [] })
no_numbers n f g = same_body n f _ _ _ (none_there f.numbers g.0.0) (sym g.0.1.0) (sym g.0.1.1)

pub one_number : Is 1 false None (λ f. record { numbers = first f ∷ 0 ∷ 0 ∷ 0 ∷ []; place = origin; list = [] })
one_number n f g = same_body n f _ _ _ (one_there f.numbers g.0.0) (sym g.0.1.0) (sym g.0.1.1)

pub two_numbers : Is 2 false None (λ f. record { numbers = first f ∷ second f ∷ 0 ∷ 0 ∷ []; place = origin; list = [] })
two_numbers n f g = same_body n f _ _ _ (two_there f.numbers g.0.0) (sym g.0.1.0) (sym g.0.1.1)

pub three_numbers : Is 3 false None (λ f. record { numbers = first f ∷ second f ∷ third f ∷ 0 ∷ []; place = origin; list = [] })
three_numbers n f g = same_body n f _ _ _ (three_there f.numbers g.0.0) (sym g.0.1.0) (sym g.0.1.1)

pub four_numbers : Is 4 false None (λ f. record { numbers = first f ∷ second f ∷ third f ∷ fourth f ∷ []; place = origin; list = [] })
four_numbers n f g = same_body n f _ _ _ (four_there f.numbers g.0.0) (sym g.0.1.0) (sym g.0.1.1)

pub one_and_place : Is 1 true None (λ f. record { numbers = first f ∷ 0 ∷ 0 ∷ 0 ∷ []; place = f.place; list = [] })
one_and_place n f g = same_body n f _ _ _ (one_there f.numbers g.0.0) refl (sym g.0.1.1)

pub two_and_place : Is 2 true None (λ f. record { numbers = first f ∷ second f ∷ 0 ∷ 0 ∷ []; place = f.place; list = [] })
two_and_place n f g = same_body n f _ _ _ (two_there f.numbers g.0.0) refl (sym g.0.1.1)

pub no_and_list : (most : ℕ) → Is 0 false (Some most) (λ f. record { numbers = 0 ∷ 0 ∷ 0 ∷ 0 ∷ []; place = origin; list = f.list })
no_and_list most n f g = same_body n f _ _ _ (none_there f.numbers g.0.0) (sym g.0.1.0) refl

pub one_and_list : (most : ℕ) → Is 1 false (Some most) (λ f. record { numbers = first f ∷ 0 ∷ 0 ∷ 0 ∷ []; place = origin; list = f.list })
one_and_list most n f g = same_body n f _ _ _ (one_there f.numbers g.0.0) (sym g.0.1.0) refl

-- a list of none or one, as an option
one_or_none : (l : List ℕ) → length l ≤ 1 → option_to_list (slice_get l 0) ≡ l
one_or_none [] h = refl
one_or_none (x ∷ []) h = refl
one_or_none (x ∷ (y ∷ l)) h = absurd (omega arith)

pub two_place_option :
    Is 2 true (Some 1) (λ f. record {
      numbers = first f ∷ second f ∷ 0 ∷ 0 ∷ [];
      place = f.place;
      list = option_to_list (slice_get f.list 0);
    })
two_place_option n f g =
    same_body n f _ _ _ (two_there f.numbers g.0.0) refl (one_or_none f.list (leb-true (length f.list) 1 g.0.1.1.0.0))

-- Which fields the bytes of a layout carry: each number fits, what is not there is 0, and so of the place and the list.
pub fields_fit : (k : ℕ) (p : Bool) (l : Option ℕ) (f : Body) → length (take k f.numbers) ≡ k → Wide f.numbers →
    take k f.numbers ++ replicate (4 - k) 0 ≡ f.numbers → (place_if p).fits f.place → (list_if l).fits f.list →
    (body (record { numbers = k; place = p; list = l })).fits f
fields_fit k p l f long wide zeros w ns = ((((long, wide_first k f.numbers wide), zeros), (w, ns)), refl)

-- one fact, and another
infixr 50 ◌also◌
pub ◌also◌ : {P Q : Type 0} → P → Q → P × Q
p also q = (p, q)
