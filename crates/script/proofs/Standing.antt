-- Calls that are written stand at the front of the bytes.
use Rattle.std.proofs.Common.{◌≡◌, ℕ, suc, ◌+◌, ◌*◌, ◌≤◌, Bool, true, false, List, [], ◌∷◌, ◌++◌, length, take, drop, set, Ok, Err, sym, refl, ap, ◌∙◌, subst, arith, lit≤, length-append, length-set}
use Rattle.std.proofs.lemmas.List.{take_at}
use Rattle.model.specs.Calls as model
use Rattle.fields.specs.Bytes.{numbers_bytes}
use Rattle.fields.specs.Steps.{Wrote, Written}
use Rattle.fields.proofs.Pieces.{length_numbers_bytes}
use Rattle.fields.specs.declared.values.Unwritten.{Unwritten}
use Rattle.fields.specs.declared.values.Unwritten.TheVariants.{TooMany, TooShort}
use Rattle.calls.specs.Table.{calls, carried, write_call}
use Rattle.fields.specs.Shapes.{Body}
use Rattle.script.specs.Lines.{call_with}
use Rattle.script.specs.Said.{Stands, Callable}
use Rattle.model.specs.Calls.{Place as Placed}
use Rattle.calls.specs.Kinds.{kind_number}
use Rattle.calls.specs.declared.kind.Kind.{Kind}
use Rattle.calls.specs.declared.kind.Kind.TheVariants as kinds

pub not_unwritten : (fits : Bool) (bytes was is : List ℕ) (e : Unwritten) → Written fits bytes was is (Err e) → fits ≡ true →
    length bytes ≤ length was → ⊥
not_unwritten fits bytes was is TooMany w f h = let z : true ≡ false = sym f ∙ w.0 in let y : ◌≡◌ {A = ℕ} 0 1 = cc in omega arith
not_unwritten fits bytes was is (TooShort n) w f h = omega (arith, w.1, w.2)

pub stands_written : (c : model.Call) (n : ℕ) (was is : List ℕ) → Written (carried c) (write_call c) was is (Ok n) → Stands c n is
stands_written c n was is w = record {
  within = rw (w.2, length-append (write_call c) (drop n was)) (omega (arith, w.1));
  front = ap (take n) w.2 ∙ take_at (write_call c) (drop n was) n (sym w.1);
}

-- the same of a call that code has in hand
pub put_fields : (c d : model.Call) (n : ℕ) (was is : List ℕ) → c ≡ d → Written (carried c) (write_call c) was is (Ok n) → Stands d n is
put_fields c d n was is e w = let P : model.Call → Type 0 = λ x. Stands x n is in subst P e (stands_written c n was is w)

pub put_fails : (c : model.Call) (n : ℕ) (f : Body) (was is : List ℕ) (e : Unwritten) → c ≡ call_with n f → Callable n f →
    2042 ≤ length was → Written (carried c) (write_call c) was is (Err e) → ⊥
put_fails c n f was is e same ok room w =
    not_unwritten (carried c) (write_call c) was is e w (ap carried same ∙ ok.short)
    (omega (arith, ok.room, ap (λ x. length (write_call x)) same))

interrupt_front : (was is ns : List ℕ) (n : ℕ) → n ≡ length ns → 2 ≤ length was → Wrote was is 2 (numbers_bytes ns) (2 + 8 * n) →
    take (2 + 8 * n) (set (set is 0 21) 1 n) ≡ 21 ∷ (length ns ∷ numbers_bytes ns)
interrupt_front [] is ns n e h w = absurd (omega arith)
interrupt_front (x ∷ []) is ns n e h w = absurd (omega arith)
interrupt_front (x ∷ (y ∷ was)) is ns n e h w =
    let rest : List ℕ = drop (2 + length (numbers_bytes ns)) (x ∷ (y ∷ was)) in
    let two : 2 + 8 * n ≡ suc (suc (8 * n)) = omega arith in
    let l : length (numbers_bytes ns) ≡ 8 * n = length_numbers_bytes ns ∙ ap (λ k. 8 * k) (sym e) in
    ap (λ z. take (2 + 8 * n) (set (set z 0 21) 1 n)) w.there ∙ ap (λ k. take k (21 ∷ (n ∷ (numbers_bytes ns ++ rest)))) two
    ∙ ap (λ z. 21 ∷ (n ∷ z)) (take_at (numbers_bytes ns) rest (8 * n) l) ∙ ap (λ k. 21 ∷ (k ∷ numbers_bytes ns)) e

pub interrupt_stands : (was is ns : List ℕ) (n : ℕ) → n ≡ length ns → n ≤ 255 → 2042 ≤ length was →
    Wrote was is 2 (numbers_bytes ns) (2 + 8 * n) → Stands (model.by_cell (model.interrupt ns)) (2 + 8 * n) (set (set is 0 21) 1 n)
unfolding write_call calls numbers_bytes
interrupt_stands was is ns n e few room w = record {
  within = simp length-set (omega (arith, w.long));
  front = interrupt_front was is ns n e (omega arith) w;
}

-- a page that is held, as a copy or with zeros
hold_callable : (f : Body) (l : List ℕ) → length l ≤ 1 → Callable 4 (record { numbers = f.numbers; place = f.place; list = l })
unfolding call_with carried write_call calls numbers_bytes
hold_callable f [] h = record { known = refl; short = refl; room = lit≤ tt }
hold_callable f (x ∷ []) h = record { known = refl; short = refl; room = lit≤ tt }
hold_callable f (x ∷ (y ∷ l)) h = absurd (omega arith)

pub hold_sound : (f : Body) → length f.list ≤ 1 → Callable 4 f
hold_sound f h = hold_callable f f.list h

-- a call of any kind, with no list
kind_callable : (k : Kind) (ns : List ℕ) (p : Placed) → Callable (kind_number k) (record { numbers = ns; place = p; list = [] })
unfolding call_with carried write_call calls numbers_bytes
kind_callable kinds.HowMany ns p = record { known = refl; short = refl; room = lit≤ tt }
kind_callable kinds.NewCell ns p = record { known = refl; short = refl; room = lit≤ tt }
kind_callable kinds.NewThread ns p = record { known = refl; short = refl; room = lit≤ tt }
kind_callable kinds.NewTable ns p = record { known = refl; short = refl; room = lit≤ tt }
kind_callable kinds.Hold ns p = record { known = refl; short = refl; room = lit≤ tt }
kind_callable kinds.Give ns p = record { known = refl; short = refl; room = lit≤ tt }
kind_callable kinds.Show ns p = record { known = refl; short = refl; room = lit≤ tt }
kind_callable kinds.Remove ns p = record { known = refl; short = refl; room = lit≤ tt }
kind_callable kinds.Seal ns p = record { known = refl; short = refl; room = lit≤ tt }
kind_callable kinds.Stop ns p = record { known = refl; short = refl; room = lit≤ tt }
kind_callable kinds.Enter ns p = record { known = refl; short = refl; room = lit≤ tt }
kind_callable kinds.Resume ns p = record { known = refl; short = refl; room = lit≤ tt }
kind_callable kinds.Leave ns p = record { known = refl; short = refl; room = lit≤ tt }
kind_callable kinds.Interrupt ns p = record { known = refl; short = refl; room = lit≤ tt }
kind_callable kinds.Fault ns p = record { known = refl; short = refl; room = lit≤ tt }
kind_callable kinds.Grow ns p = record { known = refl; short = refl; room = lit≤ tt }
kind_callable kinds.Shrink ns p = record { known = refl; short = refl; room = lit≤ tt }
kind_callable kinds.Extend ns p = record { known = refl; short = refl; room = lit≤ tt }
kind_callable kinds.Who ns p = record { known = refl; short = refl; room = lit≤ tt }
kind_callable kinds.Draw ns p = record { known = refl; short = refl; room = lit≤ tt }

pub kind_sound : (k : Kind) (f : Body) → f.list ≡ [] → Callable (kind_number k) f
kind_sound k f e = let P : List ℕ → Type 0 = λ l. Callable (kind_number k) (record { numbers = f.numbers; place = f.place; list = l }) in
    subst P (sym e) (kind_callable k f.numbers f.place)
