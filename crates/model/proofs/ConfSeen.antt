-- What everybody may know of pages says all that checks look at.
use Rattle.std.proofs.Common.{◌≡◌, ℕ, suc, List, [], ◌∷◌, length, get_or, Some, None, Option, sym, refl, ap, ◌∙◌, arith}
use Rattle.std.specs.Option.{option_map}
use Rattle.model.specs.Calls.{SystemCall, CellCall, Call, by_system, by_cell, garbled}
use Rattle.model.specs.Pages.{nothing, Phase, Cell, Entry, in_cell, in_thread, kind, part_of, cell_in, thread_in, tables_in}
use Rattle.model.specs.Pages.{slots_in, cell_is, thread_goes, is_in, has_parts, tables_by, slot_in, table_put_by, Entries, at}
use Rattle.model.specs.State.{Limits, State, entry, Caller, caller, caller_by, is_owner_in, owner_by}
use Rattle.model.specs.Refusals.{system_checks, cell_checks, checks}
use Rattle.model.specs.Monitor.{entered, first_registers}
use Rattle.model.specs.Observers.{public_part}

-- What of a page is public.
kind_public : (x : Entry) → kind (public_part x) ≡ kind x
unfolding kind in_cell in_thread
kind_public x = grind arith

phase_public : (f : Phase) (x : Entry) → is_in f (public_part x) ≡ is_in f x
unfolding cell_is cell_in in_cell in_thread
phase_public f x = grind arith

slots_public : (x : Entry) → slots_in (public_part x) ≡ slots_in x
unfolding slots_in in_cell in_thread
slots_public x = grind arith

tables_public : (x : Entry) → tables_in (public_part x) ≡ tables_in x
unfolding tables_in in_cell in_thread
tables_public x = grind arith

goes_public : (x : Entry) → thread_goes (thread_in (public_part x)) ≡ thread_goes (thread_in x)
unfolding thread_goes thread_in in_cell in_thread
goes_public x = grind arith

top_public : (d : Entries) (x : Entry) → tables_by d (cell_in (public_part x)) ≡ tables_by d (cell_in x)
unfolding tables_by cell_in in_cell in_thread
top_public d x = grind arith

put_public : (d : Entries) (i p : ℕ) (x : Entry) → table_put_by d (cell_in (public_part x)) i p ≡ table_put_by d (cell_in x) i p
unfolding table_put_by cell_in in_cell in_thread
put_public d i p x = grind arith

entered_public : (rs : List ℕ) (x : Entry) → entered (cell_in (public_part x)) rs ≡ entered (cell_in x) rs
unfolding entered cell_in in_cell in_thread
entered_public rs x = grind arith

first_public : (a b c : ℕ) (x : Entry) → first_registers (thread_in (public_part x)) a b c ≡ first_registers (thread_in x) a b c
unfolding first_registers thread_in in_cell in_thread
first_public a b c x = grind arith

-- Two states of whose pages the same is public.
pub record PublicSame (s t : State) : Type 0 where
  pub long : length s.entries ≡ length t.entries
  pub public : (p : ℕ) → public_part (entry s p) ≡ public_part (entry t p)

parts_same : (d e : Entries) (c : ℕ) → length d ≡ length e → ((p : ℕ) → kind (at d p) ≡ kind (at e p)) → has_parts d c ≡ has_parts e c
unfolding has_parts
parts_same [] [] c h k = refl
parts_same [] (y ∷ e) c h k = absurd (omega arith)
parts_same (x ∷ d) [] c h k = absurd (omega arith)
parts_same (x ∷ d) (y ∷ e) c h k = rw (k 0, parts_same d e c (omega arith) (λ p. k (suc p)))

module _ (s t : State) (h : PublicSame s t) where
  at_page : {A : Type 0} (f : Entry → A) → ((x : Entry) → f (public_part x) ≡ f x) → (p : ℕ) → f (entry s p) ≡ f (entry t p)
  at_page f k p = sym (k (entry s p)) ∙ (ap f (h.public p) ∙ k (entry t p))

  pub same_kind : (p : ℕ) → kind (entry s p) ≡ kind (entry t p)
  same_kind p = at_page kind kind_public p

  pub same_slots : (p : ℕ) → slots_in (entry s p) ≡ slots_in (entry t p)
  same_slots p = at_page slots_in slots_public p

  same_phase : (f : Phase) (p : ℕ) → is_in f (entry s p) ≡ is_in f (entry t p)
  same_phase f p = at_page (is_in f) (phase_public f) p

  same_goes : (p : ℕ) → thread_goes (thread_in (entry s p)) ≡ thread_goes (thread_in (entry t p))
  same_goes p = at_page (λ x. thread_goes (thread_in x)) goes_public p

  pub same_tables : (c : ℕ) → tables_by s.entries (cell_in (entry s c)) ≡ tables_by t.entries (cell_in (entry t c))
  unfolding tables_by
  same_tables c = at_page (λ x. tables_by s.entries (cell_in x)) (top_public s.entries) c ∙ go (cell_in (entry t c))
    where
      go : (x : Option Cell) → tables_by s.entries x ≡ tables_by t.entries x
      go None = refl
      go (Some x) = at_page tables_in tables_public x.top

  pub same_slot : (q : Option ℕ) (j : ℕ) → slot_in s.entries q j ≡ slot_in t.entries q j
  unfolding slot_in
  same_slot None j = refl
  same_slot (Some q) j = ap (λ zs. get_or zs j nothing) (same_slots q)

  same_owner_in : (f : Phase) (c : Option ℕ) → is_owner_in f s.entries c ≡ is_owner_in f t.entries c
  unfolding is_owner_in
  same_owner_in f None = refl
  same_owner_in f (Some c) = same_phase f c

  same_parts : (c : ℕ) → has_parts s.entries c ≡ has_parts t.entries c
  same_parts c = parts_same s.entries t.entries c h.long same_kind

  pub same_put : (c i p : ℕ) → table_put_by s.entries (cell_in (entry s c)) i p ≡ table_put_by s.entries (cell_in (entry t c)) i p
  same_put c i p = at_page (λ x. table_put_by s.entries (cell_in x) i p) (put_public s.entries i p) c

  same_caller : (r : Option ℕ) → caller_by s.entries r ≡ caller_by t.entries r
  unfolding caller_by
  same_caller None = refl
  same_caller (Some q) = ap (λ k. option_map (λ c. record { thread = q; cell = c }) (part_of k)) (same_kind q)

  pub same_entered : (c : Option ℕ) (rs : List ℕ) → entered (owner_by s.entries c) rs ≡ entered (owner_by t.entries c) rs
  unfolding owner_by
  same_entered None rs = refl
  same_entered (Some c) rs = at_page (λ x. entered (cell_in x) rs) (entered_public rs) c

  pub same_first : (q a b c : ℕ) → first_registers (thread_in (entry s q)) a b c ≡ first_registers (thread_in (entry t q)) a b c
  same_first q a b c = at_page (λ x. first_registers (thread_in x) a b c) (first_public a b c) q

  ruleset public = (same_kind, same_phase, same_goes, same_tables, same_slot, same_owner_in, same_parts)

  -- So the same checks are made in both, and come to the same.
  module _ (l : Limits) (run : s.running ≡ t.running) where
    same_system : (c : SystemCall) → system_checks l s c ≡ system_checks l t c
    unfolding system_checks
    same_system c = grind (arith, public)

    pub same_cell : (k : Caller) (c : CellCall) → cell_checks l s k c ≡ cell_checks l t k c
    unfolding cell_checks
    same_cell k c = grind (arith, public)

    pub one_caller : caller s ≡ caller t
    one_caller = ap (caller_by s.entries) run ∙ same_caller t.running

    pub same_checks : (c : Call) → checks l s c ≡ checks l t c
    unfolding checks
    same_checks (by_system c) = rw (same_system c, run)
    same_checks (by_cell c) = rw one_caller
    same_checks (garbled n) = refl
