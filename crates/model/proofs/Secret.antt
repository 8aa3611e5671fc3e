-- Two worlds that look alike to the system, in which a cell runs that holds other words in one than in the other.
use Rattle.std.proofs.Common.{◌≡◌, ℕ, zero, suc, Bool, true, false, ◌||◌, ◌≢◌, List, [], ◌∷◌, get_or, replicate, Some, None, sym, refl, ap, ◌∙◌, arith, lit<, lit≤}
use Rattle.model.specs.Calls.{Place, by_system, new_cell, new_thread, new_table, hold, seal, enter, leave}
use Rattle.model.specs.Pages.{Slot, nothing, closed, opened, writable, sealed}
use Rattle.model.specs.Pages.{Entry, free, cell, thread, top, table, held}
use Rattle.model.specs.State.{Limits, entry, Page, no_registers, all_words}
use Rattle.model.specs.Machine.{Machine, GoodMachine, ViewWell}
use Rattle.model.specs.Worlds.{World, Act, calls, writes, new_world, play, Reachable, after_run, ending}
use Rattle.model.specs.Observers.{Alike, public_part, SameGiven, gives, left_with}
use Rattle.model.specs.Processor.{Processor, GoodProcessor, asks, GoodStep}
use Rattle.model.specs.Promises.{ASecret, NotVacuous, thin, all}
use Rattle.model.proofs.Computed.{WorldsOpenedUp}

-- A machine that writes nothing, and leaves.
abbrev idle : Machine
idle = record {
  runs = λ rs v chance. record { registers = no_registers; words = λ i j. (v i j).words; ends = leave 0 };
  goes_on = λ rs e ns. no_registers;
}

still_page : (l : Limits) (z : Slot) (ws : List ℕ) → ViewWell l z ws → writable z ≡ true → Page l ws
unfolding ViewWell writable
still_page l nothing ws h k = absurd (grind (arith, k))
still_page l (closed p w x) ws h k = h
still_page l (opened o w) ws h k = h

idle_good : (l : Limits) → GoodMachine l idle
unfolding WorldsOpenedUp
idle_good l = record {
  good = λ rs. true;
  seventeen_are = λ rs h. refl;
  goes_on_well = λ rs e ns h. refl;
  runs_well = λ rs v chance h k. record {
    pages_stay = λ i j z. still_page l (v i j).slot (v i j).words (k i j) z;
    registers_stay = refl;
    ends_well = refl;
  };
}

-- The calls of the first stage, or all.
abbrev limits : Bool → Limits
limits b = record { can = λ k. thin k || b; pages = 5; opens = 1; places = 256; slots = 1024; words = 1024 }

corner : Place
corner = record { table = 0; slot = 0; write = false; run = false }

-- A cell is built with one page, copied from an open page that is then written again, and is entered.
acts : ℕ → List Act
acts x =
    writes 0 (replicate 1024 x) ∷ calls (by_system (new_cell 0 1)) ∷ calls (by_system (new_table 2 0 0))
    ∷ calls (by_system (hold 3 0 corner (Some 0))) ∷ calls (by_system (new_thread 4 0 0)) ∷ calls (by_system (seal 0))
    ∷ writes 0 (replicate 1024 0) ∷ calls (by_system (enter 4 0 0 0)) ∷ []

made : Bool → ℕ → World
made b x = play (limits b) idle (new_world (limits b)) (acts x)

can_be : (b : Bool) (x : ℕ) → all_words (replicate 1024 x) ≡ true → Reachable (limits b) idle (made b x)
unfolding made acts corner WorldsOpenedUp
can_be b x h = record {
  acts = acts x;
  made = refl;
  possible = ((lit< tt, (refl, h)), (tt, (tt, (tt, (tt, (tt, ((lit< tt, (refl, refl)), (tt, tt))))))));
}

-- What everybody may know of each page of it.
known : ℕ → Entry
known zero = cell (record { top = 1; phase = sealed; measured = [] })
known (suc zero) = top (record { cell = 0; tables = Some 2 ∷ replicate 255 None })
known (suc (suc zero)) = table (record { cell = 0; slots = closed 3 false false ∷ replicate 1023 nothing })
known (suc (suc (suc zero))) = held (record { cell = 0 })
known (suc (suc (suc (suc zero)))) = thread (record { cell = 0; start = 0; under_way = false; registers = [] })
known (suc (suc (suc (suc (suc p))))) = free

public_is : (b : Bool) (x p : ℕ) → public_part (entry (made b x).state p) ≡ known p
unfolding made acts corner known WorldsOpenedUp
public_is b x zero = refl
public_is b x (suc zero) = refl
public_is b x (suc (suc zero)) = refl
public_is b x (suc (suc (suc zero))) = refl
public_is b x (suc (suc (suc (suc zero)))) = refl
public_is b x (suc (suc (suc (suc (suc p))))) = refl

opens_before : (b : Bool) (x : ℕ) → (made b x).state.open_pages ≡ replicate 1024 0 ∷ []
unfolding made acts corner WorldsOpenedUp
opens_before b x = refl

registers_are : (b : Bool) (x : ℕ) → (made b x).registers ≡ replicate 17 0
unfolding made acts corner WorldsOpenedUp
registers_are b x = refl

running_is : (b : Bool) (x : ℕ) → (made b x).state.running ≡ Some 4
unfolding made acts corner WorldsOpenedUp
running_is b x = refl

gives_are : (b : Bool) (x : ℕ) → gives (limits b) (after_run idle (made b x) 0 0) (ending idle (made b x) 0 0) ≡ left_with 0
unfolding WorldsOpenedUp
gives_are b x = refl

opens_are : (b : Bool) (x : ℕ) → (after_run idle (made b x) 0 0).open_pages ≡ replicate 1024 0 ∷ []
unfolding made acts corner WorldsOpenedUp
opens_are b x = refl

look_alike : (b : Bool) → Alike (limits b) [] (made b 1) (made b 2)
unfolding made acts corner WorldsOpenedUp
look_alike b = record {
  public = λ p h. public_is b 1 p ∙ sym (public_is b 2 p);
  own = λ p h k. absurd (grind (arith, k));
  own_contents = λ p h k i. absurd (grind (arith, k));
  open_pages = opens_before b 1 ∙ sym (opens_before b 2);
  running = running_is b 1 ∙ sym (running_is b 2);
  registers = λ h. registers_are b 1 ∙ sym (registers_are b 2);
}

other_words : (b : Bool) → get_or (made b 1).state.contents 3 [] ≢ get_or (made b 2).state.contents 3 []
unfolding made acts corner WorldsOpenedUp
other_words b h = let e : ◌≡◌ {A = ℕ} 1 2 = ap (λ ws. get_or ws 0 0) h in omega arith

same_given : (b : Bool) → SameGiven (limits b) idle (made b 1) (made b 2) 0 0 0
unfolding made acts corner WorldsOpenedUp
same_given b = record { open_pages = opens_are b 1 ∙ sym (opens_are b 2); ends = gives_are b 1 ∙ sym (gives_are b 2) }

secret : (can : ℕ → Bool) (b : Bool) → ((k : ℕ) → (thin k || b) ≡ can k) → ASecret can
unfolding made acts corner WorldsOpenedUp
secret can b h = record {
  limits = limits b;
  machine = idle;
  first = made b 1;
  second = made b 2;
  cell = 0;
  page = 3;
  chance = 0;
  sized = record {
    least_pages = lit≤ tt;
    most_pages = lit≤ tt;
    most_opens = lit≤ tt;
    places_are = refl;
    slots_are = refl;
    words_are = refl;
  };
  stage = h;
  good = idle_good (limits b);
  first_can_be = can_be b 1 refl;
  second_can_be = can_be b 2 refl;
  alike = look_alike b;
  runs = refl;
  holds = refl;
  differs = other_words b;
  gives_same = same_given b;
}

or_false : (b : Bool) → (b || false) ≡ b
or_false true = refl
or_false false = refl

or_true : (b : Bool) → (b || true) ≡ true
or_true true = refl
or_true false = refl

at_once : Processor
at_once rs look chance = asks rs (leave 0)

at_once_good : GoodProcessor at_once
unfolding at_once GoodStep WorldsOpenedUp
at_once_good rs look chance h k j = (h, refl)

-- 10.
pub not_vacuous : NotVacuous
not_vacuous = ((at_once, at_once_good), (secret thin false (λ k. or_false (thin k)), secret all true (λ k. or_true (thin k))))
