-- The bytes of calls keep their promises.
use Rattle.std.proofs.Common.{◌≡◌, ℕ, true, false, List, Some, None, Ok, Err, Option, Result, refl, arith}
use Rattle.std.specs.List.{AllByRecursion, slice_get}
use Rattle.std.specs.Option.{option_to_list}
use Rattle.fields.specs.Codec.{read_all}
use Rattle.fields.specs.Steps.{Reading}
use Rattle.calls.specs.Meaning.{call_of, asked}
use Rattle.calls.specs.declared.call.Call.{Call}
use Rattle.fields.specs.Bytes.{Bytes}
use Rattle.fields.proofs.Bodies.{place_fits, list_fits}
use Rattle.fields.proofs.Lawful.{Lawful, read_back, one_spelling}
use Rattle.fields.proofs.Rows.{Again, lawful_messages, fields_fit, ◌also◌}
use Rattle.fields.proofs.Rows.{no_numbers, one_number, two_numbers, three_numbers, four_numbers}
use Rattle.fields.proofs.Rows.{one_and_place, two_and_place, no_and_list, two_place_option}
use Rattle.model.specs.Calls as model
use Rattle.model.specs.Calls.{Place, how_many, new_cell, new_thread, new_table, hold, give, show, remove, seal, stop, enter, resume}
use Rattle.model.specs.Calls.{leave, interrupt, fault, grow, shrink, extend, who, draw, by_system, by_cell, garbled}
use Rattle.calls.specs.Table.{table, parts, calls, carried, Carried, read_call, write_call}

-- row by row: the fields of what a row makes are those that it was made of
rows_again : AllByRecursion (Again parts) table
rows_again =
    no_numbers 0
    also two_numbers 1
    also three_numbers 2
    also three_numbers 3
    also two_place_option 4
    also two_numbers 5
    also two_and_place 6
    also one_number 7
    also one_number 8
    also one_number 9
    also four_numbers 10
    also one_number 11
    also one_number 20
    also no_and_list 255 21
    also one_number 22
    also one_and_place 23
    also one_and_place 24
    also two_numbers 25
    also no_numbers 26
    also one_number 27
    also tt

pub lawful_calls : Lawful calls
unfolding calls
lawful_calls = lawful_messages parts (garbled 0) table refl rows_again

-- a call's fields make it again
hold_back : (p c : ℕ) (w : Place) (o : Option ℕ) → by_system (hold p c w (slice_get (option_to_list o) 0)) ≡ by_system (hold p c w o)
hold_back p c w None = refl
hold_back p c w (Some x) = refl

carries : (c : model.Call) → Carried c → calls.fits c
unfolding calls carried
carries (by_system how_many) h = ((refl, fields_fit 0 false None _ refl h.numbers refl refl refl), refl)
carries (by_system (new_cell p t)) h = ((refl, fields_fit 2 false None _ refl h.numbers refl refl refl), refl)
carries (by_system (new_thread p c a)) h = ((refl, fields_fit 3 false None _ refl h.numbers refl refl refl), refl)
carries (by_system (new_table p c i)) h = ((refl, fields_fit 3 false None _ refl h.numbers refl refl refl), refl)
carries (by_system (hold p c w o)) h = (
  (
    refl,
    fields_fit 2 true (Some 1) _ refl h.numbers refl (place_fits _ h.place.0 h.place.1.0) (list_fits 1 _ h.short
        h.list),
  ),
  hold_back p c w o,
)
carries (by_system (give p c)) h = ((refl, fields_fit 2 false None _ refl h.numbers refl refl refl), refl)
carries (by_system (show o c w)) h =
    ((refl, fields_fit 2 true None _ refl h.numbers refl (place_fits _ h.place.0 h.place.1.0) refl), refl)
carries (by_system (remove p)) h = ((refl, fields_fit 1 false None _ refl h.numbers refl refl refl), refl)
carries (by_system (seal c)) h = ((refl, fields_fit 1 false None _ refl h.numbers refl refl refl), refl)
carries (by_system (stop c)) h = ((refl, fields_fit 1 false None _ refl h.numbers refl refl refl), refl)
carries (by_system (enter t x y z)) h = ((refl, fields_fit 4 false None _ refl h.numbers refl refl refl), refl)
carries (by_system (resume t)) h = ((refl, fields_fit 1 false None _ refl h.numbers refl refl refl), refl)
carries (by_cell (leave n)) h = ((refl, fields_fit 1 false None _ refl h.numbers refl refl refl), refl)
carries (by_cell (interrupt rs)) h =
    ((refl, fields_fit 0 false (Some 255) _ refl h.numbers refl refl (list_fits 255 _ h.short h.list)), refl)
carries (by_cell (fault k)) h = ((refl, fields_fit 1 false None _ refl h.numbers refl refl refl), refl)
carries (by_cell (grow p w)) h =
    ((refl, fields_fit 1 true None _ refl h.numbers refl (place_fits _ h.place.0 h.place.1.0) refl), refl)
carries (by_cell (shrink p w)) h =
    ((refl, fields_fit 1 true None _ refl h.numbers refl (place_fits _ h.place.0 h.place.1.0) refl), refl)
carries (by_cell (extend p i)) h = ((refl, fields_fit 2 false None _ refl h.numbers refl refl refl), refl)
carries (by_cell who) h = ((refl, fields_fit 0 false None _ refl h.numbers refl refl refl), refl)
carries (by_cell (draw n)) h = ((refl, fields_fit 1 false None _ refl h.numbers refl refl refl), refl)
carries (garbled k) h = let z : ◌≡◌ {A = ℕ} 0 1 = cc h.short in absurd (omega arith)

pub calls_back : (c : model.Call) → Carried c → read_call (write_call c) ≡ c
unfolding read_call write_call
calls_back c h = rw (read_back calls lawful_calls c (carries c h)) refl

pub calls_only : (bs : List ℕ) (c : model.Call) → Bytes bs → read_all calls bs ≡ Ok c → write_call c ≡ bs
unfolding write_call
calls_only bs c t e = (one_spelling calls lawful_calls bs c t e).1

-- a reading, as the call that was asked
pub asked_is : (bs : List ℕ) (r : Result Call ℕ) → Reading calls call_of bs r → read_call bs ≡ asked r
unfolding read_call
asked_is bs (Ok c) h = rw h.value refl
asked_is bs (Err k) h = rw h.value refl
