-- The bytes of answers keep their promises.
use Rattle.std.proofs.Common.{◌≡◌, ℕ, ◌≤◌, true, false, List, length, Some, None, Ok, refl, arith}
use Rattle.std.specs.List.{AllByRecursion}
use Rattle.fields.specs.Bytes.{Bytes, numbers_bytes}
use Rattle.fields.specs.Codec.{read_all}
use Rattle.fields.proofs.Bodies.{list_fits}
use Rattle.fields.proofs.Lawful.{Lawful, read_back, one_spelling}
use Rattle.fields.proofs.Rows.{Again, lawful_messages, no_numbers, one_number, two_numbers, one_and_list, fields_fit, ◌also◌}
use Rattle.model.specs.Answers.{Answer, refused, done, number, enters, told, left, to_system}
use Rattle.answers.specs.Table.{table, parts, answers, carried, Carried, write_answer}

-- row by row: the fields of what a row makes are those that it was made of
rows_again : AllByRecursion (Again parts) table
rows_again =
    two_numbers 0 also no_numbers 1 also one_number 2 also one_and_list 255 3 also one_and_list 255 4 also two_numbers 5 also tt

pub lawful_answers : Lawful answers
unfolding answers
lawful_answers = lawful_messages parts done table refl rows_again

carries : (a : Answer) → Carried a → answers.fits a
unfolding answers carried
carries (refused r) h = ((refl, fields_fit 2 false None _ refl h.numbers refl refl refl), refl)
carries done h = ((refl, fields_fit 0 false None _ refl h.numbers refl refl refl), refl)
carries (number n) h = ((refl, fields_fit 1 false None _ refl h.numbers refl refl refl), refl)
carries (enters t rs) h = ((refl, fields_fit 1 false (Some 255) _ refl h.numbers refl refl (list_fits 255 _ h.short h.list)), refl)
carries (told e ns) h = ((refl, fields_fit 1 false (Some 255) _ refl h.numbers refl refl (list_fits 255 _ h.short h.list)), refl)
carries (left j n) h = ((refl, fields_fit 2 false None _ refl h.numbers refl refl refl), refl)

pub answers_back : (a : Answer) → Carried a → read_all answers (write_answer a) ≡ Ok a
unfolding write_answer
answers_back a h = read_back answers lawful_answers a (carries a h)

pub answers_only : (bs : List ℕ) (a : Answer) → Bytes bs → read_all answers bs ≡ Ok a → write_answer a ≡ bs
unfolding write_answer
answers_only bs a t e = (one_spelling answers lawful_answers bs a t e).1

pub answers_brief : (a : Answer) → (carried (to_system a) ≡ true) × (length (write_answer (to_system a)) ≤ 17)
unfolding carried write_answer answers numbers_bytes
answers_brief (refused r) = (refl, omega arith)
answers_brief done = (refl, omega arith)
answers_brief (number n) = (refl, omega arith)
answers_brief (enters t rs) = (refl, omega arith)
answers_brief (told e ns) = (refl, omega arith)
answers_brief (left j n) = (refl, omega arith)
