-- What this stage of the monitor does: it knows how many closed pages there are, and refuses every other call.
use Rattle.std.specs.Prelude.{ℕ, ◌+◌, ◌*◌, Bool, cond, ◌&&◌, ◌==◌, nat_le}
use Rattle.model.specs.Calls.{Call, by_system, by_cell, garbled, system_number}
use Rattle.model.specs.Answers.{Answer, refused, number}

-- refused by a number of the list; the place is 0 but for bytes that are no call
abbrev pub refusing : ℕ → ℕ → Answer
refusing n k = refused (record { number = n; place = k })

-- 1: bytes that are no call; 2: a call that this stage can't do
abbrev pub answer : ℕ → Call → Answer
answer pages (by_system c) = cond (system_number c == 0) (number pages) (refusing 2 0)
answer pages (by_cell c) = refusing 2 0
answer pages (garbled k) = refusing 1 k

-- limits that are in range: closed pages from 2 to 4,096, open pages up to 1,048,576
abbrev pub good_limits : ℕ → ℕ → Bool
good_limits pages opens = nat_le 2 pages && (nat_le pages 4096 && nat_le opens 1048576)

-- and with slices that fit them: the monitor's memory has a header of 256 numbers, and 2,048 for each closed page; a page has 1,024 words
abbrev pub fitting : ℕ → ℕ → ℕ → ℕ → ℕ → Bool
fitting pages opens memory inside outside =
    good_limits pages opens && (memory == 256 + 2048 * pages && (inside == 1024 * pages && outside == 1024 * opens))
