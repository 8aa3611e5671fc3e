-- The made_up processor: what each instruction is as a word, and what it does.
use Rattle.std.specs.Prelude.{◌≡◌, ◌<◌, ℕ, Result, MatchResult, ◌+◌, ◌-◌, ◌*◌, ◌/◌, ◌%◌, Bool, true, false, cond, not, List, ◌==◌, nat_lt, slice_index, slice_set}
use Rattle.model.specs.Calls.{CellCall, leave, fault, grow, shrink, extend, who, draw}
use Rattle.model.specs.Processor.{Seen, unseen, seen, Step, moves, stores, asks, Processor}
use Rattle.pages.specs.Packing.{place_from}
use Rattle.machine.specs.declared.values.Instruction.{Instruction}
use Rattle.machine.specs.declared.values.Instruction.TheVariants.{Unknown, Set, High, Move, Add, Subtract, Load, Store, Compare, Jump, Go, Ask}
use Rattle.machine.specs.declared.decoding.UnknownWhen.{UnknownWhen}
use Rattle.machine.specs.declared.values.When.{When}
use Rattle.machine.specs.declared.values.When.TheVariants.{Always, Less, Equal, Greater, Unequal}

-- A word: what it is, and three fields a, b and c of a byte each; or a, and a number.
abbrev pub jump_when : ℕ → ℕ → Instruction
jump_when k n =
    cond (k == 0) (Jump Always n) (cond (k == 1) (Jump Less n) (cond (k == 2) (Jump Equal n) (cond (k == 3) (Jump Greater n)
    (cond (k == 4) (Jump Unequal n) Unknown))))

-- the same of a number alone, and what is promised of reading one
abbrev pub when_number : When → ℕ
when_number Always = 0
when_number Less = 1
when_number Equal = 2
when_number Greater = 3
when_number Unequal = 4

abbrev pub Whens : ℕ → Result When UnknownWhen → Type 0
Whens k r = MatchResult r (λ w. when_number w ≡ k) (λ e. (e.0 ≡ k) × (4 < k))

abbrev pub decoded_by : ℕ → ℕ → ℕ → ℕ → ℕ → Instruction
decoded_by k a b c n =
    cond (k == 1) (Set a n) (cond (k == 2) (High a n) (cond (k == 3) (Move a b) (cond (k == 4) (Add a b c) (cond (k == 5) (Subtract a b c)
    (cond (k == 6) (Load a b c) (cond (k == 7) (Store a b c) (cond (k == 8) (Compare a b) (cond (k == 9) (jump_when a n)
    (cond (k == 10) (Go a) (cond (k == 11) (Ask a) Unknown))))))))))

abbrev pub decoded : ℕ → Instruction
decoded v = decoded_by (v / 16777216) (v / 65536 % 256) (v / 256 % 256) (v % 256) (v % 65536)

-- Registers 0 to 14 are for use, 15 has the address of the next instruction, and 16 what the last comparison came to. A field names one of
-- the first sixteen, by its low four bits.
abbrev pub register : List ℕ → ℕ → ℕ
register rs i = slice_index rs (i % 16)

abbrev pub with_register : List ℕ → ℕ → ℕ → List ℕ
with_register rs i v = slice_set rs (i % 16) v

-- Sums are of words, and wrap.
abbrev pub low : ℕ → ℕ
low n = n % 4294967296

-- 0 less, 1 equal, 2 greater
abbrev pub order : ℕ → ℕ → ℕ
order a b = cond (nat_lt a b) 0 (cond (a == b) 1 2)

abbrev pub holds : When → ℕ → Bool
holds Always o = true
holds Less o = o == 0
holds Equal o = o == 1
holds Greater o = o == 2
holds Unequal o = not (o == 1)

-- The kinds of faults: what is there can't be run, nothing is seen there, it may not be written, no instruction, no call.
abbrev pub asked : ℕ → List ℕ → ℕ → CellCall
asked k rs chance =
    cond (k == 20) (leave (slice_index rs 0)) (cond (k == 22) (fault (slice_index rs 0))
    (cond (k == 23) (grow (slice_index rs 0) (place_from (slice_index rs 1)))
    (cond (k == 24) (shrink (slice_index rs 0) (place_from (slice_index rs 1)))
    (cond (k == 25) (extend (slice_index rs 0) (slice_index rs 1))
    (cond (k == 26) who (cond (k == 27) (draw chance) (fault 5)))))))

-- an address: a register, and words behind it
abbrev pub address : List ℕ → ℕ → ℕ → ℕ
address rs b c = low (register rs b + 4 * c)

abbrev pub loaded : List ℕ → ℕ → Seen → Step
loaded rs a unseen = asks rs (fault 2)
loaded rs a (seen w x v) = moves (with_register rs a v)

abbrev pub stored : List ℕ → ℕ → ℕ → Seen → Step
stored rs x v unseen = asks rs (fault 3)
stored rs x v (seen true y u) = stores rs x v
stored rs x v (seen false y u) = asks rs (fault 3)

-- a jump is so many words forth or back, counted from 32,768, from the instruction behind it
abbrev pub jumped : List ℕ → ℕ → List ℕ
jumped rs n = slice_set rs 15 (low (slice_index rs 15 + (4 * n + 4294836224)))

abbrev pub executed : Instruction → List ℕ → (ℕ → Seen) → ℕ → Step
executed Unknown rs look chance = asks rs (fault 4)
executed (Set a n) rs look chance = moves (with_register rs a n)
executed (High a n) rs look chance = moves (with_register rs a (low (65536 * n + register rs a % 65536)))
executed (Move a b) rs look chance = moves (with_register rs a (register rs b))
executed (Add a b c) rs look chance = moves (with_register rs a (low (register rs b + register rs c)))
executed (Subtract a b c) rs look chance = moves (with_register rs a (low (register rs b + (4294967296 - register rs c))))
executed (Load a b c) rs look chance = loaded rs a (look (address rs b c))
executed (Store a b c) rs look chance = stored rs (address rs b c) (register rs a) (look (address rs b c))
executed (Compare a b) rs look chance = moves (slice_set rs 16 (order (register rs a) (register rs b)))
executed (Jump w n) rs look chance = moves (cond (holds w (slice_index rs 16)) (jumped rs n) rs)
executed (Go a) rs look chance = moves (slice_set rs 15 (register rs a))
executed (Ask k) rs look chance = asks rs (asked k rs chance)

-- A step: the word at the address of the next instruction, if it may be run; then it goes on behind it.
abbrev pub fetched : Seen → List ℕ → (ℕ → Seen) → ℕ → Step
fetched unseen rs look chance = asks rs (fault 1)
fetched (seen w true v) rs look chance = executed (decoded v) (slice_set rs 15 (low (slice_index rs 15 + 4))) look chance
fetched (seen w false v) rs look chance = asks rs (fault 1)

unfoldable pub made_up : Processor
made_up rs look chance = fetched (look (slice_index rs 15)) rs look chance
