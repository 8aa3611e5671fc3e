-- One cell, from its making to its end, call by call, with what each is answered: an example of the definitions, at small sizes.
use Rattle.std.specs.Prelude.{◌≡◌, ℕ, true, false, List, [], ◌∷◌, ◌++◌, map, replicate, Some, None}
use Rattle.model.specs.Calls.{Place, Call, by_system, by_cell, garbled}
use Rattle.model.specs.Calls.{how_many, new_cell, new_thread, new_table, hold, give, show, remove, seal, stop, enter, resume}
use Rattle.model.specs.Calls.{leave, interrupt, fault, grow, shrink, extend, who, draw}
use Rattle.model.specs.Answers.{Answer, refused, done, enters, told, left}
use Rattle.model.specs.State.{Limits, State, new_state}
use Rattle.model.specs.Monitor.{answer, after}

infix 68 ◌⇒◌
-- A call, and what it is answered.
pub record Row : Type 0 where
  pub call : Call
  pub answer : Answer

abbrev pub ◌⇒◌ : Call → Answer → Row
c ⇒ a = record { call = c; answer = a }

-- What calls are answered, one after the other.
abbrev pub answers : Limits → State → List Call → List Answer
answers l s [] = []
answers l s (c ∷ cs) = answer l s c ∷ answers l (after l s c) cs

-- The rows are what the monitor does, from the start.
unfoldable pub Plays : Limits → List Row → Type 0
Plays l rows = answers l (new_state l) (map (λ r. r.call) rows) ≡ map (λ r. r.answer) rows

-- Six closed pages of two words, three open ones, and tables of four places.
abbrev pub small : Limits
small = record { can = λ k. true; pages = 6; opens = 3; places = 4; slots = 4; words = 2 }

abbrev pub seen_at : ℕ → ℕ → Place
seen_at i j = record { table = i; slot = j; write = false; run = false }

abbrev pub written_at : ℕ → ℕ → Place
written_at i j = record { table = i; slot = j; write = true; run = false }

abbrev pub refused_by : ℕ → Answer
refused_by k = refused (record { number = k; place = 0 })

abbrev pub registers : List ℕ
registers = 0 ∷ 1 ∷ 2 ∷ 3 ∷ 4 ∷ 5 ∷ 6 ∷ 7 ∷ 8 ∷ 9 ∷ 10 ∷ 11 ∷ 12 ∷ 13 ∷ 14 ∷ 15 ∷ 16 ∷ []

abbrev pub one_cell : List Row
one_cell =
    by_system (new_cell 0 1) ⇒ done
    ∷ by_system (new_cell 0 2) ⇒ refused_by 4
    ∷ by_system (new_thread 2 0 4096) ⇒ done
    ∷ by_system (hold 3 0 (seen_at 0 1) None) ⇒ refused_by 8
    ∷ by_system (new_table 4 0 0) ⇒ done
    ∷ by_system (hold 3 0 (written_at 0 1) (Some 2)) ⇒ done
    ∷ by_system (hold 5 0 (seen_at 0 1) None) ⇒ refused_by 8
    ∷ by_system (show 1 0 (written_at 0 2)) ⇒ done
    ∷ by_system (enter 2 0 0 0) ⇒ refused_by 7
    ∷ by_system (seal 0) ⇒ done
    ∷ by_system (seal 0) ⇒ refused_by 6
    ∷ by_system (hold 5 0 (seen_at 0 3) None) ⇒ refused_by 6
    ∷ by_system (give 5 0) ⇒ done
    ∷ by_system (remove 3) ⇒ refused_by 10
    ∷ by_system (enter 2 7 8 9) ⇒ enters 1 (7 ∷ 8 ∷ 9 ∷ (replicate 12 0 ++ (4096 ∷ 0 ∷ [])))
    ∷ by_system how_many ⇒ refused_by 14
    ∷ by_cell (grow 5 (written_at 0 1)) ⇒ told 8 []
    ∷ by_cell (grow 5 (written_at 0 3)) ⇒ told 0 []
    ∷ by_cell (interrupt registers) ⇒ left 1 0
    ∷ by_system (enter 2 0 0 0) ⇒ refused_by 11
    ∷ by_system (resume 2) ⇒ enters 1 registers
    ∷ by_cell (shrink 5 (seen_at 0 1)) ⇒ told 8 []
    ∷ by_cell (shrink 5 (seen_at 0 3)) ⇒ told 0 []
    ∷ by_cell (extend 5 1) ⇒ told 0 []
    ∷ by_cell (leave 42) ⇒ left 0 42
    ∷ by_cell (leave 42) ⇒ refused_by 14
    ∷ by_system (remove 5) ⇒ refused_by 10
    ∷ by_system (stop 0) ⇒ done
    ∷ by_system (enter 2 0 0 0) ⇒ refused_by 7
    ∷ by_system (remove 0) ⇒ refused_by 4
    ∷ by_system (remove 1) ⇒ done
    ∷ by_system (remove 2) ⇒ done
    ∷ by_system (remove 3) ⇒ done
    ∷ by_system (remove 4) ⇒ done
    ∷ by_system (remove 5) ⇒ done
    ∷ by_system (remove 0) ⇒ done
    ∷ []

-- A cell in which nothing but a thread was made asks for its name.
abbrev pub one_name : List Row
one_name =
    by_system (new_cell 0 1) ⇒ done
    ∷ by_system (new_thread 2 0 4096) ⇒ done
    ∷ by_system (seal 0) ⇒ done
    ∷ by_system (enter 2 0 0 0) ⇒ enters 1 (replicate 15 0 ++ (4096 ∷ 0 ∷ []))
    ∷ by_cell who
    ⇒ told 0 (2679725656 ∷ 1180564849 ∷ 4218349236 ∷ 3221858598 ∷ 1795978103 ∷ 3783897963 ∷ 2335176584 ∷ 2333515072 ∷ [])
    ∷ []

-- What each call is refused for, and in which order, and which errors a cell is told.
abbrev pub refusals : List Row
refusals =
    by_system (new_cell 0 0) ⇒ refused_by 3
    ∷ by_system (new_cell 0 6) ⇒ refused_by 3
    ∷ by_system (new_thread 0 0 4096) ⇒ refused_by 5
    ∷ by_system (new_cell 0 1) ⇒ done
    ∷ by_system (new_thread 6 0 4096) ⇒ refused_by 3
    ∷ by_system (new_thread 1 0 4096) ⇒ refused_by 4
    ∷ by_system (new_thread 2 0 4294967296) ⇒ refused_by 2
    ∷ by_system (new_table 2 1 4) ⇒ refused_by 8
    ∷ by_system (new_table 2 1 0) ⇒ refused_by 5
    ∷ by_system (new_table 2 0 0) ⇒ done
    ∷ by_system (new_table 6 0 0) ⇒ refused_by 9
    ∷ by_system (new_table 6 0 1) ⇒ refused_by 3
    ∷ by_system (new_table 2 0 1) ⇒ refused_by 4
    ∷ by_system (hold 3 1 (seen_at 0 4) None) ⇒ refused_by 2
    ∷ by_system (hold 3 1 (seen_at 0 0) None) ⇒ refused_by 5
    ∷ by_system (hold 6 0 (seen_at 1 0) (Some 3)) ⇒ refused_by 8
    ∷ by_system (hold 2 0 (seen_at 0 0) (Some 3)) ⇒ refused_by 3
    ∷ by_system (hold 6 0 (seen_at 0 0) None) ⇒ refused_by 3
    ∷ by_system (hold 2 0 (seen_at 0 0) None) ⇒ refused_by 4
    ∷ by_system (show 3 0 (seen_at 0 0)) ⇒ refused_by 3
    ∷ by_system (give 6 0) ⇒ refused_by 3
    ∷ by_system (give 2 0) ⇒ refused_by 4
    ∷ by_system (give 3 0) ⇒ done
    ∷ by_system (remove 6) ⇒ refused_by 3
    ∷ by_system (remove 3) ⇒ refused_by 10
    ∷ by_system (remove 4) ⇒ done
    ∷ by_system (new_thread 4 0 4096) ⇒ done
    ∷ by_system (seal 1) ⇒ refused_by 5
    ∷ by_system (seal 0) ⇒ done
    ∷ by_system (new_thread 5 0 4096) ⇒ refused_by 6
    ∷ by_system (new_table 5 0 1) ⇒ refused_by 6
    ∷ by_system (show 0 0 (seen_at 0 0)) ⇒ refused_by 6
    ∷ by_system (enter 3 0 0 0) ⇒ refused_by 3
    ∷ by_system (resume 4) ⇒ refused_by 12
    ∷ by_cell (leave 1) ⇒ refused_by 14
    ∷ by_cell (interrupt []) ⇒ refused_by 2
    ∷ garbled 3 ⇒ refused (record { number = 1; place = 3 })
    ∷ by_system (enter 4 1 2 3) ⇒ enters 1 (1 ∷ 2 ∷ 3 ∷ (replicate 12 0 ++ (4096 ∷ 0 ∷ [])))
    ∷ garbled 0 ⇒ refused_by 1
    ∷ by_cell (grow 2 (seen_at 4 0)) ⇒ told 3 []
    ∷ by_cell (grow 3 (seen_at 4 0)) ⇒ told 8 []
    ∷ by_cell (grow 3 (seen_at 1 0)) ⇒ told 8 []
    ∷ by_cell (shrink 3 (seen_at 0 0)) ⇒ told 3 []
    ∷ by_cell (extend 2 4) ⇒ told 8 []
    ∷ by_cell (extend 2 0) ⇒ told 3 []
    ∷ by_cell (extend 3 0) ⇒ told 9 []
    ∷ by_cell (draw 4294967296) ⇒ refused_by 2
    ∷ by_cell (draw 6) ⇒ told 0 (6 ∷ [])
    ∷ by_cell (fault 3) ⇒ left 2 3
    ∷ by_system (remove 3) ⇒ done
    ∷ by_system (stop 1) ⇒ refused_by 5
    ∷ by_system (stop 0) ⇒ done
    ∷ by_system (stop 0) ⇒ done
    ∷ by_system (give 5 0) ⇒ refused_by 13
    ∷ by_system (new_thread 5 0 4096) ⇒ refused_by 13
    ∷ by_system (new_table 5 0 0) ⇒ refused_by 13
    ∷ by_system (hold 5 0 (seen_at 0 0) None) ⇒ refused_by 6
    ∷ by_system (seal 0) ⇒ refused_by 6
    ∷ []
