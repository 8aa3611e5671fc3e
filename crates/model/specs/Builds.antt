-- What a cell was built of: the parts that calls put into it since it was made, in their order.
use Rattle.std.specs.Prelude.{ℕ, cond, List, [], ◌∷◌, ◌++◌, Some, None, Option, ◌==◌}
use Rattle.model.specs.Calls.{SystemCall, Call, by_system, by_cell, garbled}
use Rattle.model.specs.Calls.{how_many, new_cell, new_thread, new_table, hold, give, show, remove, seal, stop, enter, resume}
use Rattle.model.specs.Answers.{Refusal}
use Rattle.model.specs.Measured.{Part, thread_from, page_at, part_words}
use Rattle.model.specs.State.{Limits, State}
use Rattle.model.specs.Refusals.{refusal}
use Rattle.model.specs.Monitor.{copied}
use Rattle.model.specs.Machine.{Machine}
use Rattle.model.specs.Worlds.{World, Act, calls, writes, runs, new_world, step}

-- What the cell o is built of after a call that is not refused, from what it was built of before. A new cell is built of nothing.
unfoldable pub built_by : Limits → State → ℕ → SystemCall → List Part → List Part
built_by l s o how_many b = b
built_by l s o (new_cell p t) b = cond (p == o) [] b
built_by l s o (new_thread p c a) b = cond (c == o) (b ++ (thread_from a ∷ [])) b
built_by l s o (new_table p c i) b = b
built_by l s o (hold p c w x) b = cond (c == o) (b ++ (page_at w (copied l s x) ∷ [])) b
built_by l s o (give p c) b = b
built_by l s o (show x c w) b = b
built_by l s o (remove p) b = b
built_by l s o (seal c) b = b
built_by l s o (stop c) b = b
built_by l s o (enter t x y z) b = b
built_by l s o (resume t) b = b

-- The same after any call, and any act.
unfoldable pub built_or : List Part → List Part → Option Refusal → List Part
built_or b new None = new
built_or b new (Some r) = b

unfoldable pub built_call : Limits → State → ℕ → Call → List Part → List Part
built_call l s o (by_system c) b = built_or b (built_by l s o c b) (refusal l s (by_system c))
built_call l s o (by_cell c) b = b
built_call l s o (garbled n) b = b

unfoldable pub built_act : Limits → World → ℕ → Act → List Part → List Part
built_act l w o (calls c) b = built_call l w.state o c b
built_act l w o (writes x ws) b = b
built_act l w o (runs chance) b = b

abbrev pub built_from : Limits → Machine → ℕ → World → List Part → List Act → List Part
built_from l m o w b [] = b
built_from l m o w b (a ∷ rest) = built_from l m o (step l m w a) (built_act l w o a b) rest

-- What the cell o was built of, in all that happened since the start.
abbrev pub built : Limits → Machine → ℕ → List Act → List Part
built l m o acts = built_from l m o (new_world l) [] acts

-- The words that are measured of parts.
abbrev pub parts_words : List Part → List ℕ
parts_words [] = []
parts_words (x ∷ xs) = part_words x ++ parts_words xs
