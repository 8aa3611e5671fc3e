-- This stage, call by call.
use Rattle.std.proofs.Common.{◌≡◌, ℕ, eqb, refl}
use Rattle.model.specs.Calls.{Call, by_system, by_cell, garbled}
use Rattle.model.specs.Calls.{how_many, new_cell, new_thread, new_table, hold, give, show, remove, seal, stop, enter, resume}
use Rattle.model.specs.Calls.{leave, interrupt, fault, grow, shrink, extend, who, draw}
use Rattle.model.specs.State.{Limits, new_state}
use Rattle.model.specs.Refusals.{system_checks, system_fits, checks, place}
use Rattle.model.specs.Monitor as model
use Rattle.model.specs.Monitor.{edits_or, changed, system_edits, reply, system_reply, answer_or}
use Rattle.monitor.specs.Stage.{answer}

pub stage : (l : Limits) → ((k : ℕ) → l.can k ≡ eqb k 0) → (c : Call) →
    (model.answer l (new_state l) c ≡ answer l.pages c) × (model.after l (new_state l) c ≡ new_state l)
unfolding system_checks system_fits checks place edits_or changed system_edits reply system_reply answer_or
stage l h (by_system how_many) = rw (h 0) (refl, refl)
stage l h (by_system (new_cell p t)) = rw (h 1) (refl, refl)
stage l h (by_system (new_thread p c a)) = rw (h 2) (refl, refl)
stage l h (by_system (new_table p c i)) = rw (h 3) (refl, refl)
stage l h (by_system (hold p c w o)) = rw (h 4) (refl, refl)
stage l h (by_system (give p c)) = rw (h 5) (refl, refl)
stage l h (by_system (show o c w)) = rw (h 6) (refl, refl)
stage l h (by_system (remove p)) = rw (h 7) (refl, refl)
stage l h (by_system (seal c)) = rw (h 8) (refl, refl)
stage l h (by_system (stop c)) = rw (h 9) (refl, refl)
stage l h (by_system (enter t x y z)) = rw (h 10) (refl, refl)
stage l h (by_system (resume t)) = rw (h 11) (refl, refl)
stage l h (by_cell (leave n)) = rw (h 20) (refl, refl)
stage l h (by_cell (interrupt rs)) = rw (h 21) (refl, refl)
stage l h (by_cell (fault n)) = rw (h 22) (refl, refl)
stage l h (by_cell (grow p w)) = rw (h 23) (refl, refl)
stage l h (by_cell (shrink p w)) = rw (h 24) (refl, refl)
stage l h (by_cell (extend p i)) = rw (h 25) (refl, refl)
stage l h (by_cell who) = rw (h 26) (refl, refl)
stage l h (by_cell (draw n)) = rw (h 27) (refl, refl)
stage l h (garbled n) = (refl, refl)
