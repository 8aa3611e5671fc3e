-- Closed pages keep what they have, but for those that hold and grow write.
use Rattle.std.proofs.Common.{◌≡◌, ℕ, ◌≢◌, List, [], ◌∷◌, get_or, Option, refl, ◌∙◌, inl, inr}
use Rattle.model.specs.Calls.{Place, SystemCall, CellCall, Call, by_system, by_cell}
use Rattle.model.specs.Calls.{how_many, new_cell, new_thread, new_table, hold, give, show, remove, seal, stop, enter, resume}
use Rattle.model.specs.Calls.{leave, interrupt, fault, grow, shrink, extend, who, draw}
use Rattle.model.specs.State.{Limits, State, Caller, apply, apply_all}
use Rattle.model.specs.State.{Edit, put_entry, put_slot, put_table, measure, set_phase, set_thread, write_page, run}
use Rattle.model.specs.Monitor.{system_edits, cell_edits, edits}
use Rattle.model.specs.Promises.{OthersKeep}
use Rattle.model.proofs.Lists.{get_d_set}
use Rattle.model.proofs.Effects.{Effect, no_effect, system_effect, cell_effect, effect}

-- An edit does not write the page q.
abbrev pub Leaves : ℕ → Edit → Type 0
Leaves q (put_entry p x) = Unit {0}
Leaves q (put_slot c w z) = Unit {0}
Leaves q (put_table c i p) = Unit {0}
Leaves q (measure c m) = Unit {0}
Leaves q (set_phase c f) = Unit {0}
Leaves q (set_thread t u rs) = Unit {0}
Leaves q (write_page p ws) = p ≢ q
Leaves q (run r) = Unit {0}

abbrev pub AllLeave : ℕ → List Edit → Type 0
AllLeave q [] = Unit {0}
AllLeave q (e ∷ es) = Leaves q e × AllLeave q es

leaves : (s : State) (e : Edit) (q : ℕ) → Leaves q e → get_or (apply s e).contents q [] ≡ get_or s.contents q []
leaves s (put_entry p x) q h = refl
leaves s (put_slot c w z) q h = refl
leaves s (put_table c i p) q h = refl
leaves s (measure c m) q h = refl
leaves s (set_phase c f) q h = refl
leaves s (set_thread t u rs) q h = refl
leaves s (write_page p ws) q h = elim (get_d_set s.contents p q ws []) [ inl e ↦ e | inr e ↦ absurd (h e.0) ]
leaves s (run r) q h = refl

pub all_leave : (s : State) (es : List Edit) (q : ℕ) → AllLeave q es → get_or (apply_all s es).contents q [] ≡ get_or s.contents q []
all_leave s [] q h = refl
all_leave s (e ∷ es) q h = all_leave (apply s e) es q h.1 ∙ leaves s e q h.0

system_leaves : (l : Limits) (s : State) (c : SystemCall) (q : ℕ) →
    ((p o : ℕ) (w : Place) (x : Option ℕ) → by_system c ≡ by_system (hold p o w x) → p ≢ q) → AllLeave q (system_edits l s c)
unfolding system_edits
system_leaves l s how_many q h = tt
system_leaves l s (new_cell p t) q h = (tt, (tt, tt))
system_leaves l s (new_thread p c a) q h = (tt, (tt, tt))
system_leaves l s (new_table p c i) q h = (tt, (tt, tt))
system_leaves l s (hold p c w x) q h = (tt, (tt, (h p c w x refl, (tt, tt))))
system_leaves l s (give p c) q h = (tt, tt)
system_leaves l s (show o c w) q h = (tt, tt)
system_leaves l s (remove p) q h = (tt, tt)
system_leaves l s (seal c) q h = (tt, tt)
system_leaves l s (stop c) q h = (tt, tt)
system_leaves l s (enter t x y z) q h = (tt, tt)
system_leaves l s (resume t) q h = (tt, tt)

cell_leaves : (l : Limits) (k : Caller) (c : CellCall) (q : ℕ) →
    ((p : ℕ) (w : Place) → by_cell c ≡ by_cell (grow p w) → p ≢ q) → AllLeave q (cell_edits l k c)
unfolding cell_edits
cell_leaves l k (leave n) q h = (tt, (tt, tt))
cell_leaves l k (interrupt rs) q h = (tt, (tt, tt))
cell_leaves l k (fault n) q h = (tt, (tt, tt))
cell_leaves l k (grow p w) q h = (tt, (tt, (h p w refl, tt)))
cell_leaves l k (shrink p w) q h = (tt, (tt, tt))
cell_leaves l k (extend p i) q h = (tt, (tt, tt))
cell_leaves l k who q h = tt
cell_leaves l k (draw n) q h = tt

effect_leaves : (l : Limits) (s : State) (c : Call) (es : List Edit) (q : ℕ) → Effect l s c es →
    ((p o : ℕ) (w : Place) (x : Option ℕ) → c ≡ by_system (hold p o w x) → p ≢ q) →
    ((p : ℕ) (w : Place) → c ≡ by_cell (grow p w) → p ≢ q) → AllLeave q es
effect_leaves l s c es q (no_effect _) h g = tt
effect_leaves l s c es q (system_effect d i j f) h g = system_leaves l s d q h
effect_leaves l s c es q (cell_effect d k i j f) h g = cell_leaves l k d q g

-- 3.
pub others_keep : OthersKeep
others_keep l s c q h g = all_leave s (edits l s c) q (effect_leaves l s c (edits l s c) q (effect l s c) h g)
