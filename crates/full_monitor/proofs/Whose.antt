-- Whose a call is, by the cases that it is not.
use Rattle.std.proofs.Common.{◌≡◌, ℕ, Option, refl}
use Rattle.fields.specs.Shapes.{place_of, numbers_of}
use Rattle.fields.specs.declared.values.Place.{Place}
use Rattle.fields.specs.declared.values.Numbers.{Numbers}
use Rattle.model.specs.Calls as model
use Rattle.model.specs.Calls.{SystemCall, CellCall, by_system, by_cell}
use Rattle.model.specs.Calls.{how_many, new_cell, new_thread, new_table, hold, give, show, remove, seal, stop, enter, resume}
use Rattle.model.specs.Calls.{leave, interrupt, fault, grow, shrink, extend, who, draw}
use Rattle.calls.specs.Meaning.{call_of}
use Rattle.calls.specs.declared.call.Call.{Call}
use Rattle.calls.specs.declared.call.Call.TheVariants.{HowMany, NewCell, NewThread, NewTable, Hold, Give, Show, Remove, Seal, Stop}
use Rattle.calls.specs.declared.call.Call.TheVariants.{Enter, Resume, Leave, Interrupt, Fault, Grow, Shrink, Extend, Who, Draw}

-- none of the system's
pub a_cells : (q : Call) → (q ≡ HowMany → ⊥) →
    ((a b : ℕ) → q ≡ NewCell a b → ⊥) →
    ((a b c : ℕ) → q ≡ NewThread a b c → ⊥) →
    ((a b c : ℕ) → q ≡ NewTable a b c → ⊥) →
    ((p c : ℕ) (w : Place) (o : Option ℕ) → q ≡ Hold p c w o → ⊥) →
    ((a b : ℕ) → q ≡ Give a b → ⊥) →
    ((o c : ℕ) (w : Place) → q ≡ Show o c w → ⊥) →
    ((a : ℕ) → q ≡ Remove a → ⊥) →
    ((a : ℕ) → q ≡ Seal a → ⊥) →
    ((a : ℕ) → q ≡ Stop a → ⊥) →
    ((a b c d : ℕ) → q ≡ Enter a b c d → ⊥) →
    ((a : ℕ) → q ≡ Resume a → ⊥) →
    (c : CellCall) × (call_of q ≡ by_cell c)
a_cells HowMany h _ _ _ _ _ _ _ _ _ _ _ = absurd (h refl)
a_cells (NewCell a b) _ h _ _ _ _ _ _ _ _ _ _ = absurd (h a b refl)
a_cells (NewThread a b c) _ _ h _ _ _ _ _ _ _ _ _ = absurd (h a b c refl)
a_cells (NewTable a b c) _ _ _ h _ _ _ _ _ _ _ _ = absurd (h a b c refl)
a_cells (Hold p c w o) _ _ _ _ h _ _ _ _ _ _ _ = absurd (h p c w o refl)
a_cells (Give a b) _ _ _ _ _ h _ _ _ _ _ _ = absurd (h a b refl)
a_cells (Show o c w) _ _ _ _ _ _ h _ _ _ _ _ = absurd (h o c w refl)
a_cells (Remove a) _ _ _ _ _ _ _ h _ _ _ _ = absurd (h a refl)
a_cells (Seal a) _ _ _ _ _ _ _ _ h _ _ _ = absurd (h a refl)
a_cells (Stop a) _ _ _ _ _ _ _ _ _ h _ _ = absurd (h a refl)
a_cells (Enter a b c d) _ _ _ _ _ _ _ _ _ _ h _ = absurd (h a b c d refl)
a_cells (Resume a) _ _ _ _ _ _ _ _ _ _ _ h = absurd (h a refl)
a_cells (Leave n) _ _ _ _ _ _ _ _ _ _ _ _ = (leave n, refl)
a_cells (Interrupt r) _ _ _ _ _ _ _ _ _ _ _ _ = (interrupt (numbers_of r), refl)
a_cells (Fault n) _ _ _ _ _ _ _ _ _ _ _ _ = (fault n, refl)
a_cells (Grow p w) _ _ _ _ _ _ _ _ _ _ _ _ = (grow p (place_of w), refl)
a_cells (Shrink p w) _ _ _ _ _ _ _ _ _ _ _ _ = (shrink p (place_of w), refl)
a_cells (Extend p i) _ _ _ _ _ _ _ _ _ _ _ _ = (extend p i, refl)
a_cells Who _ _ _ _ _ _ _ _ _ _ _ _ = (who, refl)
a_cells (Draw n) _ _ _ _ _ _ _ _ _ _ _ _ = (draw n, refl)

-- none of a cell's
pub a_systems : (q : Call) → ((n : ℕ) → q ≡ Leave n → ⊥) → ((r : Numbers) → q ≡ Interrupt r → ⊥) → ((n : ℕ) → q ≡ Fault n → ⊥) →
    ((p : ℕ) (w : Place) → q ≡ Grow p w → ⊥) → ((p : ℕ) (w : Place) → q ≡ Shrink p w → ⊥) → ((p i : ℕ) → q ≡ Extend p i → ⊥) →
    (q ≡ Who → ⊥) → ((n : ℕ) → q ≡ Draw n → ⊥) → (c : SystemCall) × (call_of q ≡ by_system c)
a_systems (Leave n) h _ _ _ _ _ _ _ = absurd (h n refl)
a_systems (Interrupt r) _ h _ _ _ _ _ _ = absurd (h r refl)
a_systems (Fault n) _ _ h _ _ _ _ _ = absurd (h n refl)
a_systems (Grow p w) _ _ _ h _ _ _ _ = absurd (h p w refl)
a_systems (Shrink p w) _ _ _ _ h _ _ _ = absurd (h p w refl)
a_systems (Extend p i) _ _ _ _ _ h _ _ = absurd (h p i refl)
a_systems Who _ _ _ _ _ _ h _ = absurd (h refl)
a_systems (Draw n) _ _ _ _ _ _ _ h = absurd (h n refl)
a_systems HowMany _ _ _ _ _ _ _ _ = (how_many, refl)
a_systems (NewCell a b) _ _ _ _ _ _ _ _ = (new_cell a b, refl)
a_systems (NewThread a b c) _ _ _ _ _ _ _ _ = (new_thread a b c, refl)
a_systems (NewTable a b c) _ _ _ _ _ _ _ _ = (new_table a b c, refl)
a_systems (Hold p c w o) _ _ _ _ _ _ _ _ = (hold p c (place_of w) o, refl)
a_systems (Give a b) _ _ _ _ _ _ _ _ = (give a b, refl)
a_systems (Show o c w) _ _ _ _ _ _ _ _ = (show o c (place_of w), refl)
a_systems (Remove a) _ _ _ _ _ _ _ _ = (remove a, refl)
a_systems (Seal a) _ _ _ _ _ _ _ _ = (seal a, refl)
a_systems (Stop a) _ _ _ _ _ _ _ _ = (stop a, refl)
a_systems (Enter a b c d) _ _ _ _ _ _ _ _ = (enter a b c d, refl)
a_systems (Resume a) _ _ _ _ _ _ _ _ = (resume a, refl)

-- what holds of the system's calls, and of a cell's, holds of any
pub sides : (q : Call) (P : model.Call → Type 0) → ((c : SystemCall) → P (by_system c)) → ((c : CellCall) → P (by_cell c)) → P (call_of q)
sides HowMany P f g = f how_many
sides (NewCell a b) P f g = f (new_cell a b)
sides (NewThread a b c) P f g = f (new_thread a b c)
sides (NewTable a b c) P f g = f (new_table a b c)
sides (Hold p c w o) P f g = f (hold p c (place_of w) o)
sides (Give a b) P f g = f (give a b)
sides (Show o c w) P f g = f (show o c (place_of w))
sides (Remove a) P f g = f (remove a)
sides (Seal a) P f g = f (seal a)
sides (Stop a) P f g = f (stop a)
sides (Enter a b c d) P f g = f (enter a b c d)
sides (Resume a) P f g = f (resume a)
sides (Leave n) P f g = g (leave n)
sides (Interrupt r) P f g = g (interrupt (numbers_of r))
sides (Fault n) P f g = g (fault n)
sides (Grow p w) P f g = g (grow p (place_of w))
sides (Shrink p w) P f g = g (shrink p (place_of w))
sides (Extend p i) P f g = g (extend p i)
sides Who P f g = g who
sides (Draw n) P f g = g (draw n)
