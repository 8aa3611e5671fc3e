-- What each edit keeps, and so what every call does.
use Rattle.std.proofs.Common.{◌≡◌, List, [], ◌∷◌, refl, ◌∙◌}
use Rattle.model.specs.State.{State, apply, apply_all}
use Rattle.model.specs.State.{Edit, put_entry, put_slot, put_table, measure, set_phase, set_thread, write_page, run}
use Rattle.model.specs.Monitor.{edits}
use Rattle.model.specs.Promises.{OpenPagesStay}

apply_open : (s : State) (e : Edit) → (apply s e).open_pages ≡ s.open_pages
apply_open s (put_entry p x) = refl
apply_open s (put_slot c w z) = refl
apply_open s (put_table c i p) = refl
apply_open s (measure c m) = refl
apply_open s (set_phase c f) = refl
apply_open s (set_thread t u rs) = refl
apply_open s (write_page p ws) = refl
apply_open s (run r) = refl

pub all_open : (s : State) (es : List Edit) → (apply_all s es).open_pages ≡ s.open_pages
all_open s [] = refl
all_open s (e ∷ es) = all_open (apply s e) es ∙ apply_open s e

-- 4.
pub open_pages_stay : OpenPagesStay
open_pages_stay l s c = all_open s (edits l s c)
