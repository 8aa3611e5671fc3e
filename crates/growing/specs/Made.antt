-- What they make of the memory and of closed pages, where no error is told.
use Rattle.std.specs.Prelude.{ℕ, List, replicate}
use Rattle.std.specs.Option.{unwrap_or}
use Rattle.model.specs.Calls.{Place}
use Rattle.model.specs.Pages.{nothing}
use Rattle.pages.specs.Flat.{page_put}
use Rattle.pages.specs.Rows.{slot_put}
use Rattle.full_pages.specs.Meaning.{begun}
use Rattle.pages.specs.declared.values.Record.TheVariants.{Spare}
use Rattle.lookups.specs.Lookups.{vacant, showing}
use Rattle.lookups.specs.declared.Caller.{Caller}
use Rattle.building.specs.Made.{made_held, made_table}

abbrev pub grown : List ℕ → Caller → ℕ → Place → List ℕ
grown m k p w = made_held m p k.cell (unwrap_or (vacant m k.top w) 0) w

abbrev pub grown_pages : List ℕ → ℕ → List ℕ
grown_pages cs p = page_put cs p (replicate 1024 0)

abbrev pub shrunk : List ℕ → Caller → ℕ → Place → List ℕ
shrunk m k p w = begun (slot_put m (unwrap_or (showing m k.top w p) 0) w.slot nothing) p (Spare k.cell)

abbrev pub extended : List ℕ → Caller → ℕ → ℕ → List ℕ
extended m k p i = made_table m p k.cell k.top i
