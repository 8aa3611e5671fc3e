-- What the calls that build a cell make of the memory and of closed pages, where they are taken.
use Rattle.std.specs.Prelude.{ℕ, false, List, replicate, Some, None, Option}
use Rattle.std.specs.Option.{unwrap_or}
use Rattle.sha256.specs.Sha.{initial}
use Rattle.sha256.specs.Window.{hash_of}
use Rattle.sha256.specs.Words.{two_words}
use Rattle.sha256.specs.Measures.{more_measured}
use Rattle.sha256.specs.declared.Measure.{Measure}
use Rattle.model.specs.Calls.{Place}
use Rattle.model.specs.Measured.{place_word}
use Rattle.model.specs.Pages.{opened, closed}
use Rattle.pages.specs.Flat.{page_in, page_put}
use Rattle.pages.specs.Rows.{slot_put, table_put, numbers_put}
use Rattle.full_pages.specs.Meaning.{begun}
use Rattle.pages.specs.Meaning.{measure_words, measure_in}
use Rattle.pages.specs.declared.values.Phase.TheVariants.{Building}
use Rattle.pages.specs.declared.values.Record.TheVariants.{Cell, Thread, Top, Table, Held, Spare}
use Rattle.lookups.specs.Lookups.{cell_of, vacant_by}

-- the table that a place is in, where there is one
abbrev pub table_for : List ℕ → ℕ → Place → ℕ
table_for m c w = unwrap_or (vacant_by m (cell_of m c) w) 0

-- a measure of nothing yet
abbrev pub none_measured : Measure
none_measured = record { hash = hash_of initial; blocks = 0 }

abbrev pub made_cell : List ℕ → ℕ → ℕ → List ℕ
made_cell m p t = begun (numbers_put (begun m p (Cell t Building)) p 4 (measure_words none_measured)) t (Top p)

-- a thread's page, and what is measured of it: that it is one, and where it starts
abbrev pub made_thread : List ℕ → ℕ → ℕ → ℕ → List ℕ
made_thread m p c a =
    numbers_put (begun m p (Thread c a false)) c 4 (measure_words (more_measured (measure_in m c) (two_words 2 a)))

-- an empty table of a cell whose top table is on the page t
abbrev pub made_table : List ℕ → ℕ → ℕ → ℕ → ℕ → List ℕ
made_table m p c t i = table_put (begun m p (Table c)) t i p

-- a page that is held, and seen at a place of the table q
abbrev pub made_held : List ℕ → ℕ → ℕ → ℕ → Place → List ℕ
made_held m p c q w = slot_put (begun m p (Held c)) q w.slot (closed p w.write w.run)

-- the words that a held page gets: those of an open page, or zeros
abbrev pub source_words : List ℕ → Option ℕ → List ℕ
source_words os None = replicate 1024 0
source_words os (Some o) = page_in os o

-- what is measured of a held page: that it is one, where it is seen, and its words
abbrev pub held_measure : List ℕ → ℕ → Place → List ℕ → Measure
held_measure m c w ws = more_measured (more_measured (measure_in m c) (two_words 4 (place_word w))) ws

abbrev pub held_memory : List ℕ → List ℕ → ℕ → ℕ → Place → Option ℕ → List ℕ
held_memory m os p c w o =
    numbers_put (made_held m p c (table_for m c w) w) c 4 (measure_words (held_measure m c w (source_words os o)))

abbrev pub held_pages : List ℕ → List ℕ → ℕ → Option ℕ → List ℕ
held_pages cs os p o = page_put cs p (source_words os o)

abbrev pub given : List ℕ → ℕ → ℕ → List ℕ
given m p c = begun m p (Spare c)

abbrev pub shown : List ℕ → ℕ → ℕ → Place → List ℕ
shown m o c w = slot_put m (table_for m c w) w.slot (opened o w.write)
