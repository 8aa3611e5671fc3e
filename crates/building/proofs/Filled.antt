-- A page that was written, read again.
use Rattle.std.proofs.Common.{◌≡◌, ℕ, ◌*◌, true, List, length, get_or, take, IfSome, Some, None, Option, ap, ◌∙◌, arith, ltb-true}
use lib.ListN.{length-replicate}
use Rattle.std.proofs.lemmas.List.{drop_at, take_at, length-take-le}
use Rattle.pages.specs.Flat.{HasWords, page_in, page_put}
use Rattle.pages.proofs.Lists.{length_page}
use Rattle.building.specs.Checks.{source_there}
use Rattle.building.specs.Made.{source_words}

pub read_back : (all : List ℕ) (p : ℕ) (ws : List ℕ) → HasWords all p → length ws ≡ 1024 → page_in (page_put all p ws) p ≡ ws
read_back all p ws h n =
    ap (take 1024) (drop_at (take (p * 1024) all) _ (p * 1024) (length-take-le (p * 1024) all (omega arith)))
    ∙ take_at ws _ 1024 n

pub length_source : (os : List ℕ) (o : Option ℕ) → IfSome o (HasWords os) → length (source_words os o) ≡ 1024
length_source os None h = length-replicate {A = ℕ} 1024 0
length_source os (Some o) h = length_page os o h

pub source_fits : (m os : List ℕ) (o : Option ℕ) → source_there m o ≡ true → length os ≡ get_or m 1 0 * 1024 → IfSome o (HasWords os)
source_fits m os None h n = tt
source_fits m os (Some o) h n = omega (arith, ltb-true o (get_or m 1 0) h)
