-- Words that are written into a page, 1,024 of them.
use Rattle.std.specs.Prelude.{ℕ, ◌-◌, ◌/◌, Bool, ◌&&◌, List, ◌++◌, length, replicate, nat_le, nat_lt}

-- some words, and zeros up to a whole page
abbrev pub whole_page : List ℕ → List ℕ
whole_page ws = ws ++ replicate (1024 - length ws) 0

-- whether there is such a page, and at most a page of words
abbrev pub page_fits : List ℕ → ℕ → List ℕ → Bool
page_fits all p ws = nat_lt p (length all / 1024) && nat_le (length ws) 1024
