-- What is lent to the monitor fits.
use Rattle.std.specs.Prelude.{◌≡◌, ℕ, ◌*◌, List, length, slice_index}
use Rattle.full_pages.specs.Meaning.{Sized}

-- memory of an opened monitor, and slices of closed and of open pages that fit it
pub record Lent (m cs os : List ℕ) : Type 0 where
  pub memory : Sized m
  pub closed : length cs ≡ slice_index m 0 * 1024
  pub opens : length os ≡ slice_index m 1 * 1024
