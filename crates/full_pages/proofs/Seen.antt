-- What is read of a state's memory.
use Rattle.std.proofs.Common.{◌≡◌, ◌≤◌, length, arith}
use Rattle.model.specs.State.{Limits, State}
use Rattle.pages.specs.Layout.{encode}
use Rattle.pages.proofs.Seen as pages
use Rattle.full_pages.specs.Meaning.{Sized}
use Rattle.full_pages.specs.Promises.{ReadsRight}

sized : (l : Limits) (s : State) → length s.entries ≡ l.pages → l.pages ≤ 4096 → l.opens ≤ 1048576 → Sized (encode l s)
sized l s q h g =
    let it = pages.reads_right.sized l s q h in
    record { long = it.long; few = it.few; few_open = omega (arith, pages.reads_right.opens l s, g) }

pub reads_right : ReadsRight
reads_right = record { others = pages.reads_right; sized = sized }
