-- A Vec that is lent as a slice.
use Rattle.std.proofs.Common.{◌≡◌, List, length, Vec, sym, ap, ◌∙◌}
use Rattle.std.specs.Vec.{with_items}
use Rattle.std.proofs.lemmas.List.{with_items_is}

-- it has the items that the slice has afterwards, which are as many
pub refilled_with : {X Z : Type 0} (v : Vec X Z) (ws lent : List X) → length ws ≡ length lent → lent ≡ v.items
    → (with_items v ws).items ≡ ws
refilled_with v ws lent l f = with_items_is v ws (l ∙ ap length f ∙ sym v.ok.0)
