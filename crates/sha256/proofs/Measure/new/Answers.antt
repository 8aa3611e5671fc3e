use Rattle.std.proofs.Common.{[], sym, ap, subst}
use Rattle.sha256.specs.Window.{hash_of}
use Rattle.sha256.specs.Measures.{Measures}
use Rattle.sha256.proofs.Measured.{none_measured}
use Rattle.sha256.proofs.Measure.new.Goals as goal

pub returns : goal.returns
returns c =
    let value = ap (λ s. record { hash = hash_of s; blocks = 0 }) c.start.ensures in
    record { history = subst (λ r. Measures r []) (sym value) none_measured; value = value }
