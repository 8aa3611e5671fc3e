use Rattle.std.proofs.Common.{◌≡◌, ℕ, ◌-◌, ◌<◌, ◌≤◌, length, get_or, rules}
use Rattle.script.proofs.Printing.{trimmed_at}
use Rattle.script.proofs.showing.used.Goals as goal

pub returns : goal.returns
returns c =
    let words = c.args.words.now in
    let n = c.map_or.result in
    let within : n ≤ length words = search rules in
    let zeros : (k : ℕ) → n ≤ k → k < length words → get_or words k 0 ≡ 0 = search rules in
    let last : 0 < n → get_or words (n - 1) 0 ≡ 0 → ⊥ = search rules in
    (trimmed_at words n within zeros last, within)
