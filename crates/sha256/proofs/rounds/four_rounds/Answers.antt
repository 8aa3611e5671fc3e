use Rattle.std.proofs.Common.{◌≡◌, ◌++◌, length, get_or, sym, ap, ◌∙◌, ap₂, arith}
use lib.Lanes.{zip2}
use Rattle.sha256.specs.Sha.{round, ◌⊞◌}
use Rattle.sha256.specs.Window.{state_of, rolled, outcome}
use Rattle.sha256.proofs.Lanes.{four_rounds, rounds_stepped, stepped}
use Rattle.sha256.proofs.rounds.four_rounds.Goals as goal

pub returns : goal.returns
unfolding outcome
returns c ks =
    let w = c.args.work.window in
    let k = c.args.k in
    let s = state_of c.args.work.hash in
    let hk : length k ≡ 4 = grind arith in
    let h0 : length w.w0 ≡ 4 = grind arith in
    let h4 : length w.w4 ≡ 4 = grind arith in
    let h8 : length w.w8 ≡ 4 = grind arith in
    let h12 : length w.w12 ≡ 4 = grind arith in
    let x = zip2 ◌⊞◌ k w.w0 in
    let rounded : state_of c.one_round-hash-4.result ≡ stepped s x =
    c.one_round-hash-4.ensures
    ∙ ap (λ s. round s (get_or x 3 0)) (c.one_round-hash-3.ensures
    ∙ ap (λ s. round s (get_or x 2 0)) (c.one_round-hash-2.ensures
    ∙ ap (λ s. round s (get_or x 1 0)) c.one_round-hash.ensures)) in
    four_rounds s k ks w.w0 w.w4 w.w8 w.w12 hk h0 h4 h8 h12
    ∙ ap₂ (λ s v. rolled s ks (w.w4 ++ (w.w8 ++ (w.w12 ++ v))))
    (rounds_stepped s k w.w0 hk h0 ∙ sym rounded) (sym c.next_words.ensures)
