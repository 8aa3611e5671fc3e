use Rattle.std.proofs.Common.{◌≡◌, ◌+◌, ◌-◌, ◌*◌, ◌++◌, take, drop, subst, arith}
use Rattle.sha256.specs.Measures.{Measures}
use Rattle.sha256_callers.proofs.page_of.Goals as goal

pub returns : goal.returns
returns c ws m =
    let p = c.args.p in
    let whole : 1024 * p + 1024 - 1024 * p ≡ 1024 = omega arith in
    subst (λ n. Measures c.extend.result (ws ++ take n (drop (1024 * p) c.args.memory.now))) whole (c.extend.ensures.history ws m)
