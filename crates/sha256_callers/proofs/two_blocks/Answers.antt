use Rattle.std.proofs.Common.{◌≡◌, ◌++◌, take, drop, ap, ◌∙◌, subst, append_assoc, arith, length-drop}
use Rattle.std.proofs.lemmas.List.{take-append-drop, take_all}
use Rattle.sha256.specs.Measures.{Measures}
use Rattle.sha256_callers.proofs.two_blocks.Goals as goal

pub returns : goal.returns
returns c ws m =
    let words = c.args.words.now in
    let second : take 16 (drop 16 words) ≡ drop 16 words =
    take_all 16 (drop 16 words) (simp length-drop (omega arith)) in
    let both : (ws ++ take 16 words) ++ take 16 (drop 16 words) ≡ ws ++ words =
    append_assoc ws (take 16 words) (take 16 (drop 16 words))
    ∙ ap (ws ++◌) (ap (take 16 words ++◌) second ∙ take-append-drop 16 words) in
    subst (Measures c.extend-2.result) both (c.extend-2.ensures.history _ (c.extend.ensures.history ws m))
