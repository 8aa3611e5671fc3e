use Rattle.std.proofs.Common.{◌≡◌, [], ◌∷◌, map, get_or, sym, ◌∙◌, arith, rules}
use Rattle.std.proofs.lemmas.List.{ext_get_or, get_or-map}
use Rattle.sha256.specs.Words.{words_of, swapped}
use Rattle.sha256.proofs.digest_words.Goals as goal

pub returns : goal.returns
unfolding words_of
returns c =
    let h = c.args.hash in
    let words = h.a ∷ h.b ∷ h.c ∷ h.d ∷ h.e ∷ h.f ∷ h.g ∷ h.h ∷ [] in
    let items = c.map.ensures.items in
    ext_get_or 0 c.map.result (map swapped words) items.long
    (λ i l.
    let at = items.at i 0 0 (omega (arith, items.long, l)) in
    let e : get_or c.map.result i 0 ≡ swapped (get_or words i 0) = search rules in
    e ∙ sym (get_or-map swapped words i 0 0 (omega (arith, items.long, l))))
