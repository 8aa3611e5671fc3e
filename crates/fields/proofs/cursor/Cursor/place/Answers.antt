use Rattle.std.proofs.Common.{◌≡◌, ℕ, ◌+◌, List, get_or, drop, sym, refl, ap, ◌∙◌, arith, length-drop}
use Rattle.std.proofs.lemmas.List.{get_or-drop, drop-drop}
use Rattle.fields.specs.Bytes.{number_in}
use Rattle.fields.specs.Codec.{lost}
use Rattle.fields.specs.Steps.{rest_of}
use Rattle.fields.proofs.Fronts.{place_short, place_bad, place_there}
use Rattle.fields.proofs.cursor.Cursor.place.Goals as goal

pub returns-then-self-lt17 : goal.returns-then-self-lt17
returns-then-self-lt17 c =
    (place_short (rest_of c.args.self.now) (simp length-drop (omega arith)) ∙ ap lost (omega arith), omega arith)

pub returns-then-rights-ge4 : goal.returns-then-rights-ge4
returns-then-rights-ge4 c = (
  place_bad (rest_of c.args.self.now) (simp length-drop (omega arith)) (simp get_or-drop (omega arith))
      ∙ ap lost (simp length-drop (omega arith)),
  omega arith,
)

pub returns : goal.returns
returns c =
    let at : ℕ = c.args.self.now.at in
    let bs : List ℕ = c.args.self.now.bytes.now in
    let b : get_or (drop at bs) 16 0 ≡ get_or bs (at + 16) 0 = get_or-drop at bs 16 0 in
    let t : number_in (drop at bs) ≡ c.number_at-table.result = sym c.number_at-table.ensures in
    let s : number_in (drop 8 (drop at bs)) ≡ c.number_at-slot.result = ap number_in (drop-drop 8 at bs)
    ∙ sym c.number_at-slot.ensures in (
      refl,
      place_there (drop at bs) (simp length-drop (omega arith)) (omega arith) ∙ rw (b, t, s, drop-drop 17 at bs) refl,
    )
