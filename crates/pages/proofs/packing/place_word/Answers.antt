use Rattle.std.proofs.Common.{◌∙◌}
use Rattle.pages.specs.Packing.{bit}
use Rattle.pages.proofs.Packs.{or_place, byte_bit, bit_small, place_bits}
use Rattle.pages.proofs.packing.place_word.Goals as goal

pub returns : goal.returns
returns c =
    simp byte_bit
    (or_place c.args.place.table c.args.place.slot (bit c.args.place.run) (bit c.args.place.write)
    c.requires.0 c.requires.1
    (bit_small c.args.place.run) (bit_small c.args.place.write)
    ∙ place_bits c.args.place.table c.args.place.slot c.args.place.run c.args.place.write)
