-- The example of one cell, by computation.
use Rattle.std.proofs.Common.{refl}
use Rattle.model.specs.OneCell.{Plays, small, one_cell, one_name, refusals}
use Rattle.sha256.specs.Sha.{sha256, hashed, compressed, rounds, extended, big_endian_words}
use Rattle.sha256.specs.Words.{bytes_of, words_of}
use Rattle.model.proofs.Computed.{OpenedUp}

pub one_cell_plays : Plays small one_cell
unfolding Plays OpenedUp
one_cell_plays = refl

pub one_name_plays : Plays small one_name
unfolding Plays OpenedUp sha256 hashed compressed rounds extended big_endian_words bytes_of words_of
one_name_plays = refl

pub refusals_play : Plays small refusals
unfolding Plays OpenedUp
refusals_play = refl
