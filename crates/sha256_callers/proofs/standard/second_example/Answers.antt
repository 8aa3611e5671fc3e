use Rattle.std.proofs.Common.{refl}
use Rattle.sha256.specs.Sha.{sha256, hashed, compressed, rounds, extended, big_endian_words}
use Rattle.sha256_callers.proofs.standard.second_example.Goals as goal

pub returns : goal.returns
unfolding sha256 hashed compressed rounds extended big_endian_words
returns c = refl
