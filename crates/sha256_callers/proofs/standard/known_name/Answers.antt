use Rattle.std.proofs.Common.{refl}
use Rattle.sha256.specs.Sha.{sha256, hashed, compressed, rounds, extended, big_endian_words}
use Rattle.sha256.specs.Words.{bytes_of, words_of}
use Rattle.sha256_callers.proofs.standard.known_name.Goals as goal

pub returns : goal.returns
unfolding sha256 hashed compressed rounds extended big_endian_words bytes_of words_of
returns c = refl
