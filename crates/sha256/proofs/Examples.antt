-- The worked examples, proved by computing the definition.
use Rattle.std.proofs.Common.{refl}
use Rattle.words.specs.Bytes.{word_at, word_bytes, words_bytes, record_bytes}
use Rattle.sha256.specs.Constants.{K, initial}
use Rattle.sha256.specs.Padding.{zero_bits, bits64, pad, blocks, block}
use Rattle.sha256.specs.Hash.{later, W, schedule, T₁, T₂, round, rounds, add_states, compress, intermediate, hash_value, hash}
use Rattle.sha256.specs.Claims.{Abc, Empty}

both : Abc × Empty
unfolding word_at word_bytes words_bytes record_bytes K initial zero_bits bits64 pad blocks block later W schedule T₁ T₂ round rounds add_states compress intermediate hash_value hash
both = (refl, refl)

pub abc : Abc
abc = both.0

pub empty : Empty
empty = both.1
