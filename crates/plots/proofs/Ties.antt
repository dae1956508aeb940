-- Two plots of equal rank, by computing the definitions, digests included.
use mathlib.Core.Path.{◌≡◌, refl, sym, ◌∙◌}
use native.Mathlib.Omega.{arith}
use borrow.Author.Tests.{lt-ltb}
use Rattle.words.specs.Bytes.{word_at, word_bytes, words_bytes, record_bytes}
use Rattle.sha256.specs.Constants.{K, initial}
use Rattle.sha256.specs.Padding.{zero_bits, bits64, pad, blocks, block}
use Rattle.sha256.specs.Hash.{later, W, schedule, T₁, T₂, round, rounds, add_states, compress, intermediate, hash_value, hash}
use Rattle.plots.specs.Rank.{rank_message, rank}
use Rattle.plots.specs.Claims.{EqualRanks}
use Rattle.plots.proofs.Order.{by_number, true-before}

ranks : (rank 211 15 1630 ≡ 143263563) × (rank 211 15 1857 ≡ 143263563)
unfolding word_at word_bytes words_bytes record_bytes K initial zero_bits bits64 pad blocks block later W schedule T₁ T₂ round rounds add_states compress intermediate hash_value hash rank_message rank
ranks = (refl, refl)

pub equal-ranks : EqualRanks
equal-ranks =
    record {
      lower = ranks.0;
      higher = ranks.1;
      first = true-before (rank 211 15) 1857 1630 (by_number (ranks.1 ∙ sym ranks.0) (lt-ltb 1630 1857 (omega arith)));
    }
