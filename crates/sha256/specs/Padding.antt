-- FIPS 180-4, sections 5.1.1 and 5.2.1: the padded message, and its blocks.
use Rattle.std.specs.Prelude.{ℕ, ◌+◌, ◌-◌, ◌*◌, ◌/◌, ◌%◌, ◌^◌, List, [], ◌∷◌, ◌++◌, length, replicate}
use Rattle.words.specs.Lists.{map, up_from}
use Rattle.words.specs.Bytes.{word_at, words_bytes}

-- 5.1.1: the number of zero bits after the bit 1 in a message of l bits: the least k with l + 1 + k equal to 448 modulo 512
unfoldable pub zero_bits : ℕ → ℕ
zero_bits l = (959 - l % 512) % 512

-- 5.1.1: the number l of bits as 64 bits, in two words
unfoldable pub bits64 : ℕ → List ℕ
bits64 l = words_bytes (l / 2 ^ 32 ∷ l % 2 ^ 32 ∷ [])

-- 5.1.1: the padded message, in bytes: the bit 1 and the first seven zero bits are the byte 128
unfoldable pub pad : List ℕ → List ℕ
pad m = m ++ 128 ∷ (replicate (zero_bits (8 * length m) / 8) 0 ++ bits64 (8 * length m))

-- 5.2.1: the number of blocks of the padded message p
unfoldable pub blocks : List ℕ → ℕ
blocks p = length p / 64

-- 5.2.1: the sixteen words of block i, from 0
unfoldable pub block : List ℕ → ℕ → List ℕ
block p i = map (λ j. word_at p (64 * i + 4 * j)) (up_from 0 16)
