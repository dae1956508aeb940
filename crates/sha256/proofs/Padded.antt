-- The padded message: its length, its bytes, and its words.
use Rattle.std.proofs.Common.{◌≡◌, ℕ, ◌+◌, ◌-◌, ◌*◌, ◌/◌, ◌%◌, ◌^◌, ◌<◌, ◌≤◌, List, [], ◌∷◌, ◌++◌, length, get_or, replicate, ◌∙◌, append_assoc, arith, length-append, get_or-append-add}
use lib.ListN.{length-replicate, get_or-replicate, replicate-append-replicate, get_or-append}
use lib.Seq.{get_or-append_seam}
use Rattle.words.specs.Bytes.{word, word_at, word_bytes, words_bytes}
use Rattle.words.proofs.Bytes.{word-front, word-append, word_back}
use Rattle.sha256.specs.Padding.{zero_bits, bits64, pad, blocks}
use Rattle.sha256.specs.Claims.{ZeroBitsLeast, WholeBlocks}

-- a number of bits below 2^32 takes the last word alone
short : (l : ℕ) → l < 2 ^ 32 → bits64 l ≡ replicate 4 0 ++ word_bytes l
unfolding bits64 words_bytes word_bytes
short l h =
    let high : l / 2 ^ 32 ≡ 0 = omega arith in
    let low : l % 2 ^ 32 ≡ l = omega arith in
    λ j. words_bytes (high j ∷ low j ∷ [])

pub zero-bits-least : ZeroBitsLeast
unfolding zero_bits
zero-bits-least l = (omega arith, λ k e. omega arith)

module _ (m : List ℕ) where
  pub pad-length : length (pad m) ≡ (length m + 72) / 64 * 64
  unfolding pad zero_bits bits64 words_bytes word_bytes
  pad-length = simp (length-append, length-replicate) (omega arith)

  pub pad-blocks : blocks (pad m) ≡ (length m + 72) / 64
  unfolding blocks
  pad-blocks = omega (arith, pad-length)

  pub pad-in : (i : ℕ) → i < length m → get_or (pad m) i 0 ≡ get_or m i 0
  unfolding pad
  pad-in i h = get_or-append m _ 0 i h

  pub pad-end : get_or (pad m) (length m) 0 ≡ 128
  unfolding pad
  pad-end = get_or-append_seam m 128 _ 0

  pub pad-word-in : (k : ℕ) → k + 4 ≤ length m → word_at (pad m) k ≡ word_at m k
  unfolding pad
  pad-word-in k h = word-front m _ k h

  module _ (h : length m ≤ 65536) where
    -- such a message is followed by the byte 128, zeros, and a word that holds its length
    start : List ℕ
    start = m ++ 128 ∷ []

    zeros : List ℕ
    zeros = replicate (zero_bits (8 * length m) / 8 + 4) 0

    parts : pad m ≡ start ++ (zeros ++ word_bytes (8 * length m))
    unfolding pad start zeros
    parts = simp (append_assoc, ← replicate-append-replicate, short (8 * length m) (omega arith))

    start-length : length start ≡ length m + 1
    unfolding start
    start-length = length-append m (128 ∷ [])

    zeros-length : length zeros ≡ (length m + 72) / 64 * 64 - 4 - (length m + 1)
    unfolding zeros zero_bits
    zeros-length = rw length-replicate (omega arith)

    pub pad-zero : (i : ℕ) → length m < i → i + 4 < length (pad m) → get_or (pad m) i 0 ≡ 0
    unfolding zeros
    pad-zero i a b =
        let k = i - (length m + 1) in
        let e : i ≡ length start + k = omega (arith, start-length) in
        let l : k < length zeros = omega (arith, zeros-length, pad-length) in
        (λ j. get_or (parts j) (e j) 0)
        ∙ get_or-append-add start _ k 0
        ∙ get_or-append zeros _ 0 k l
        ∙ get_or-replicate _ k 0 0 (rw length-replicate at l)

    pub pad-word-zero : (k : ℕ) → length m < k → k + 8 ≤ length (pad m) → word_at (pad m) k ≡ 0
    unfolding word_at
    pad-word-zero k a b =
        let byte : (t : ℕ) → t < 4 → get_or (pad m) (k + t) 0 ≡ 0 = λ t l. pad-zero (k + t) (omega arith) (omega arith) in
        λ j. word (pad-zero k a (omega arith) j) (byte 1 (omega arith) j) (byte 2 (omega arith) j) (byte 3 (omega arith) j)

    pub pad-word-last : (k : ℕ) → k + 4 ≡ length (pad m) → word_at (pad m) k ≡ 8 * length m
    unfolding word_bytes
    pad-word-last k a =
        let e : k ≡ length start + (length zeros + 0) = omega (arith, start-length, zeros-length, pad-length) in
        (λ j. word_at (parts j) (e j))
        ∙ word-append start _ (length zeros + 0)
        ∙ word-append zeros _ 0
        ∙ word_back (8 * length m) [] (omega arith)

pub whole-blocks : WholeBlocks
whole-blocks m = omega (arith, pad-length m)
