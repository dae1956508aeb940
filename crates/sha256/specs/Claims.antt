-- What is claimed of the definition and of the answers. The proofs are in proofs/Examples.antt, Padded.antt and Values.antt.
use Rattle.std.specs.Prelude.{◌≡◌, ℕ, ◌+◌, ◌%◌, ◌^◌, ◌<◌, ◌≤◌, ◌↔◌, List, [], ◌∷◌, length, Ok, Err}
use Rattle.words.specs.Lists.{Below}
use Rattle.words.specs.Bytes.{record_words}
use Rattle.words.specs.declared.Record.{Record}
use Rattle.words.specs.declared.refusal.Refusal.{Refusal}
use Rattle.words.specs.declared.refusal.Refusal.TheVariants.{BadLength}
use Rattle.sha256.specs.Padding.{zero_bits, pad}
use Rattle.sha256.specs.Hash.{hash_value, hash}
use Rattle.sha256.specs.Answer.{digest_outcome}

-- ---- worked examples
-- the message "abc"
abbrev pub Abc : Type 0
Abc =
    hash (97 ∷ 98 ∷ 99 ∷ [])
    ≡ 0xba ∷ 0x78 ∷ 0x16 ∷ 0xbf ∷ 0x8f ∷ 0x01 ∷ 0xcf ∷ 0xea ∷ 0x41 ∷ 0x41 ∷ 0x40 ∷ 0xde ∷ 0x5d ∷ 0xae ∷ 0x22 ∷ 0x23
    ∷ 0xb0 ∷ 0x03 ∷ 0x61 ∷ 0xa3 ∷ 0x96 ∷ 0x17 ∷ 0x7a ∷ 0x9c ∷ 0xb4 ∷ 0x10 ∷ 0xff ∷ 0x61 ∷ 0xf2 ∷ 0x00 ∷ 0x15 ∷ 0xad ∷ []

-- the empty message
abbrev pub Empty : Type 0
Empty =
    hash []
    ≡ 0xe3 ∷ 0xb0 ∷ 0xc4 ∷ 0x42 ∷ 0x98 ∷ 0xfc ∷ 0x1c ∷ 0x14 ∷ 0x9a ∷ 0xfb ∷ 0xf4 ∷ 0xc8 ∷ 0x99 ∷ 0x6f ∷ 0xb9 ∷ 0x24
    ∷ 0x27 ∷ 0xae ∷ 0x41 ∷ 0xe4 ∷ 0x64 ∷ 0x9b ∷ 0x93 ∷ 0x4c ∷ 0xa4 ∷ 0x95 ∷ 0x99 ∷ 0x1b ∷ 0x78 ∷ 0x52 ∷ 0xb8 ∷ 0x55 ∷ []

-- ---- padding
-- the number of zero bits is the least that 5.1.1 allows
abbrev pub ZeroBitsLeast : Type 0
ZeroBitsLeast = (l : ℕ) → ((l + 1 + zero_bits l) % 512 ≡ 448) × ((k : ℕ) → (l + 1 + k) % 512 ≡ 448 → zero_bits l ≤ k)

-- a padded message is whole blocks
abbrev pub WholeBlocks : Type 0
WholeBlocks = (m : List ℕ) → length (pad m) % 64 ≡ 0

-- ---- hash values
-- each word fits in 32 bits
abbrev pub HashWords : Type 0
HashWords = (m : List ℕ) → Below (2 ^ 32) (record_words (hash_value m))

-- a digest is 32 bytes
abbrev pub HashBytes : Type 0
HashBytes = (m : List ℕ) → (length (hash m) ≡ 32) × Below 256 (hash m)

-- ---- answers
-- a value is answered exactly for a message that is not too long, and it is its hash value
abbrev pub DigestValue : Type 0
DigestValue = (m : List ℕ) (r : Record) → (digest_outcome m ≡ Ok r) ↔ ((length m ≤ 65536) × (hash_value m ≡ r))

-- a message is refused exactly if it is too long, and by 3 alone
abbrev pub DigestRefused : Type 0
DigestRefused = (m : List ℕ) (k : Refusal) → (digest_outcome m ≡ Err k) ↔ ((65536 < length m) × (k ≡ BadLength))
