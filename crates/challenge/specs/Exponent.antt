-- The exponent that a digest gives, and how it is worked out.
use Rattle.std.specs.Prelude.{List, [], ◌∷◌, ℕ, ◌%◌, take}
use Rattle.words.specs.Choice.{pick}
use Rattle.words.specs.Bytes.{word_bytes, big_endian}
use Rattle.words.specs.declared.Record.{Record}
use Rattle.sharing.specs.declared.Setting.{Setting}

-- the digest's bytes as one number, modulo q: all 32 of them under the new rule, and the first 8 under that of the scope paper
unfoldable pub exponent_of : Setting → List ℕ → ℕ
exponent_of S D = big_endian 0 (pick S.whole_digest D (take 8 D)) % S.group.q

-- the words of a digest behind its first 8 bytes
abbrev pub last_words : Record → List ℕ
last_words d = d.w2 ∷ d.w3 ∷ d.w4 ∷ d.w5 ∷ d.w6 ∷ d.w7 ∷ []

-- the remainder modulo q of a number of words, worked out word by word behind the remainder r of those before
abbrev pub remainder_behind : ℕ → ℕ → List ℕ → ℕ
remainder_behind q r [] = r
remainder_behind q r (w ∷ ws) = remainder_behind q (big_endian r (word_bytes w) % q) ws
