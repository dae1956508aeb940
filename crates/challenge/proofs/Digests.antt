-- The exponent that a digest gives: the remainder of a number of words, worked out word by word, is that of the whole number.
use mathlib.Core.Path.{◌≡◌, refl, sym, ap, ◌∙◌}
use mathlib.Core.Bool.{true, false}
use mathlib.Core.List.{List, [], ◌∷◌}
use Prim.Native.Nat.{ℕ, ◌+◌, ◌*◌, ◌%◌, ◌^◌, ◌<◌}
use native.Mathlib.Nat.{mod-mod, mod-add-mod}
use native.Mathlib.Omega.{arith}
use lib.ListN.{take}
use Rattle.words.specs.Bytes.{word_bytes, words_bytes, big_endian, record_bytes}
use Rattle.words.specs.declared.Record.{Record}
use Rattle.words.proofs.Bytes.{word_number}
use Rattle.words.proofs.Tests.{pick_true, pick-false}
use Rattle.field.proofs.Modular.{mul_mod_left}
use Rattle.sharing.specs.declared.Setting.{Setting}
use Rattle.challenge.specs.Exponent.{exponent_of, last_words, remainder_behind}
use Rattle.challenge.specs.Claims.{WordByWord}

-- a number with bytes behind it has the remainder of what its own remainder has with them
behind-remainder : (q a : ℕ) (bs : List ℕ) → big_endian (a % q) bs % q ≡ big_endian a bs % q
behind-remainder q a [] = mod-mod a q
behind-remainder q a (b ∷ bs) =
    let byte = sym (mod-add-mod (a % q * 256) q b) ∙ ap (λ (x : ℕ). (x + b) % q) (mul_mod_left a 256 q) ∙ mod-add-mod (a * 256) q b in
    sym (behind-remainder q (a % q * 256 + b) bs) ∙ ap (λ (x : ℕ). big_endian x bs % q) byte ∙ behind-remainder q (a * 256 + b) bs

pub word-by-word : WordByWord
unfolding words_bytes word_bytes
word-by-word q a [] = refl
word-by-word q a (w ∷ ws) =
    ap (λ (r : ℕ). remainder_behind q r ws) (behind-remainder q a (word_bytes w)) ∙ word-by-word q (big_endian a (word_bytes w)) ws

-- ---- a digest of the words of r: the first two as a number, and then the others
module _ (S : Setting) (r : Record) (word : r.w0 < 2 ^ 32) where
  first_word : big_endian 0 (word_bytes r.w0) ≡ r.w0
  first_word = word_number 0 r.w0 word ∙ omega arith

  pub old-exponent : S.whole_digest ≡ false → big_endian r.w0 (word_bytes r.w1) % S.group.q ≡ exponent_of S (record_bytes r)
  unfolding exponent_of record_bytes words_bytes word_bytes
  old-exponent e =
      let D = record_bytes r in
      ap (λ (x : ℕ). big_endian x (word_bytes r.w1) % S.group.q) (sym first_word)
      ∙ ap (λ (bs : List ℕ). big_endian 0 bs % S.group.q) (sym (pick-false S.whole_digest D (take 8 D) e))

  pub new-exponent : S.whole_digest ≡ true
      → remainder_behind S.group.q (big_endian r.w0 (word_bytes r.w1) % S.group.q) (last_words r) ≡ exponent_of S (record_bytes r)
  unfolding exponent_of record_bytes words_bytes word_bytes
  new-exponent e =
      let D = record_bytes r in
      word-by-word S.group.q (big_endian r.w0 (word_bytes r.w1)) (last_words r)
      ∙ ap (λ (x : ℕ). big_endian (big_endian x (word_bytes r.w1)) (words_bytes (last_words r)) % S.group.q) (sym first_word)
      ∙ ap (λ (bs : List ℕ). big_endian 0 bs % S.group.q) (sym (pick_true S.whole_digest D (take 8 D) e))
