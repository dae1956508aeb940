-- The rank of a plot by the digest of its message.
use mathlib.Core.Path.{◌≡◌, sym, ap, ◌∙◌}
use mathlib.Core.List.{List}
use Prim.Native.Nat.{ℕ, ◌^◌, ◌<◌}
use native.Mathlib.Omega.{arith}
use lib.ListN.{take, set, replicate}
use Rattle.words.specs.Bytes.{word_bytes, words_bytes, big_endian, put_at, record_bytes}
use Rattle.words.specs.declared.Record.{Record}
use Rattle.words.proofs.Bytes.{word_number}
use Rattle.sha256.specs.Hash.{hash_value, hash}
use Rattle.sha256.specs.Answer.{digest_outcome}
use Rattle.sha256.proofs.Values.{hash-words, answer-value}
use Rattle.plots.specs.Rank.{rank_message, rank}
use Rattle.std.specs.Prelude.{Ok}
use Rattle.words.specs.Checks.{Outcome}

-- the ten bytes as they are written
pub message-put : (v radius plot : ℕ) {m l : List ℕ} → l ≡ put_at 2 (word_bytes v) (set (set (replicate 10 0) 0 0x4C) 1 radius)
    → m ≡ put_at 6 (word_bytes plot) l → m ≡ rank_message v radius plot
unfolding rank_message put_at words_bytes word_bytes
message-put v radius plot e f = f ∙ ap (put_at 6 (word_bytes plot)) e

first_word : (r : Record) → r.w0 < 2 ^ 32 → big_endian 0 (take 4 (record_bytes r)) ≡ r.w0
unfolding record_bytes words_bytes word_bytes
first_word r h = word_number 0 r.w0 h ∙ omega arith

pub rank-value : (v radius plot : ℕ) {m : List ℕ} {a : Outcome Record} → m ≡ rank_message v radius plot → a ≡ digest_outcome m
    → {r : Record} → a ≡ Ok r → r.w0 ≡ rank v radius plot
unfolding rank hash
rank-value v radius plot {m} e o {r} f =
    let l = hash-words m in
    ap (λ (s : Record). s.w0) (sym (answer-value m o f))
    ∙ sym (first_word (hash_value m) l.0)
    ∙ ap (λ (x : List ℕ). big_endian 0 (take 4 (record_bytes (hash_value x)))) e
