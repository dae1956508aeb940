-- The words of a hash value and the bytes of a digest, and what each answer of `digest` tells.
use Rattle.std.proofs.Common.{◌≡◌, ℕ, suc, ◌+◌, ◌/◌, ◌^◌, ◌≤◌, List, [], ◌∷◌, length, sym, ap, ◌∙◌, ⊎_elim, arith, le-leb, leb-false, leb-true}
use borrow.Author.Tests.{lt-leb}
use Rattle.words.specs.Lists.{Below}
use Rattle.words.specs.Bytes.{word_bytes, words_bytes, record_words, record_bytes}
use Rattle.words.proofs.Bytes.{record-length}
use Rattle.words.proofs.Checks.{value-met, refused-exactly}
use Rattle.words.specs.declared.Record.{Record}
use Rattle.sha256.specs.declared.state.State.{State}
use Rattle.sha256.specs.Padding.{pad, blocks}
use Rattle.sha256.specs.Hash.{add_states, compress, intermediate, state_record, hash_value, hash}
use Rattle.sha256.specs.Answer.{digest_checks, digest_outcome}
use Rattle.sha256.specs.Claims.{HashWords, HashBytes, DigestValue, DigestRefused}
use Rattle.sha256.proofs.Padded.{pad-blocks}
use Rattle.std.specs.Prelude.{Ok, Err}
use Rattle.words.specs.declared.refusal.Refusal.{Refusal}
use Rattle.words.specs.Checks.{Outcome}

sums-low : (v s : State) → Below (2 ^ 32) (record_words (state_record (add_states v s)))
unfolding add_states
sums-low v s =
    (omega arith, (omega arith, (omega arith, (omega arith, (omega arith, (omega arith, (omega arith, (omega arith, tt))))))))

-- there is at least one block, so each word is a sum modulo 2^32
pub hash-words : HashWords
unfolding hash_value intermediate compress
hash-words m =
    let e : blocks (pad m) ≡ suc ((length m + 8) / 64) = omega (arith, pad-blocks m) in
    rw e (sums-low _ _)

bytes_low : (ws : List ℕ) → Below 256 (words_bytes ws)
unfolding words_bytes word_bytes
bytes_low [] = tt
bytes_low (w ∷ ws) = (omega arith, (omega arith, (omega arith, (omega arith, bytes_low ws))))

pub hash-bytes : HashBytes
unfolding hash record_bytes
hash-bytes m = (record-length (hash_value m), bytes_low (record_words (hash_value m)))

pub digest-value : DigestValue
digest-value m r = (
  (λ e. let s = value-met (digest_checks m) (hash_value m) r e in (leb-true _ _ s.0.0, s.1)),
  λ h. rw (le-leb _ _ h.0) (ap Ok h.1),
)

pub digest-refused : DigestRefused
digest-refused m k = (
  (λ e. ⊎_elim (λ w. (leb-false _ _ w.0, sym w.1)) (λ w. absurd w.1) ((refused-exactly Record (digest_checks m) (hash_value m) k).0 e)),
  λ h. rw (lt-leb _ _ h.0) (ap Err (sym h.1)),
)

-- ---- by the answer a of the function
module _ (m : List ℕ) {a : Outcome Record} (o : a ≡ digest_outcome m) where
  pub answer-value : {r : Record} → a ≡ Ok r → hash_value m ≡ r
  answer-value {r} f = ((digest-value m r).0 (sym o ∙ f)).1

  pub never-refused : {k : Refusal} → length m ≤ 65536 → a ≡ Err k → ⊥
  never-refused {k} h f = omega (arith, ((digest-refused m k).0 (sym o ∙ f)).0)
