-- What is posted reads back: records written one after the other are found again, by induction over the members.
use mathlib.Core.Path.{◌≡◌, refl, ap, ◌∙◌}
use mathlib.Core.List.{List, [], ◌∷◌, ◌++◌}
use Prim.Native.Nat.{ℕ, zero, suc, ◌+◌, ◌-◌, ◌*◌, ◌^◌, ◌≤◌, ◌<◌}
use native.Mathlib.Nat.{le_of_suc-le-suc, not-suc-le-zero}
use native.Mathlib.Omega.{arith}
use lib.ListN.{length, get_or, take, drop, length-append}
use lib.Seq.{take_at, drop-append-add}
use Rattle.words.specs.Lists.{Below, up_from}
use Rattle.words.specs.Bytes.{record_words, record_bytes, record_in, record_at}
use Rattle.words.specs.declared.Record.{Record}
use Rattle.words.proofs.Lists.{up-length, up_at}
use Rattle.words.proofs.Bytes.{record-length, read_back}
use Rattle.records.specs.Layout.{member_record, records_bytes}

-- ---- records written one after the other
module _ (f : ℕ → Record) where
  pub records-length : (is : List ℕ) → length (records_bytes f is) ≡ 32 * length is
  unfolding records_bytes
  records-length [] = refl
  records-length (i ∷ is) =
      length-append (record_bytes (f i)) (records_bytes f is) ∙ omega (arith, record-length (f i), records-length is)

  records-part : (is : List ℕ) (k : ℕ) → k < length is → take 32 (drop (32 * k) (records_bytes f is)) ≡ record_bytes (f (get_or is k 0))
  unfolding records_bytes
  records-part [] k h = absurd (not-suc-le-zero h)
  records-part (i ∷ is) zero h = take_at (record_bytes (f i)) (records_bytes f is) 32 (record-length (f i))
  records-part (i ∷ is) (suc k) h =
      let e : 32 * suc k ≡ length (record_bytes (f i)) + 32 * k = omega (arith, record-length (f i)) in
      ap (λ (m : ℕ). take 32 (drop m (record_bytes (f i) ++ records_bytes f is))) e
      ∙ ap (take 32) (drop-append-add (record_bytes (f i)) (records_bytes f is) (32 * k))
      ∙ records-part is k (le_of_suc-le-suc h)

  pub record-back : (n i : ℕ) → 1 ≤ i → i ≤ n → Below (2 ^ 32) (record_words (f i)) → member_record (records_bytes f (up_from 1 n)) i ≡ f i
  unfolding record_at
  record-back n i h l w =
      let e : get_or (up_from 1 n) (i - 1) 0 ≡ i = up_at 1 n (i - 1) (omega arith) ∙ omega arith in
      ap record_in (records-part (up_from 1 n) (i - 1) (omega (arith, up-length 1 n)) ∙ ap (λ (m : ℕ). record_bytes (f m)) e) ∙ read_back (f i) w

-- ---- a member's record, by its index from 0
pub record_of : (b : List ℕ) (i : ℕ) → record_at b i ≡ member_record b (i + 1)
record_of b i = let e : i ≡ i + 1 - 1 = omega arith in ap (record_at b) e
