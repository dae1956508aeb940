-- A member's record as a part of a dealing's bytes. And records written one after the other into a buffer: what is written, with the
-- records that are left, is all of them.
use mathlib.Core.Path.{◌≡◌, refl, sym, ap, ◌∙◌}
use mathlib.Core.Bool.{Bool, ◌&&◌}
use mathlib.Core.List.{List, ◌++◌, append_assoc, append-nil}
use Prim.Native.Nat.{ℕ, zero, suc, ◌+◌, ◌-◌, ◌*◌, ◌≤◌, ◌<◌}
use native.Mathlib.Omega.{arith}
use borrow.Rule.Slice.PartMut.{put_mid}
use lib.ListN.{length, get_or, take, drop}
use lib.Seq.{take_all, drop-length}
use Rattle.std.specs.List.{range_with_len}
use Rattle.words.specs.Lists.{all, up_from}
use Rattle.words.specs.Bytes.{put_at, record_bytes, record_in, record_at}
use Rattle.words.specs.declared.Record.{Record}
use Rattle.words.proofs.Lists.{drop-next}
use Rattle.words.proofs.Bytes.{record-length, put_back, put-take}
use Rattle.sharing.specs.Setting.{members}
use Rattle.records.specs.Layout.{member_record, records_bytes}
use Rattle.records.proofs.Posted.{record_of}

-- the part of 32 bytes that is handed on is the member's record
pub line-part : (b : List ℕ) (i : ℕ) → record_in (take (32 * i + 32 - 32 * i) (drop (32 * i) b)) ≡ member_record b (i + 1)
unfolding record_at
line-part b i =
    let size : 32 * i + 32 - 32 * i ≡ 32 = omega arith in
    ap (λ (n : ℕ). record_in (take n (drop (32 * i) b))) size ∙ record_of b i

module _ (f : ℕ → Record) (is : List ℕ) (k : ℕ) (out : List ℕ) where
  abbrev left : List ℕ
  left = records_bytes f (drop (k + 1) is)

  -- record k, that of the number i, goes over its m = 32 bytes
  pub lines_next : {m i : ℕ} {bs : List ℕ} → k < length is → 32 * k + 32 ≤ length out → m ≡ 32 → get_or is k 0 ≡ i → bs ≡ record_bytes (f i)
      → take (32 * k) out ++ records_bytes f (drop k is) ≡ take (32 * (k + 1)) (put_mid (32 * k) m out bs) ++ left
  unfolding records_bytes
  lines_next {m} {i} {bs} h l s g e =
      let at : ℕ = 32 * k in
      let r : List ℕ = record_bytes (f i) in
      let size : m ≡ length r = s ∙ sym (record-length (f i)) in
      let end : 32 * (k + 1) ≡ at + length r = omega (arith, record-length (f i)) in
      let room : at + length r ≤ length out = omega (arith, record-length (f i)) in
      let put : put_mid at m out bs ≡ put_at at r out = (λ j. put_mid at (size j) out (e j)) ∙ put_back at r out in
      let front : take (32 * (k + 1)) (put_mid at m out bs) ≡ take at out ++ r = (λ j. take (end j) (put j)) ∙ put-take at r out room in
      ap (λ (t : List ℕ). take at out ++ records_bytes f t) (drop-next is k 0 h)
      ∙ ap (λ (x : ℕ). take at out ++ (record_bytes (f x) ++ left)) g
      ∙ sym (append_assoc (take at out) r left)
      ∙ ap (λ (t : List ℕ). t ++ left) (sym front)

  pub lines-end : k ≡ length is → length out ≡ 32 * length is → take (32 * k) out ++ records_bytes f (drop k is) ≡ out
  unfolding records_bytes
  lines-end e l =
      ap (λ (i : ℕ). take (32 * i) out ++ records_bytes f (drop i is)) e
      ∙ ap (λ (t : List ℕ). take (32 * length is) out ++ records_bytes f t) (drop-length is)
      ∙ append-nil (take (32 * length is) out)
      ∙ take_all (32 * length is) out (omega arith)

-- a test of the members 1 to n, by their places from 0 on
pub by-place : (f : ℕ → Bool) (n : ℕ) → all (λ i. f (i + 1)) (range_with_len 0 n) ≡ all f (members n)
by-place f n = from 0 1 n refl
  where
    from : (i j n : ℕ) → i + 1 ≡ j → all (λ k. f (k + 1)) (range_with_len i n) ≡ all f (up_from j n)
    from i j zero e = refl
    from i j (suc n) e = λ k. f (e k) && from (i + 1) (suc j) n (omega arith) k
