-- A board as arrays of 32 bytes: the array i is what the record i is read from. So where a search among them parts those below an address
-- from the rest, there is the address's place.
use mathlib.Core.Path.{◌≡◌, refl, sym, ap, ◌∙◌}
use mathlib.Core.Bool.{Bool, true, false}
use mathlib.Core.List.{List}
use Prim.Native.Nat.{ℕ, zero, suc, ◌+◌, ◌*◌, ◌<◌, ◌≤◌}
use native.Mathlib.Decide.{dec_lt}
use native.Mathlib.Omega.{arith}
use borrow.Author.Tests.{ltb-true, lt-ltb, ltb-false}
use lib.ListN.{length, take, drop}
use lib.Seq.{drop-drop}
use Rattle.std.proofs.Common.{slice_index_or, ltb}
use Rattle.std.specs.Simd.{first_chunks}
use Rattle.std.specs.List.Sorted.{IsPartitionedBy, IsPartitionPoint}
use Rattle.words.specs.Bytes.{record_in, records_in, record_at}
use Rattle.board.specs.Board.{is_below, place_of}
use Rattle.board.specs.Sorted.{Sorted}
use Rattle.board.proofs.Places.{placed, place-within}

chunk_at : (k i : ℕ) (b d : List ℕ) → i < k → slice_index_or (first_chunks 32 k b) i d ≡ take 32 (drop (32 * i) b)
chunk_at zero i b d h = absurd (omega arith)
chunk_at (suc k) zero b d h = refl
chunk_at (suc k) (suc i) b d h =
    let e : 32 * suc i ≡ 32 + 32 * i = omega arith in
    chunk_at k i (drop 32 b) d (omega arith) ∙ ap (take 32) (drop-drop (32 * i) 32 b ∙ ap (λ (n : ℕ). drop n b) (sym e))

module _ {b : List ℕ} (S : Sorted b) (k d m : ℕ) where
  abbrev below : List ℕ → Bool
  below y = is_below (record_in y) k d m

  abbrev chunks : List (List ℕ)
  chunks = first_chunks 32 (records_in b) b

  below_at : (i : ℕ) (y : List ℕ) → i < records_in b → below (slice_index_or chunks i y) ≡ ltb i (place_of b k d m)
  unfolding record_at
  below_at i y h = ap below (chunk_at (records_in b) i b y h) ∙ placed S k d m i h

  chunk-count : (n : ℕ) (xs : List ℕ) → length (first_chunks 32 n xs) ≡ n
  chunk-count zero xs = refl
  chunk-count (suc n) xs = ap suc (chunk-count n (drop 32 xs))

  pub below-parts : IsPartitionedBy below chunks
  below-parts i j y h l e =
      let n = chunk-count (records_in b) b in
      let j-low = ltb-true j (place_of b k d m) (sym (below_at j y (omega (arith, n, l))) ∙ e) in
      below_at i y (omega (arith, n, l)) ∙ lt-ltb i (place_of b k d m) (omega arith)

  pub point-place : {r : ℕ} → r ≤ records_in b → IsPartitionPoint (λ y. below y ≡ true) (λ y. below y ≡ false) chunks r → r ≡ place_of b k d m
  point-place {r} u p =
      let P = place_of b k d m in
      elim (dec_lt r P) [
        | yes h ↦
            let i : r < records_in b = omega (arith, place-within b k d m) in
            absurd (omega (arith, ltb-false r P (sym (below_at r b i) ∙ p.1 r b (omega arith) (omega (arith, chunk-count (records_in b) b)))))
        | no h ↦
            elim (dec_lt P r) [
              | yes g ↦ absurd (omega (arith, ltb-true P P (sym (below_at P b (omega arith)) ∙ p.0 P b (omega arith) g)))
              | no g ↦ omega arith
            ]
      ]
