-- The records before the place of kind 5 are those of the kinds below it, and all behind them are of kind 5: records ascend by kind first,
-- and none has a kind above 5. So a board's front has the same bytes, record by record, and only records of kind 5 are left out.
use mathlib.Core.Path.{◌≡◌, sym, ap, ◌∙◌}
use mathlib.Core.List.{List}
use Prim.Native.Nat.{ℕ, ◌+◌, ◌*◌, ◌<◌, ◌≤◌}
use native.Mathlib.Decide.{dec_le}
use native.Mathlib.Omega.{arith}
use borrow.Author.Tests.{lt-ltb, le-ltb}
use lib.ListN.{length, take, drop}
use lib.Seq.{length-take-le}
use Rattle.words.specs.Checks.{Met}
use Rattle.words.specs.Bytes.{record_in, records_in, record_at}
use Rattle.words.specs.declared.Record.{Record}
use Rattle.words.proofs.Lists.{part-part}
use Rattle.words.proofs.Tests.{false-true}
use Rattle.sharing.specs.declared.Setting.{Setting}
use Rattle.records.specs.Layout.{share_kind, added_kind}
use Rattle.board.specs.Board.{form_checks, place_of}
use Rattle.board.proofs.Order.{Below, by_kind, by-dealer, by-member, below_true, true_below, shapes, sorted}
use Rattle.board.proofs.Places.{place-within, placed}
use Rattle.demand3.specs.KindFive.{without_added, FrontExact}

-- ---- a front of a board: its bytes are the board's, no record of it is of kind 5, and all that is left out are
pub record Front (b c : List ℕ) : Type 0 where
  pub whole : length c ≡ 32 * records_in c
  pub within : records_in c ≤ records_in b
  pub part : (m k : ℕ) → k + m ≤ 32 * records_in c → take m (drop k c) ≡ take m (drop k b)
  pub below : (i : ℕ) → i < records_in c → (record_at b i).w0 < added_kind
  pub added : (i : ℕ) → records_in c ≤ i → i < records_in b → (record_at b i).w0 ≡ added_kind

module _ {b c : List ℕ} (F : Front b c) where
  pub bytes_same : (i : ℕ) → i < records_in c → take 32 (drop (32 * i) c) ≡ take 32 (drop (32 * i) b)
  bytes_same i h = F.part 32 (32 * i) (omega arith)

  pub record_same : (i : ℕ) → i < records_in c → record_at c i ≡ record_at b i
  unfolding record_at
  record_same i h = ap record_in (bytes_same i h)

-- ---- the records before the place of a kind and from it on
module _ (S : Setting) (b : List ℕ) (form : Met (form_checks S b)) where
  module _ (kind : ℕ) where
    abbrev k : ℕ
    k = place_of b kind 0 0

    kind-below : (i : ℕ) → i < k → (record_at b i).w0 < kind
    kind-below i h =
        by_order (below_true (record_at b i) kind 0 0 (placed (sorted S b form) kind 0 0 i (omega (arith, place-within b kind 0 0)) ∙ lt-ltb i k h))
      where
        by_order : {r : Record} → Below r kind 0 0 → r.w0 < kind
        by_order (by_kind l) = l
        by_order (by-dealer e l) = absurd (omega arith)
        by_order (by-member e f l) = absurd (omega arith)

    kind-from : (i : ℕ) → k ≤ i → i < records_in b → kind ≤ (record_at b i).w0
    kind-from i l h = elim (dec_le kind (record_at b i).w0) [
      | yes w ↦ w
      | no w ↦
          absurd
          (false-true
          (sym (le-ltb i k l) ∙ sym (placed (sorted S b form) kind 0 0 i h) ∙ true_below (record_at b i) kind 0 0 (by_kind (omega arith))))
    ]

    size : length (take (32 * k) b) ≡ 32 * k
    size = length-take-le (32 * k) b (omega (arith, place-within b kind 0 0))

    count : records_in (take (32 * k) b) ≡ k
    count = omega (arith, size)

    -- what stands before the place of a kind above 4 and not above 5 is a front
    front-before : share_kind < kind → kind ≤ added_kind → Front b (take (32 * k) b)
    front-before l u =
        record {
          whole = omega (arith, size);
          within = omega (arith, count, place-within b kind 0 0);
          part = λ m j h. part-part m j (32 * k) b (omega (arith, count));
          below = λ i h. omega (arith, kind-below i (omega (arith, count)));
          added = λ i w h. omega (arith, (shapes S b form i h).kind, kind-from i (omega (arith, count)) h);
        }

  pub front_of : Front b (without_added b)
  front_of = front-before _ (omega arith) (omega arith)

pub front-exact : FrontExact
front-exact S b form =
    let F = front_of S b form in
    record { whole = F.whole; same = record_same F; others = λ i h e. omega (arith, F.below i h, e); added = F.added }
