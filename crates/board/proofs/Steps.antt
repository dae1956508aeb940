-- The turns of the loop over a board's records: what the checks from the record i on come to, by those of the record i behind the one before
-- and those from the next on. n is the number of records.
use mathlib.Core.Path.{◌≡◌, sym, ap, ◌∙◌}
use mathlib.Core.Bool.{Bool, true}
use mathlib.Core.List.{List, ◌++◌}
use Prim.Native.Nat.{ℕ, zero, suc, ◌+◌, ◌-◌, ◌<◌}
use native.Mathlib.Omega.{arith}
use Rattle.std.specs.Prelude.{Err}
use Rattle.words.specs.Choice.{pick}
use Rattle.words.specs.Checks.{Outcome, outcome}
use Rattle.words.specs.Bytes.{record_at}
use Rattle.words.specs.declared.Record.{Record}
use Rattle.words.specs.declared.refusal.Refusal.TheVariants.{OutOfOrder, OtherRound}
use Rattle.words.proofs.Tests.{pick_same}
use Rattle.sharing.specs.declared.Setting.{Setting}
use Rattle.records.specs.Layout.{is_of_round}
use Rattle.board.specs.Board.{is_shaped, is_above, in_order, one_record_checks, record_checks}
use Rattle.board.specs.Loops.{next_record_checks}
use Rattle.board.proofs.Order.{no_record, shaped-above, order-next}

-- the record before the record i
abbrev pub record_before : List ℕ → ℕ → Record
record_before b zero = no_record
record_before b (suc i) = record_at b i

pub before_next : (b : List ℕ) (i : ℕ) → record_before b (i + 1) ≡ record_at b i
before_next b i = let next : i + 1 ≡ suc i = omega arith in ap (record_before b) next

-- a record of the table is in order exactly if it is above the one before
before-decides : (n : ℕ) (b : List ℕ) (i : ℕ) → is_shaped n (record_at b i) ≡ true → in_order b i ≡ is_above (record_before b i) (record_at b i)
before-decides n b zero e = sym (shaped-above n (record_at b 0) e)
before-decides n b (suc i) e = order-next b i

module _ (S : Setting) (b : List ℕ) (n i : ℕ) where
  -- what the checks of the records from i on come to
  abbrev pub outcome_from : Outcome (Unit {0})
  outcome_from = outcome (record_checks S b i (n - i)) tt

  module _ (h : i < n) where
    pub records_turn : outcome_from
        ≡ outcome (next_record_checks S (record_before b i) (record_at b i) ++ record_checks S b (i + 1) (n - (i + 1))) tt
    records_turn =
        let left : n - i ≡ suc (n - (i + 1)) = omega arith in
        let next : suc i ≡ i + 1 = omega arith in
        ap (λ (m : ℕ). outcome (record_checks S b i m) (tt {0})) left
        ∙ ap (λ (j : ℕ). outcome (one_record_checks S b i ++ record_checks S b j (n - (i + 1))) (tt {0})) next
        ∙ pick_same (is_shaped S.n (record_at b i)) _ _ _
        (λ s. ap (λ (x : Bool). pick (is_of_round S.round (record_at b i)) (pick x (outcome (record_checks S b (i + 1) (n - (i + 1))) (tt {0})) (Err OutOfOrder)) (Err OtherRound)) (before-decides S.n b i s))
