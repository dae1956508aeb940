-- With distinct keys nothing is refused by 22: on the board and in the judge of dealings that check is met, and without it the answers are
-- the same.
use mathlib.Core.Path.{◌≡◌, refl}
use mathlib.Core.Bool.{true}
use mathlib.Core.List.{List}
use Prim.Native.Nat.{ℕ, zero, suc}
use Rattle.words.specs.Lists.{Distinct}
use Rattle.words.specs.Checks.{Check, outcome, without, MetBy}
use Rattle.words.specs.Bytes.{records_in}
use Rattle.words.specs.declared.refusal.Refusal.TheVariants.{SameKey}
use Rattle.words.proofs.Lists.{All-append}
use Rattle.words.proofs.Tests.{true-distinct}
use Rattle.words.proofs.Without.{without-outcome, others-met}
use Rattle.words.proofs.RefuseAlike.{same-behind}
use Rattle.sharing.specs.Setting.{setting_in}
use Rattle.sharing.specs.declared.Setting.{Setting}
use Rattle.records.specs.Keys.{key_checks}
use Rattle.dealing.proofs.DistinctKeys.{judged-distinct}
use Rattle.board.specs.Board.{one_record_checks, record_checks, form_checks, keys_in, board_key_checks, board_checks, lines_of}
use Rattle.verdicts.specs.Shares.{judges, share_answer}
use Rattle.verdicts.specs.Verdict.{dealing_answer, verdict_on}
use Rattle.verdicts.specs.Draw.{draw_in}
use Rattle.demand3.specs.Rounds.{draw_by, judges_without, board_without, DistinctBoard, DistinctOverRound}
use Rattle.demand3.proofs.SameJudges.{all_same, same_end}
use Rattle.demand3.proofs.Rounds.{answered-by-setting}

-- ---- a board
records-met : (S : Setting) (b : List ℕ) (i m : ℕ) → MetBy SameKey (record_checks S b i m)
records-met S b i zero = tt
records-met S b i (suc m) =
    All-append (λ (c : Check). c.by ≡ SameKey → c.met ≡ true) (one_record_checks S b i) (record_checks S b (suc i) m)
    (others-met SameKey (one_record_checks S b i) refl) (records-met S b (suc i) m)

module _ (S : Setting) (b : List ℕ) (n : Distinct (keys_in S.n b)) where
  board-met : MetBy SameKey (board_checks S b)
  unfolding board_checks form_checks board_key_checks key_checks
  board-met =
      All-append (λ (c : Check). c.by ≡ SameKey → c.met ≡ true) (form_checks S b) (board_key_checks S b)
      (λ e. cc, records-met S b 0 (records_in b))
      (λ e. cc, (λ e. cc, (λ e. true-distinct (keys_in S.n b) n, tt)))

  without-before : outcome (board_checks S b) tt ≡ outcome (without SameKey (board_checks S b)) (tt {0})
  without-before = without-outcome Unit SameKey (board_checks S b) tt board-met

  dealings-same : (d : ℕ) → dealing_answer judges S b d ≡ dealing_answer (judges_without SameKey) S b d
  dealings-same d = judged-distinct S d (keys_in S.n b) (lines_of b d) n

  without-verdict : (d : ℕ) → verdict_on judges S b d ≡ verdict_on (judges_without SameKey) S b d
  unfolding share_answer
  without-verdict = all_same judges (judges_without SameKey) S b dealings-same (λ F Ys i. refl)

  without-draw : draw_in judges S b ≡ draw_by (board_without SameKey) S b
  unfolding draw_in share_answer
  without-draw =
      same-behind (board_checks S b) (without SameKey (board_checks S b)) without-before _ _ _ _
      (λ m. same_end judges (judges_without SameKey) S b dealings-same (λ F Ys i. refl))

pub distinct-board : DistinctBoard
distinct-board S b n = record { before = without-before S b n; verdict = λ m. without-verdict S b n; draw = without-draw S b n }

pub distinct-over-round : DistinctOverRound
distinct-over-round T R b n = answered-by-setting (board_without SameKey) T R b (λ m. distinct-board (setting_in T R) b n)
