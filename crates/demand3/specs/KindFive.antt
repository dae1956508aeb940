-- What records of kind 5 may change on a board, whatever the judges answer: never a verdict or the count of accepted dealings, and the end
-- only from 13 to a draw.
use Rattle.std.specs.Prelude.{◌≡◌, List, ◌⊎◌, ℕ, ◌*◌, ◌<◌, ◌≤◌, length, take, Ok, Err}
use Rattle.words.specs.Checks.{Met}
use Rattle.words.specs.Bytes.{records_in, record_at}
use Rattle.words.specs.declared.refusal.Refusal.TheVariants.{StillStuck}
use Rattle.group.specs.declared.Element.{Element}
use Rattle.sharing.specs.Setting.{ProperSetting}
use Rattle.sharing.specs.declared.Setting.{Setting}
use Rattle.records.specs.Layout.{added_kind}
use Rattle.board.specs.Board.{form_checks, place_of, board_checks}
use Rattle.verdicts.specs.Shares.{Judges}
use Rattle.verdicts.specs.Verdict.{is_accepted, verdict_on, verdicts_on}
use Rattle.verdicts.specs.Draw.{count_accepted, draw_in}

-- ---- the board without its records of kind 5, which stand behind all others
abbrev pub without_added : List ℕ → List ℕ
without_added b = take (32 * place_of b added_kind 0 0) b

-- exactly the records of kind 5 are left out: what is left are whole records, each as it stands on the board and none of kind 5, and all
-- behind them are of kind 5
pub record ExactFront (b : List ℕ) : Type 0 where
  pub whole : length (without_added b) ≡ 32 * records_in (without_added b)
  pub same : (i : ℕ) → i < records_in (without_added b) → record_at (without_added b) i ≡ record_at b i
  pub others : (i : ℕ) → i < records_in (without_added b) → (record_at b i).w0 ≡ added_kind → ⊥
  pub added : (i : ℕ) → records_in (without_added b) ≤ i → i < records_in b → (record_at b i).w0 ≡ added_kind

-- on every board of which the form and order of records is not refused
abbrev pub FrontExact : Type 0
FrontExact = (S : Setting) (b : List ℕ) → Met (form_checks S b) → ExactFront b

-- ---- the board with its records of kind 5 and without them: verdicts are reached on both and are the same, the same dealings are accepted
-- and as many, and the end is the same, but that there may be a draw where without them the board ends by 13
pub record SameButEnd (J : Judges) (S : Setting) (b : List ℕ) : Type 0 where
  pub reached : Met (board_checks S (without_added b))
  pub verdict : (d : ℕ) → verdict_on J S b d ≡ verdict_on J S (without_added b) d
  pub accepted : (d : ℕ) → is_accepted J S b d ≡ is_accepted J S (without_added b) d
  pub count : count_accepted (verdicts_on J S b) ≡ count_accepted (verdicts_on J S (without_added b))
  pub end : (draw_in J S b ≡ draw_in J S (without_added b)) ⊎ ((draw_in J S (without_added b) ≡ Err StillStuck) × ((v : Element) × (draw_in J S b ≡ Ok v)))

-- on every board whose verdicts are reached; nothing is asked of the judges
abbrev pub AddedAtEnd : Type 0
AddedAtEnd = (J : Judges) (S : Setting) → ProperSetting S → (b : List ℕ) → Met (board_checks S b) → SameButEnd J S b
