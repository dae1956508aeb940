-- What is claimed of the answers as figures: the number is that of the outcome; and where there are more figures, on a refusal the others
-- are 0, but for the count and the verdicts of a board that was judged. The proofs are in proofs/Refusals.antt.
use Rattle.std.specs.Prelude.{◌≡◌, List, ◌++◌, ◌↔◌, ℕ, replicate, Ok}
use Rattle.words.specs.Numbers.{number}
use Rattle.words.specs.Checks.{Check, Outcome, outcome, refusal, FirstUnmet}
use Rattle.words.specs.declared.refusal.Refusal.{Refusal}
use Rattle.group.specs.declared.Element.{Element}
use Rattle.sharing.specs.Setting.{setting_in, round_checks}
use Rattle.sharing.specs.declared.Round.{Round}
use Rattle.board.specs.Board.{board_checks, lines_outcome}
use Rattle.verdicts.specs.Shares.{Judges}
use Rattle.verdicts.specs.Draw.{draw_outcome}
use Rattle.tadlovimpe.specs.Figures.{number_of, answer_of, part_of, part_on, board_on}
use Rattle.tadlovimpe.specs.declared.BoardAnswer.{BoardAnswer}

-- ---- one number
-- the number of what a list of checks answers is that of the first that is not met, 0 where every one is
abbrev pub NumberExactly : Type 1
NumberExactly = (A : Type 0) (cs : List Check) (a : A) → number_of (outcome cs a) ≡ refusal cs

-- an answer of more than one figure has the number of its outcome
abbrev pub NumberBeside : Type 0
NumberBeside =
    ((o : Outcome Element) → (answer_of o).refusal ≡ number_of o)
    × ((o : Outcome (Unit {0})) (start bytes : ℕ) → (part_of o start bytes).refusal ≡ number_of o)
    × ((J : Judges) (T : List ℕ) (R : Round) (b : List ℕ) → (board_on J T R b).refusal ≡ number_of (draw_outcome J T R b))

-- ---- one value
abbrev pub AnswerRefused : Type 0
AnswerRefused = (o : Outcome Element) → ((answer_of o).refusal ≡ 0 → ⊥) → (answer_of o).value ≡ 0

-- ---- a dealer's lines: what tadlovimpe_dealer_lines answers
abbrev pub PartRefused : Type 0
PartRefused =
    (T : List ℕ) (R : Round) (d : ℕ) (b : List ℕ) → ((part_on T R d b).refusal ≡ 0 → ⊥)
    → ((part_on T R d b).start ≡ 0) × ((part_on T R d b).length ≡ 0)

-- the number alone tells: a part with the number 0 is the dealer's lines, even where it has no bytes
abbrev pub PartExactly : Type 0
PartExactly = (T : List ℕ) (R : Round) (d : ℕ) (b : List ℕ) → ((part_on T R d b).refusal ≡ 0) ↔ (lines_outcome T R d b ≡ Ok tt)

-- ---- a board: what tadlovimpe_judge_board answers
-- whatever refuses, there is no draw value
abbrev pub BoardRefused : Type 0
BoardRefused = (J : Judges) (T : List ℕ) (R : Round) (b : List ℕ) → ((board_on J T R b).refusal ≡ 0 → ⊥) → (board_on J T R b).value ≡ 0

-- where a check of the table, the round or the board refuses, nothing is counted and no dealer has a verdict. (A refusal after the
-- verdicts, by 14 or 13, leaves both.)
pub record NoVerdicts (k : Refusal) (A : BoardAnswer) : Type 0 where
  pub number : A.refusal ≡ number k
  pub none-counted : A.accepted ≡ 0
  pub none-judged : A.verdicts ≡ replicate 31 (record { kind = 0; value = 0 })

abbrev pub BoardUnmet : Type 0
BoardUnmet =
    (J : Judges) (T : List ℕ) (R : Round) (b : List ℕ) (k : Refusal) → FirstUnmet k (round_checks T R ++ board_checks (setting_in T R) b)
    → NoVerdicts k (board_on J T R b)
