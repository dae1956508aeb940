-- The ruling on a board: the setting in which its verdicts are reached and its judgement, or what refuses before them.
use Rattle.std.specs.Prelude.{◌≡◌, List, ◌++◌, ℕ, Ok, Err}
use Rattle.words.specs.Checks.{Check, Outcome, Met, FirstUnmet}
use Rattle.group.specs.declared.Element.{Element}
use Rattle.sharing.specs.Setting.{setting_in, round_checks, judged_else}
use Rattle.sharing.specs.declared.Round.{Round}
use Rattle.sharing.specs.declared.Setting.{Setting}
use Rattle.board.specs.Board.{board_checks}
use Rattle.verdicts.specs.Shares.{Judges}
use Rattle.verdicts.specs.Verdict.{verdict_on, verdicts_on}
use Rattle.verdicts.specs.Draw.{count_accepted, verdict_places, no_verdicts, JudgementIn}
use Rattle.verdicts.specs.declared.Verdict.{Verdict}
use Rattle.verdicts.specs.declared.Judgement.{Judgement}
use Rattle.rulings.specs.Files.{round_in, setting_checks}
use Rattle.rulings.specs.declared.Ruling.{Ruling}

-- ---- in a setting: the judgement where every check of the board is met, else the refusal of the first that is not
abbrev pub JudgedIn : Judges → Setting → List ℕ → Outcome Judgement → Type 0
JudgedIn J S b (Ok A) = Met (board_checks S b) × JudgementIn J S b A
JudgedIn J S b (Err k) = FirstUnmet k (board_checks S b)

-- ---- of the bytes of groups.tab, round.set and board.bin
-- all checks before the verdicts, in their order: of the table, the set, the round's figures, the board
abbrev pub ruling_checks : List ℕ → List ℕ → List ℕ → List Check
ruling_checks T s b = setting_checks T s ++ board_checks (setting_in T (round_in s)) b

pub record RulingMet (J : Judges) (T s b : List ℕ) (A : Ruling) : Type 0 where
  pub met : Met (ruling_checks T s b)
  pub setting : A.setting ≡ setting_in T (round_in s)
  pub judgement : JudgementIn J (setting_in T (round_in s)) b A.judgement

abbrev pub RulingOf : Judges → List ℕ → List ℕ → List ℕ → Outcome Ruling → Type 0
RulingOf J T s b (Ok A) = RulingMet J T s b A
RulingOf J T s b (Err k) = FirstUnmet k (ruling_checks T s b)

-- ---- of a table, a round and a board
-- all checks before the verdicts
abbrev pub judgement_checks : List ℕ → Round → List ℕ → List Check
judgement_checks T R b = round_checks T R ++ board_checks (setting_in T R) b

abbrev pub JudgementOf : Judges → List ℕ → Round → List ℕ → Outcome Judgement → Type 0
JudgementOf J T R b (Ok A) = Met (judgement_checks T R b) × JudgementIn J (setting_in T R) b A
JudgementOf J T R b (Err k) = FirstUnmet k (judgement_checks T R b)

-- what is read off an answer: the verdicts at their places, the count of accepted dealings, and the draw. Where a check before the verdicts
-- refuses there is no verdict, the count is 0, and there is no draw for what refuses
abbrev pub verdicts_of : Outcome Judgement → List Verdict
verdicts_of (Ok A) = A.verdicts
verdicts_of (Err k) = no_verdicts

abbrev pub count_of : Outcome Judgement → ℕ
count_of (Ok A) = A.accepted
count_of (Err k) = 0

abbrev pub draw_of : Outcome Judgement → Outcome Element
draw_of (Ok A) = A.draw
draw_of (Err k) = Err k

-- these are, over a table, a round and a board, by what the judges say
abbrev pub places_on : Judges → List ℕ → Round → List ℕ → List Verdict
places_on J T R b = judged_else T R (λ S. board_checks S b) (λ S. verdict_places (verdict_on J S b) S.n) no_verdicts

abbrev pub count_on : Judges → List ℕ → Round → List ℕ → ℕ
count_on J T R b = judged_else T R (λ S. board_checks S b) (λ S. count_accepted (verdicts_on J S b)) 0
