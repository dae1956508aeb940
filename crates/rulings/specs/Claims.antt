-- What is claimed of the ruling on a table, a set and a board: of every answer that judge_files may give.
use Rattle.std.specs.Prelude.{◌≡◌, List, ◌↔◌, ℕ, Ok, Err}
use Rattle.words.specs.Checks.{Outcome, Met, FirstUnmet}
use Rattle.words.specs.declared.refusal.Refusal.{Refusal}
use Rattle.group.specs.Table.{groups_of, table_checks}
use Rattle.sharing.specs.Setting.{ProperSetting, setting_in}
use Rattle.sharing.specs.declared.Round.{Round}
use Rattle.board.specs.Board.{board_checks}
use Rattle.verdicts.specs.Shares.{Judges}
use Rattle.verdicts.specs.Draw.{JudgementIn, draw_outcome, no_verdicts}
use Rattle.verdicts.specs.declared.Judgement.{Judgement}
use Rattle.rulings.specs.Files.{round_in, file_checks}
use Rattle.rulings.specs.Ruling.{RulingOf, ruling_checks, JudgementOf, verdicts_of, count_of, draw_of, places_on, count_on}
use Rattle.rulings.specs.declared.Ruling.{Ruling}

-- there is a setting exactly where no check before the verdicts refuses: that of the set's round
abbrev pub RulingReached : Type 0
RulingReached =
    (J : Judges) (T s b : List ℕ) (o : Outcome Ruling) → RulingOf J T s b o
    → Met (ruling_checks T s b) ↔ ((A : Ruling) × (o ≡ Ok A) × (A.setting ≡ setting_in T (round_in s)))

-- what a caller has where there is a ruling A: its setting is proper, and the judgement is that of the board in it
pub record Settled (J : Judges) (T s b : List ℕ) (A : Ruling) : Type 0 where
  pub setting : A.setting ≡ setting_in T (round_in s)
  pub proper : ProperSetting A.setting
  pub reached : Met (board_checks A.setting b)
  pub judgement : JudgementIn J A.setting b A.judgement

abbrev pub RulingSettled : Type 0
RulingSettled =
    (J : Judges) (T s b : List ℕ) (o : Outcome Ruling) → RulingOf J T s b o
    → (A : Ruling) → o ≡ Ok A → Settled J T s b A

-- it is refused by k exactly where the first of these checks that is not met refuses by k
abbrev pub RulingRefused : Type 0
RulingRefused =
    (J : Judges) (T s b : List ℕ) (o : Outcome Ruling) → RulingOf J T s b o
    → (k : Refusal) → FirstUnmet k (ruling_checks T s b) ↔ (o ≡ Err k)

-- the judgement of a ruling, or its refusal
abbrev pub judgement_in : Outcome Ruling → Outcome Judgement
judgement_in (Ok A) = Ok A.judgement
judgement_in (Err k) = Err k

-- and then there is no verdict, the count is 0, and the draw is refused by k
pub record Empty (k : Refusal) (o : Outcome Judgement) : Type 0 where
  pub verdicts : verdicts_of o ≡ no_verdicts
  pub accepted : count_of o ≡ 0
  pub draw : draw_of o ≡ Err k

abbrev pub RulingEmpty : Type 0
RulingEmpty =
    (J : Judges) (T s b : List ℕ) (o : Outcome Ruling) → RulingOf J T s b o
    → (k : Refusal) → o ≡ Err k → Empty k (judgement_in o)

-- where the table and the set are accepted, its judgement is what judge_board answers for the set's round
abbrev pub RulingJudged : Type 0
RulingJudged =
    (J : Judges) (T s b : List ℕ) (o : Outcome Ruling) → RulingOf J T s b o
    → Met (file_checks T s) → JudgementOf J T (round_in s) b (judgement_in o)

-- of an accepted table nothing but its groups enters
abbrev pub RulingByGroups : Type 0
RulingByGroups =
    (J : Judges) (T₁ T₂ s b : List ℕ) (o : Outcome Ruling) → Met (table_checks T₁) → Met (table_checks T₂) → groups_of T₁ ≡ groups_of T₂
    → RulingOf J T₁ s b o → RulingOf J T₂ s b o

-- ---- what judge_board answers over a table and a round
pub record JudgementRead (J : Judges) (T : List ℕ) (R : Round) (b : List ℕ) (o : Outcome Judgement) : Type 0 where
  pub verdicts : verdicts_of o ≡ places_on J T R b
  pub accepted : count_of o ≡ count_on J T R b
  pub draw : draw_of o ≡ draw_outcome J T R b

abbrev pub JudgementExactly : Type 0
JudgementExactly = (J : Judges) (T : List ℕ) (R : Round) (b : List ℕ) (o : Outcome Judgement) → JudgementOf J T R b o → JudgementRead J T R b o
