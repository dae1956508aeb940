-- What the board judge answers over a table and a round, and what `draw` prints then: where a board is refused before its verdicts, and
-- where another board judge would give the same answers, as one that refuses nothing by 22 does where the keys are distinct.
use Rattle.std.specs.Prelude.{◌≡◌, true, List, ◌++◌, ◌↔◌, ℕ, ◌<◌, Err}
use Rattle.words.specs.Lists.{Distinct, all, map}
use Rattle.words.specs.Checks.{Check, Outcome, outcome, Met, FirstUnmet, without}
use Rattle.words.specs.Bytes.{records_in, record_at}
use Rattle.words.specs.declared.refusal.Refusal.{Refusal}
use Rattle.words.specs.declared.refusal.Refusal.TheVariants.{OtherRound, SameKey}
use Rattle.group.specs.declared.Element.{Element}
use Rattle.sharing.specs.Setting.{setting_in, round_checks, judged, judged_else, members}
use Rattle.sharing.specs.declared.Round.{Round}
use Rattle.sharing.specs.declared.Setting.{Setting}
use Rattle.records.specs.Layout.{round_of}
use Rattle.records.specs.Claims.{KeyTwice}
use Rattle.dealing.specs.Dealing.{judge_dealing_checks}
use Rattle.share.specs.Share.{judge_share_in}
use Rattle.board.specs.Board.{is_shaped, record_checks, length_checks, form_checks, has_key, keys_in, board_checks}
use Rattle.verdicts.specs.Shares.{Judges, judges}
use Rattle.verdicts.specs.Verdict.{verdict_on}
use Rattle.verdicts.specs.Draw.{count_accepted, draw_checks, draw_value, draw_in, draw_outcome, verdict_places, no_verdicts}
use Rattle.verdicts.specs.declared.Verdict.{Verdict}
use Rattle.verdicts.specs.declared.Judgement.{Judgement}
use Rattle.rulings.specs.Ruling.{JudgementOf, verdicts_of, count_of}
use Rattle.rulings.specs.Files.{round_in, file_checks}
use Rattle.text.specs.Text.{refused_line, dealer_lines, accepted_line, draw_line, round_line, text_of, draw_text}

-- ---- refused before the verdicts
-- the board judge answers k and gives no verdict; where round.set holds the round and neither it nor the table is refused, `draw` prints
-- one line
pub record RefusedOver (J : Judges) (T : List ℕ) (R : Round) (b : List ℕ) (k : Refusal) : Type 0 where
  pub draw : draw_outcome J T R b ≡ Err k
  pub answer : (o : Outcome Judgement) → JudgementOf J T R b o → o ≡ Err k
  pub text : (s : List ℕ) → Met (file_checks T s) → round_in s ≡ R → draw_text J T s b ≡ refused_line k

-- by the first check of the table, the round and the board that is not met
abbrev pub FirstRefusal : Type 0
FirstRefusal =
    (J : Judges) (T : List ℕ) (R : Round) (b : List ℕ) (k : Refusal) → FirstUnmet k (round_checks T R ++ board_checks (setting_in T R) b)
    → RefusedOver J T R b k

-- a record of another round: by 17 where nothing earlier refuses, which is the table, the round, the board's length, a record before it,
-- and its own form
abbrev pub OtherRoundRefused : Type 0
OtherRoundRefused =
    (J : Judges) (T : List ℕ) (R : Round) → Met (round_checks T R) → (b : List ℕ) (i : ℕ) → i < records_in b
    → Met (length_checks b ++ record_checks (setting_in T R) b 0 i) → is_shaped R.n (record_at b i) ≡ true
    → (round_of (record_at b i) ≡ R.round → ⊥) → RefusedOver J T R b OtherRound

-- two members with one key: by 22 where nothing earlier refuses
abbrev pub KeyTwiceRefused : Type 0
KeyTwiceRefused =
    (J : Judges) (T : List ℕ) (R : Round) → Met (round_checks T R) → (b : List ℕ) → Met (form_checks (setting_in T R) b)
    → all (has_key b) (members R.n) ≡ true → KeyTwice (setting_in T R).group (keys_in R.n b) → RefusedOver J T R b SameKey

-- ---- another board judge: what it refuses before the verdicts, the verdict on each dealer, what it refuses after them, and the draw value
pub record BoardJudge : Type 0 where
  pub before : Setting → List ℕ → List Check
  pub verdict : Setting → List ℕ → ℕ → Verdict
  pub end : Setting → List ℕ → List Check
  pub drawn : Setting → List ℕ → Element

abbrev pub verdicts_by : BoardJudge → Setting → List ℕ → List Verdict
verdicts_by B S b = map (B.verdict S b) (members S.n)

-- what it refuses before the verdicts over a table and a round
abbrev pub checks_over : BoardJudge → List ℕ → Round → List ℕ → List Check
checks_over B T R b = round_checks T R ++ B.before (setting_in T R) b

-- its draw, in a setting and over a table and a round
abbrev pub draw_by : BoardJudge → Setting → List ℕ → Outcome Element
draw_by B S b = outcome (B.before S b ++ B.end S b) (B.drawn S b)

abbrev pub draw_over : BoardJudge → List ℕ → Round → List ℕ → Outcome Element
draw_over B T R b = judged T R (λ S. B.before S b ++ B.end S b) (λ S. B.drawn S b)

-- its verdicts at their places, and how many dealings it accepts
abbrev pub places_over : BoardJudge → List ℕ → Round → List ℕ → List Verdict
places_over B T R b = judged_else T R (λ S. B.before S b) (λ S. verdict_places (B.verdict S b) S.n) no_verdicts

abbrev pub count_over : BoardJudge → List ℕ → Round → List ℕ → ℕ
count_over B T R b = judged_else T R (λ S. B.before S b) (λ S. count_accepted (verdicts_by B S b)) 0

-- what `draw` would print of it, in the lines that it has
abbrev pub report_by : BoardJudge → Setting → List ℕ → List ℕ
report_by B S b =
    let vs = verdicts_by B S b in
    round_line S ++ (dealer_lines 1 vs ++ (accepted_line (count_accepted vs) ++ draw_line (draw_by B S b)))

abbrev pub text_over : BoardJudge → List ℕ → List ℕ → List ℕ → List ℕ
text_over B T s b = text_of (outcome (file_checks T s) (text_of (judged T (round_in s) (λ S. B.before S b) (λ S. report_by B S b))))

-- ---- the board is judged as it would be by B
-- in a setting: what is refused before the verdicts; each verdict, where verdicts are reached; the draw value or the refusal by which there
-- is none
pub record JudgedAs (B : BoardJudge) (S : Setting) (b : List ℕ) : Type 0 where
  pub before : outcome (board_checks S b) tt ≡ outcome (B.before S b) (tt {0})
  pub verdict : Met (board_checks S b) → (d : ℕ) → verdict_on judges S b d ≡ B.verdict S b d
  pub draw : draw_in judges S b ≡ draw_by B S b

-- over a table and a round: all that the board judge answers, and what `draw` prints where round.set holds the round
pub record AnsweredAs (B : BoardJudge) (T : List ℕ) (R : Round) (b : List ℕ) : Type 0 where
  pub draw : draw_outcome judges T R b ≡ draw_over B T R b
  pub refused : (o : Outcome Judgement) → JudgementOf judges T R b o → (k : Refusal) → (o ≡ Err k) ↔ FirstUnmet k (checks_over B T R b)
  pub verdicts : (o : Outcome Judgement) → JudgementOf judges T R b o → verdicts_of o ≡ places_over B T R b
  pub accepted : (o : Outcome Judgement) → JudgementOf judges T R b o → count_of o ≡ count_over B T R b
  pub text : (s : List ℕ) → round_in s ≡ R → draw_text judges T s b ≡ text_over B T s b

-- which is so where it is judged so in their setting
abbrev pub AnsweredBySetting : Type 0
AnsweredBySetting =
    (B : BoardJudge) (T : List ℕ) (R : Round) (b : List ℕ) → (Met (round_checks T R) → JudgedAs B (setting_in T R) b) → AnsweredAs B T R b

-- ---- distinct keys
-- the board judge that leaves out every check by k, on the board and in the judge of dealings; neither the judge of shares nor the end of a
-- board refuses by 22
abbrev pub judges_without : Refusal → Judges
judges_without k = record { dealing = λ S d ys b. outcome (without k (judge_dealing_checks S d ys b)) tt; share = judge_share_in }

abbrev pub board_without : Refusal → BoardJudge
board_without k =
    let J = judges_without k in
    record { before = λ S b. without k (board_checks S b); verdict = verdict_on J; end = draw_checks J; drawn = draw_value J }

-- with distinct keys every board is judged as without 22, in any round
abbrev pub DistinctBoard : Type 0
DistinctBoard = (S : Setting) (b : List ℕ) → Distinct (keys_in S.n b) → JudgedAs (board_without SameKey) S b

abbrev pub DistinctOverRound : Type 0
DistinctOverRound = (T : List ℕ) (R : Round) (b : List ℕ) → Distinct (keys_in R.n b) → AnsweredAs (board_without SameKey) T R b
