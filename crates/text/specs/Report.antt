-- The report as it is written from the board judge's answer.
use Rattle.std.specs.Prelude.{List, ◌++◌, ℕ, take}
use Rattle.sharing.specs.declared.Setting.{Setting}
use Rattle.verdicts.specs.declared.Verdict.{Verdict}
use Rattle.verdicts.specs.declared.Judgement.{Judgement}
use Rattle.text.specs.Text.{dealer_lines, draw_line, round_line, accepted_line}

-- the verdicts of the first n places
abbrev pub verdicts_at : ℕ → List Verdict → List Verdict
verdicts_at n ws = take n ws

-- the four parts of the report, in their order
unfoldable pub report_from : Setting → Judgement → List ℕ
report_from S A =
    round_line S
    ++ (dealer_lines 1 (verdicts_at S.n A.verdicts) ++ (accepted_line A.accepted ++ draw_line A.draw))
