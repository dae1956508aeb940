-- `lines_check` meets its contract: a refusal of the round is handed on, and else the checks of its setting decide.
use mathlib.Core.Path.{◌≡◌, ◌∙◌}
use Rattle.std.proofs.Common.{rules}
use Rattle.std.specs.Prelude.{Err}
use Rattle.sharing.proofs.Rounds.{judged-refused, judged-value}
use Rattle.board.specs.Board.{lines_outcome}
use Rattle.board.proofs.parts.lines_check.Goals as goal

pub returns-in_err-s : goal.returns-in_err-s
unfolding lines_outcome
returns-in_err-s c =
    let a = c.args in
    let h : Err c.in_err-s.field-0.0 ≡ lines_outcome a.table.now a.rd a.d a.b.now = judged-refused _ _ _ _ c.setting_of.ensures c.in_err-s.was in
    search rules

pub returns : goal.returns
unfolding lines_outcome
returns c = c.check_lines.ensures ∙ judged-value _ _ _ _ c.setting_of.ensures c.in_ok-s.was
