-- `judge_dealing` meets its contract: a refusal of the round is handed on, and else its setting answers.
use mathlib.Core.Path.{◌≡◌, ◌∙◌}
use Rattle.std.proofs.Common.{rules}
use Rattle.std.specs.Prelude.{Err}
use Rattle.sharing.proofs.Rounds.{judged-refused, judged-value, setting-proper}
use Rattle.dealing.specs.Dealing.{judge_dealing_in, judge_dealing_outcome}
use Rattle.dealing.proofs.judge.judge_dealing.Goals as goal

pub judge_dealing_in-requires : goal.judge_dealing_in-requires
judge_dealing_in-requires c = setting-proper _ _ c.setting_of.ensures c.in_ok-s.was

pub returns-in_err-s : goal.returns-in_err-s
unfolding judge_dealing_outcome
returns-in_err-s c =
    let a = c.args in
    let h : Err c.in_err-s.field-0.0 ≡ judge_dealing_outcome a.table.now a.rd a.d a.ys.now a.lines.now = judged-refused _ _ _ _ c.setting_of.ensures c.in_err-s.was in
    search rules

pub returns : goal.returns
unfolding judge_dealing_outcome judge_dealing_in
returns c = c.judge_dealing_in.ensures ∙ judged-value _ _ _ _ c.setting_of.ensures c.in_ok-s.was
