-- `judge` meets its contract: a refusal of the round is handed on, and else its setting answers.
use mathlib.Core.Path.{◌≡◌, ◌∙◌}
use Rattle.std.proofs.Common.{rules}
use Rattle.std.specs.Prelude.{Err}
use Rattle.sharing.proofs.Rounds.{judged-refused, judged-value, setting-proper}
use Rattle.share.specs.Share.{judge_share_in, judge_share_outcome}
use Rattle.share.proofs.judge.judge.Goals as goal

pub judge_in-requires : goal.judge_in-requires
judge_in-requires c = setting-proper _ _ c.setting_of.ensures c.in_ok-s.was

pub returns-in_err-s : goal.returns-in_err-s
unfolding judge_share_outcome
returns-in_err-s c =
    let a = c.args in
    let h : Err c.in_err-s.field-0.0 ≡ judge_share_outcome a.table.now a.rd a.e.form a.e.member a.y.0 a.e.encrypted.0 a.b.now
    = judged-refused _ _ _ _ c.setting_of.ensures c.in_err-s.was in
    search rules

pub returns : goal.returns
unfolding judge_share_outcome judge_share_in
returns c = c.judge_in.ensures ∙ judged-value _ _ _ _ c.setting_of.ensures c.in_ok-s.was
