-- `recovery` meets its contract: a refusal of the round is handed on, and else its setting answers.
use mathlib.Core.Path.{◌≡◌, ◌∙◌}
use Rattle.std.proofs.Common.{rules}
use Rattle.std.specs.Prelude.{Err}
use Rattle.sharing.specs.Answer.{recovery_in, recovery_outcome}
use Rattle.sharing.proofs.Rounds.{judged-refused, judged-value, setting-proper}
use Rattle.sharing.proofs.recovery.Goals as goal

pub recovery_in-requires : goal.recovery_in-requires
recovery_in-requires c = setting-proper _ _ c.setting_of.ensures c.in_ok-s.was

pub returns-in_err-s : goal.returns-in_err-s
unfolding recovery_outcome
returns-in_err-s c =
    let a = c.args in
    let h : Err c.in_err-s.field-0.0 ≡ recovery_outcome a.table.now a.rd a.ms.now a.ss.now = judged-refused _ _ _ _ c.setting_of.ensures c.in_err-s.was in
    search rules

pub returns : goal.returns
unfolding recovery_outcome recovery_in
returns c = c.recovery_in.ensures ∙ judged-value _ _ _ _ c.setting_of.ensures c.in_ok-s.was
