-- `degree_check` meets its contract: a refusal of the round is handed on, and else its setting answers.
use mathlib.Core.Path.{◌≡◌, ◌∙◌}
use Rattle.std.proofs.Common.{rules}
use Rattle.std.specs.Prelude.{Err}
use Rattle.sharing.specs.Answer.{degree_in, degree_outcome}
use Rattle.sharing.proofs.Rounds.{judged-refused, judged-value, setting-proper}
use Rattle.sharing.proofs.degree_check.Goals as goal

pub degree_check_in-requires : goal.degree_check_in-requires
degree_check_in-requires c = setting-proper _ _ c.setting_of.ensures c.in_ok-s.was

pub returns-in_err-s : goal.returns-in_err-s
unfolding degree_outcome
returns-in_err-s c =
    let a = c.args in
    let h : Err c.in_err-s.field-0.0 ≡ degree_outcome a.table.now a.rd a.vs.now a.ds.now = judged-refused _ _ _ _ c.setting_of.ensures c.in_err-s.was in
    search rules

pub returns : goal.returns
unfolding degree_outcome degree_in
returns c = c.degree_check_in.ensures ∙ judged-value _ _ _ _ c.setting_of.ensures c.in_ok-s.was
