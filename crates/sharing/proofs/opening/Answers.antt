-- `opening` meets its contract: a refusal of the round is handed on, and else its setting answers.
use mathlib.Core.Path.{◌≡◌, ◌∙◌}
use Rattle.std.proofs.Common.{rules}
use Rattle.std.specs.Prelude.{Err}
use Rattle.sharing.specs.Answer.{opening_in, opening_outcome}
use Rattle.sharing.proofs.Rounds.{judged-refused, judged-value, setting-proper}
use Rattle.sharing.proofs.opening.Goals as goal

pub opening_in-requires : goal.opening_in-requires
opening_in-requires c = setting-proper _ _ c.setting_of.ensures c.in_ok-s.was

pub returns-in_err-s : goal.returns-in_err-s
unfolding opening_outcome
returns-in_err-s c =
    let a = c.args in
    let h : Err c.in_err-s.field-0.0 ≡ opening_outcome a.table.now a.rd a.vs.now a.u.0 = judged-refused _ _ _ _ c.setting_of.ensures c.in_err-s.was in
    search rules

pub returns : goal.returns
unfolding opening_outcome opening_in
returns c = c.opening_in.ensures ∙ judged-value _ _ _ _ c.setting_of.ensures c.in_ok-s.was
