-- `power` meets its contract: the refusal of a table or a number is handed on, and else its group answers.
use mathlib.Core.Path.{◌≡◌, ◌∙◌}
use Rattle.std.proofs.Common.{rules}
use Rattle.std.specs.Prelude.{Err}
use Rattle.group.specs.Answer.{power_in, power_outcome}
use Rattle.group.proofs.Answers.{in-group-refused, in-group-value}
use Rattle.group.proofs.power.Goals as goal

pub returns-in_err-gr : goal.returns-in_err-gr
unfolding power_outcome
returns-in_err-gr c =
    let a = c.args in
    let h : Err c.in_err-gr.field-0.0 ≡ power_outcome a.table.now a.number a.base a.exponent = in-group-refused _ _ _ _ c.group_of.ensures c.in_err-gr.was in
    search rules

pub returns : goal.returns
unfolding power_outcome power_in
returns c = c.power_in.ensures ∙ in-group-value _ _ _ _ c.group_of.ensures c.in_ok-gr.was
