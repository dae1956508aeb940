-- `equality_check` meets its contract: the refusal of a table or a number is handed on, and else its group answers.
use mathlib.Core.Path.{◌≡◌, ◌∙◌}
use Rattle.std.proofs.Common.{rules}
use Rattle.std.specs.Prelude.{Err}
use Rattle.group.proofs.Answers.{found-sound, in-group-refused, in-group-value}
use Rattle.equality.specs.Equality.{equality_in, equality_outcome}
use Rattle.equality.proofs.logarithms.equality_check.Goals as goal

pub equality_in-requires : goal.equality_in-requires
equality_in-requires c = (found-sound _ _ c.group_of.ensures c.in_ok-gr.was).proper.prime-p.above-one

pub returns-in_err-gr : goal.returns-in_err-gr
unfolding equality_outcome
returns-in_err-gr c =
    let a = c.args in
    let h : Err c.in_err-gr.field-0.0 ≡ equality_outcome a.table.now a.number a.e = in-group-refused _ _ _ _ c.group_of.ensures c.in_err-gr.was in
    search rules

pub returns : goal.returns
unfolding equality_outcome equality_in
returns c = c.equality_in.ensures ∙ in-group-value _ _ _ _ c.group_of.ensures c.in_ok-gr.was
