-- `pick_plots` meets its contract: the refusal of a number is handed on, and else its group answers.
use mathlib.Core.Path.{◌≡◌, ◌∙◌}
use lib.ListN.{length}
use Rattle.std.proofs.Common.{rules}
use Rattle.std.specs.Prelude.{Err}
use Rattle.group.proofs.Answers.{in-group-refused, in-group-value, in-group-kept, in-group-lent}
use Rattle.plots.specs.Picked.{pick_in, pick_outcome, lent_plots_in, lent_plots}
use Rattle.plots.proofs.pick_plots.Goals as goal

pub returns-in_err-gr-clause-result_value : goal.returns-in_err-gr-clause-result_value
unfolding pick_outcome
returns-in_err-gr-clause-result_value c =
    let a = c.args in
    let h : Err c.in_err-gr.field-0.0 ≡ pick_outcome a.table.now a.number a.value a.radius a.total a.count (length a.out.now) = in-group-refused _ _ _ _ c.group_of.ensures c.in_err-gr.was in
    search rules

pub returns-in_err-gr-clause-out_after : goal.returns-in_err-gr-clause-out_after
unfolding lent_plots
returns-in_err-gr-clause-out_after c = in-group-kept _ _ _ _ c.group_of.ensures c.in_err-gr.was _

pub returns : goal.returns
unfolding pick_outcome pick_in lent_plots lent_plots_in
returns c =
    let e = c.group_of.ensures in
    record {
      result_value = c.pick_plots_in.ensures.result_value ∙ in-group-value _ _ _ _ e c.in_ok-gr.was;
      out_after = c.pick_plots_in.ensures.out_after ∙ in-group-lent _ _ _ _ e c.in_ok-gr.was _;
    }
