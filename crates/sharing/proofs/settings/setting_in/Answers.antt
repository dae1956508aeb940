-- `settings::setting_in` meets its contract: the look-up tells the group or that there is none, and then the range decides.
use mathlib.Core.Path.{sym}
use Rattle.std.proofs.Common.{rules}
use Rattle.group.proofs.Answers.{group-value}
use Rattle.sharing.specs.Setting.{round_figures, figures_outcome}
use Rattle.sharing.proofs.settings.setting_in.Goals as goal

pub returns-in_err-gr : goal.returns-in_err-gr
unfolding figures_outcome round_figures
returns-in_err-gr c = search rules

pub returns-then-not-in_range : goal.returns-then-not-in_range
unfolding figures_outcome round_figures
returns-then-not-in_range c =
    let g = group-value _ _ c.group_in.ensures c.in_ok-gr.was in
    simp (g.0, g.1, sym c.if-not-in_range.ensures)

pub returns : goal.returns
unfolding figures_outcome round_figures
returns c =
    let g = group-value _ _ c.group_in.ensures c.in_ok-gr.was in
    simp (g.0, g.1, sym c.if-not-in_range.ensures, c.takes_whole.ensures)
