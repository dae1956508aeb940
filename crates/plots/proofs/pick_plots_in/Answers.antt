-- `pick_plots_in` meets its contract: where a check refuses, the list is as it was.
use lib.ListN.{length}
use Rattle.words.proofs.Stages.{last-kept}
use Rattle.plots.specs.Picked.{pick_checks, lent_plots_in}
use Rattle.plots.proofs.pick_plots_in.Goals as goal

pub returns-in_err-check_pick-clause-out_after : goal.returns-in_err-check_pick-clause-out_after
unfolding lent_plots_in
returns-in_err-check_pick-clause-out_after c =
    let a = c.args in
    last-kept (pick_checks a.gr a.value a.radius a.total a.count (length a.out.now)) c.in_err-check_pick.ensures _ _
