-- `put_plots` meets its contract. The loop's invariant: the first i places hold the plots of the first i keys.
use Rattle.words.specs.Lists.{map}
use Rattle.plots.specs.Sorting.{plot_of}
use Rattle.plots.proofs.Loops.{Copied}
use Rattle.plots.proofs.rank.put_plots.Given as goal

abbrev pub invariant-loop-i : goal.invariant-loop-i
invariant-loop-i l = Copied (map plot_of l.keys) l.out l.i
