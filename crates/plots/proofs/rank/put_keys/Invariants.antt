-- `put_keys` meets its contract. The loop's invariant: the first i places hold the keys of the first i plots.
use lib.ListN.{length}
use Rattle.plots.specs.Sorting.{keys_of}
use Rattle.plots.proofs.Loops.{Copied}
use Rattle.plots.proofs.rank.put_keys.Given as goal

abbrev pub invariant-loop-i : goal.invariant-loop-i
invariant-loop-i l = Copied (keys_of l.value.0 l.radius (length l.initial.keys)) l.keys l.i
