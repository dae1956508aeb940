-- `distinct::none_twice` meets its contract. The loop's invariant: no number stands twice exactly if none does from index i on.
use mathlib.Core.Path.{◌≡◌}
use lib.ListN.{drop}
use Rattle.words.specs.Lists.{none_twice}
use Rattle.words.proofs.distinct.none_twice.Given as goal

abbrev pub invariant-loop-i : goal.invariant-loop-i
invariant-loop-i l = none_twice l.xs ≡ none_twice (drop l.i l.xs)
