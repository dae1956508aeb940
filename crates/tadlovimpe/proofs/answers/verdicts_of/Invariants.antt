-- `verdicts_of` meets its contract. The loop's invariant: the first i places hold the figures of the first i places.
use mathlib.Core.Path.{◌≡◌}
use lib.ListN.{length, take}
use Rattle.words.specs.Lists.{map}
use Rattle.tadlovimpe.specs.Figures.{verdict_of}
use Rattle.tadlovimpe.proofs.answers.verdicts_of.Given as goal

abbrev pub invariant-loop-i : goal.invariant-loop-i
invariant-loop-i l = (length l.figures ≡ 31) × (take l.i l.figures ≡ take l.i (map verdict_of l.places))
