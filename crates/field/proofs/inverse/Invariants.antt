-- `field::inverse` meets its contract. The loop's invariant: a times t is x modulo m. x falls to 1, and then t is the inverse.
use Rattle.field.proofs.Loops.{Descent}
use Rattle.field.proofs.inverse.Given as goal

abbrev pub invariant-loop-x : goal.invariant-loop-x
invariant-loop-x l = Descent l.m l.a l.t l.x

abbrev pub decreases-loop-x : goal.decreases-loop-x
decreases-loop-x l = l.x
