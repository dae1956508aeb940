-- `field::prime::is_prime` meets its contract. The loop's invariant: m and d are odd, no odd number from 3 to below d divides m, and k is the
-- quotient of m by d.
use Prim.Native.Nat.{◌-◌}
use Rattle.field.proofs.Loops.{Trial}
use Rattle.field.proofs.prime.is_prime.Given as goal

abbrev pub invariant-loop-d : goal.invariant-loop-d
invariant-loop-d l = Trial l.m l.d l.k

abbrev pub decreases-loop-d : goal.decreases-loop-d
decreases-loop-d l = l.m - l.d
