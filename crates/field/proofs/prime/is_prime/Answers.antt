-- `field::prime::is_prime` meets its contract. The loop's invariant: m and d are odd, no odd number from 3 to below d divides m, and k is the
-- quotient of m by d.
use mathlib.Core.Path.{sym}
use native.Mathlib.Omega.{arith}
use Rattle.field.proofs.Loops.{trial-low, trial-even, trial-stop, trial-end}
use Rattle.field.proofs.prime.is_prime.Goals as goal

pub returns-then-m-lt2 : goal.returns-then-m-lt2
returns-then-m-lt2 c = sym (trial-low _ c.if-m-lt2.true)

pub returns-then-m-eq0 : goal.returns-then-m-eq0
returns-then-m-eq0 c = trial-even _ c.if-m-lt2.false c.if-m-eq0.true

pub returns-then-d-k : goal.returns-then-d-k
returns-then-d-k c = sym (trial-stop _ _ _ c.loop-d.invariant (omega arith) c.if-d-k.true)

pub returns : goal.returns
returns c = sym (trial-end _ _ _ c.loop-d.invariant c.if-m-lt2.false (omega arith))
