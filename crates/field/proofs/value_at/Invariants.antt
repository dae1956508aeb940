-- `field::value_at` meets its contract. The loop's invariant: r is the value of the coefficients behind those that are left.
use Rattle.field.proofs.Loops.{Horner}
use Rattle.field.proofs.value_at.Given as goal

abbrev pub invariant-loop-c : goal.invariant-loop-c
invariant-loop-c l = Horner l.m l.cs l.x l.c-iterator.iter.rest.now l.r
