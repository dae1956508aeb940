-- `field::value_at` meets its contract. The loop's invariant: r is the value of the coefficients behind those that are left.
use Rattle.field.proofs.Loops.{Horner, horner-next}
use Rattle.field.proofs.value_at.Goals as goal

pub loop-c-preserved : goal.loop-c-preserved
loop-c-preserved c =
    let a = c.args in
    let l = c.loop-c in
    let t : Horner a.m a.cs.now a.x _ l.r = rw c.in-Some.ensures.steps at l.invariant in
    horner-next a.m c.requires a.cs.now a.x _ _ l.r t
