-- `field::inverse` meets its contract. The loop's invariant: a times t is x modulo m. x falls to 1, and then t is the inverse.
use Rattle.field.proofs.Loops.{descent-start, descent-next, descent-end}
use Rattle.field.proofs.inverse.Goals as goal

pub loop-x-init : goal.loop-x-init
loop-x-init c = descent-start _ c.requires.0 _ c.requires.1 c.requires.2

pub loop-x-preserved : goal.loop-x-preserved
loop-x-preserved c = rw c.mul-t.ensures (descent-next _ c.requires.0 _ _ _ c.loop-x-test.true c.loop-x.invariant)

pub returns : goal.returns
returns c =
    let p = c.requires in
    descent-end _ p.0 _ p.1 p.2 _ _ c.loop-x-test.false c.loop-x.invariant
