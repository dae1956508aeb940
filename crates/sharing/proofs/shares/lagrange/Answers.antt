-- `shares::lagrange` meets its contract. The loop's invariant: numbers and gaps are the products of j and of j - i over the other members j
-- that came so far, the last of them first. Neither gap is 0, and the quotient of the two products is the product of the quotients.
use mathlib.Core.Path.{◌∙◌}
use Rattle.sharing.proofs.Products.{differences-nonzero, lagrange-quotient}
use Rattle.sharing.proofs.Loops.{came_back}
use Rattle.sharing.proofs.shares.lagrange.Goals as goal

pub inverse-requires : goal.inverse-requires
inverse-requires c =
    let a = c.args in
    let P = c.requires in
    let e = came_back a.ms.now _ _ _ _ _ (cc) c.loop-j.yielded_by c.in-None.is c.next.ensures.steps in
    let g = rw e at c.loop-j.invariant.1 in
    let u = differences-nonzero a.gr.q P.0.prime-q a.i a.ms.now P.1 P.2 in
    (P.0.prime-q, rw g u.0, rw g u.1)

pub returns : goal.returns
returns c =
    let a = c.args in
    let P = c.requires in
    let e = came_back a.ms.now _ _ _ _ _ (cc) c.loop-j.yielded_by c.in-None.is c.next.ensures.steps in
    let n = rw e at c.loop-j.invariant.0 in
    let g = rw e at c.loop-j.invariant.1 in
    c.times.ensures ∙ rw (c.inverse.ensures, n, g) (lagrange-quotient a.gr P.0.prime-q a.i a.ms.now P.1 P.2)
