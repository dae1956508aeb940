-- `weights::degree_product` meets its contract. The loop's invariant: the product is that of the commitments of the members above i to their
-- weights.
use mathlib.Core.Path.{◌≡◌}
use lib.ListN.{drop}
use Rattle.sharing.specs.Weights.{weights_of, powers_product}
use Rattle.sharing.proofs.weights.degree_product.Given as goal

abbrev pub invariant-loop-i : goal.invariant-loop-i
invariant-loop-i l = l.product.0 ≡ powers_product l.s.group.p (drop l.i l.vs) (drop l.i (weights_of l.s l.ds))
