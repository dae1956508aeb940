-- `weights::gaps` meets its contract. The loop's invariant: the product is that over the other members above j.
use mathlib.Core.Path.{◌≡◌}
use lib.ListN.{drop}
use Rattle.field.specs.Residue.{sub}
use Rattle.sharing.specs.Setting.{members}
use Rattle.sharing.specs.Weights.{product_over}
use Rattle.sharing.proofs.weights.gaps.Given as goal

abbrev pub invariant-loop-j : goal.invariant-loop-j
invariant-loop-j l = l.product.0 ≡ product_over l.s.group.q (sub l.s.group.q l.i) l.i (drop l.j (members l.s.n))
