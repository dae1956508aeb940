-- `multiplied_shares` meets its contract. The loop's invariant: what is held are the products over the dealers above d.
use Rattle.verdicts.specs.Shares.{judges}
use Rattle.verdicts.proofs.Products.{ProductsAbove}
use Rattle.verdicts.proofs.added.multiplied_shares.Given as goal

abbrev pub invariant-loop-d : goal.invariant-loop-d
invariant-loop-d l = ProductsAbove judges l.s l.b l.d l.products
