-- `shares::recovered_from` meets its contract. The loop's invariant: the product is that of the shares that came so far to Lagrange's
-- coefficients of their members.
use mathlib.Core.Path.{◌≡◌}
use Prim.Native.Nat.{◌-◌}
use lib.ListN.{length, drop}
use Rattle.words.specs.Lists.{map}
use Rattle.sharing.specs.Weights.{lagrange_at, powers_product}
use Rattle.sharing.proofs.shares.recovered_from.Given as goal

abbrev pub invariant-loop-m : goal.invariant-loop-m
invariant-loop-m l =
    let k = length l.ms - length l.yielded in
    l.product.0 ≡ powers_product l.gr.p (drop k l.ss) (drop k (map (lagrange_at l.gr l.ms) l.ms))
