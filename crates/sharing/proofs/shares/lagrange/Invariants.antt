-- `shares::lagrange` meets its contract. The loop's invariant: numbers and gaps are the products of j and of j - i over the other members j
-- that came so far, the last of them first.
use mathlib.Core.Path.{◌≡◌}
use mathlib.Core.List.{reverse, map}
use Rattle.field.specs.Residue.{sub}
use Rattle.sharing.specs.Weights.{product_over}
use Rattle.sharing.proofs.shares.lagrange.Given as goal

abbrev pub invariant-loop-j : goal.invariant-loop-j
invariant-loop-j l =
    let behind = reverse (map (λ j. j.now) l.yielded) in
    (l.numbers.0 ≡ product_over l.gr.q (λ j. j) l.i behind) × (l.gaps.0 ≡ product_over l.gr.q (λ j. sub l.gr.q j l.i) l.i behind)
