-- `weights::weight` meets its contract: the product that it inverts is not 0, since the members are below q.
use mathlib.Core.Path.{◌≡◌, ap, ◌∙◌}
use mathlib.Core.List.{List}
use Prim.Native.Nat.{ℕ}
use Rattle.field.specs.Residue.{mul, inv}
use Rattle.field.specs.Polynomial.{value_at}
use Rattle.sharing.specs.Weights.{gaps_at, weight_at}
use Rattle.sharing.specs.declared.Setting.{Setting}
use Rattle.sharing.proofs.Products.{gaps-nonzero}
use Rattle.sharing.proofs.weights.weight.Goals as goal

pub inverse-requires : goal.inverse-requires
inverse-requires c =
    let a = c.args in
    let P = c.requires in
    let u = gaps-nonzero a.s P.0.proper.prime-q a.i P.0.n-below P.1 in
    (P.0.proper.prime-q, rw c.gaps.ensures u.0, rw c.gaps.ensures u.1)

-- the weight from the results of the calls
weight-of-results : (S : Setting) (ds : List ℕ) (i : ℕ) {a b v r : ℕ}
    → a ≡ gaps_at S i → b ≡ inv S.group.q a → v ≡ value_at S.group.q ds i → r ≡ mul S.group.q b v → r ≡ weight_at S ds i
unfolding weight_at
weight-of-results S ds i a b v r = r ∙ (λ j. mul S.group.q ((b ∙ ap (inv S.group.q) a) j) (v j))

pub returns : goal.returns
returns c = weight-of-results _ _ _ c.gaps.ensures c.inverse.ensures c.value_at.ensures c.times.ensures
