-- `own_check_passes` meets its contract: the first n commitments are the entries, and the polynomial stands in front of its array.
use mathlib.Core.Path.{◌∙◌}
use Prim.Native.Nat.{◌≤◌}
use native.Mathlib.Omega.{arith}
use lib.Dec.{eqb}
use lib.ListN.{length}
use Rattle.words.proofs.Lists.{filled-front}
use Rattle.sharing.specs.Answer.{degree_product}
use Rattle.sharing.proofs.EachMember.{entries-front}
use Rattle.challenge.proofs.Challenges.{check-polynomial}
use Rattle.dealing.proofs.judge.own_check_passes.Goals as goal

pub returns : goal.returns
returns c =
    let a = c.args in
    let few : a.s.n ≤ length a.vs = omega (arith, c.requires.0.n-most) in
    let own = filled-front 31 _ _ (check-polynomial a.s c.requires.0 a.d _ _).size c.check_polynomial-ds.ensures in
    c.degree_passes.ensures ∙ (λ j. eqb (degree_product a.s (entries-front a.vs a.s.n few j) (own j)) 1)
