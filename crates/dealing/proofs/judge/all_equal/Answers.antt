-- `all_equal` meets its contract: the first n challenges are those of the members.
use mathlib.Core.Path.{◌∙◌}
use borrow.Author.Rules.{rules}
use lib.Dec.{eqb}
use lib.ListN.{take}
use native.Mathlib.Omega.{arith}
use Rattle.std.proofs.lemmas.Iterator.{YieldsList-from_slice}
use Rattle.words.proofs.Chains.{all-from_chain}
use Rattle.sharing.proofs.EachMember.{entries_all}
use Rattle.dealing.proofs.judge.all_equal.Goals as goal

pub returns : goal.returns
returns c =
    let a = c.args in
    all-from_chain (λ x. eqb x a.c.0) _ _ c.all.result c.all.ensures.ran (YieldsList-from_slice (take a.n a.cs) c.iter.ensures.rest) (λ x t f k. search rules)
    ∙ entries_all (λ x. eqb x a.c.0) a.cs a.n (omega arith)
