-- `membership::all_exponents` meets its contract: the chain tests each number.
use Rattle.std.proofs.Common.{rules, tests}
use Rattle.std.proofs.lemmas.Iterator.{YieldsList-from_slice}
use Rattle.words.proofs.Chains.{all-from_chain}
use Rattle.group.specs.Element.{is_exponent}
use Rattle.group.proofs.membership.all_exponents.Goals as goal

pub returns : goal.returns
returns c =
    all-from_chain (is_exponent c.args.gr) _ _ _ c.all.ensures.ran (YieldsList-from_slice c.args.es.now cc) (λ x b q k. search (rules, tests))
