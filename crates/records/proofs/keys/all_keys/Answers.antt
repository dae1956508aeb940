-- `keys::all_keys` meets its contract: the chain tests each number.
use Rattle.std.proofs.Common.{rules, tests}
use Rattle.std.proofs.lemmas.Iterator.{YieldsList-from_slice}
use Rattle.words.proofs.Chains.{all-from_chain}
use Rattle.records.specs.Keys.{is_key}
use Rattle.records.proofs.keys.all_keys.Goals as goal

pub returns : goal.returns
returns c =
    all-from_chain (is_key c.args.gr) _ _ _ c.all.ensures.ran (YieldsList-from_slice c.args.ys.now cc) (λ x b q k. search (rules, tests))
