-- `members::all_members` meets its contract: the chain tests each number.
use Rattle.std.proofs.Common.{rules, tests}
use Rattle.std.proofs.lemmas.Iterator.{YieldsList-from_slice}
use Rattle.words.proofs.Chains.{all-from_chain}
use Rattle.sharing.specs.Setting.{is_member}
use Rattle.sharing.proofs.members.all_members.Goals as goal

pub returns : goal.returns
returns c =
    all-from_chain (is_member c.args.n) _ _ _ c.all.ensures.ran (YieldsList-from_slice c.args.ms.now cc) (λ x b q k. search (rules, tests))
