-- `all_verdicts` meets its contract. The loop's invariant: what is held is what the dealers above d give.
use Rattle.verdicts.specs.Shares.{judges}
use Rattle.verdicts.specs.Verdict.{verdict_on}
use Rattle.verdicts.proofs.Turns.{DealersAbove}
use Rattle.verdicts.proofs.judge.all_verdicts.Given as goal

abbrev pub invariant-loop-d : goal.invariant-loop-d
invariant-loop-d l = DealersAbove (verdict_on judges l.s l.b) l.s.group.p l.s.n l.d l.verdicts l.accepted l.stuck l.product.0
