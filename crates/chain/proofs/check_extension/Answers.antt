-- `check_extension` meets its contract: what refuses the chain is handed on, and else what is asked beside it decides.
use mathlib.Core.Path.{◌≡◌}
use Rattle.std.proofs.Common.{rules}
use Rattle.std.specs.Prelude.{Err}
use Rattle.words.specs.Checks.{outcome}
use Rattle.words.proofs.Stages.{stage-refused}
use Rattle.chain.specs.Chain.{chain_checks, chain_outcome, extend_checks}
use Rattle.chain.proofs.check_extension.Goals as goal

pub returns-in_err-judge_chain : goal.returns-in_err-judge_chain
unfolding chain_outcome extend_checks
returns-in_err-judge_chain c =
    let a = c.args in
    let h : Err c.in_err-judge_chain.field-0.0 ≡ outcome (extend_checks a.table.now a.b.now a.number a.value.0 a.room) (tt {0}) = stage-refused (chain_checks a.table.now a.b.now) _ c.in_err-judge_chain.ensures _ in
    search rules
