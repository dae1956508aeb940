-- `judge_chain` meets its contract: what refuses the table is handed on, and else the chain decides.
use mathlib.Core.Path.{◌≡◌, ◌∙◌}
use Rattle.std.proofs.Common.{rules}
use Rattle.std.specs.Prelude.{Err}
use Rattle.words.proofs.Stages.{stage-met, stage-refused, rest-outcome}
use Rattle.group.specs.Table.{groups_of, table_checks}
use Rattle.chain.specs.Chain.{linked_checks, chain_checks, chain_outcome}
use Rattle.chain.proofs.judge_chain.Goals as goal

pub returns-in_err-check_table : goal.returns-in_err-check_table
unfolding chain_checks chain_outcome
returns-in_err-check_table c =
    let a = c.args in
    let h : Err c.in_err-check_table.field-0.0 ≡ chain_outcome a.table.now a.b.now = stage-refused (table_checks a.table.now) _ c.in_err-check_table.ensures _ in
    search rules

pub returns : goal.returns
unfolding chain_checks chain_outcome
returns c =
    let T = c.args.table.now in
    c.check_linked.ensures
    ∙ rest-outcome (table_checks T) (linked_checks (groups_of T) c.args.b.now) (stage-met (table_checks T) c.in_ok-check_table.ensures) tt
