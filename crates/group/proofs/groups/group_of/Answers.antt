-- `groups::group_of` meets its contract: what refuses the table is handed on, and else the look-up answers.
use mathlib.Core.Path.{◌≡◌, ◌∙◌}
use mathlib.Core.List.{[], ◌∷◌}
use Rattle.std.proofs.Common.{rules}
use Rattle.std.specs.Prelude.{Err}
use Rattle.words.specs.Checks.{◌unless◌}
use Rattle.words.specs.declared.refusal.Refusal.TheVariants.{UnknownGroup}
use Rattle.words.proofs.Stages.{stage-met, stage-refused, rest-outcome}
use Rattle.group.specs.Table.{groups_of, table_checks, is_group, group_of, group_checks, group_outcome}
use Rattle.group.proofs.groups.group_of.Goals as goal

pub returns-in_err-check_table : goal.returns-in_err-check_table
unfolding group_checks
returns-in_err-check_table c =
    let a = c.args in
    let h : Err c.in_err-check_table.field-0.0 ≡ group_outcome a.table.now a.number = stage-refused (table_checks a.table.now) _ c.in_err-check_table.ensures _ in
    search rules

pub returns : goal.returns
unfolding group_checks
returns c =
    let T = c.args.table.now in
    let k = c.args.number in
    c.group_in.ensures
    ∙ rest-outcome (table_checks T) (UnknownGroup unless is_group (groups_of T) k ∷ []) (stage-met (table_checks T) c.in_ok-check_table.ensures) (group_of (groups_of T) k)
