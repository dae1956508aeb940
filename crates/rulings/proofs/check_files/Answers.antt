-- `check_files` meets its contract: what refuses the table is handed on, and else the set decides.
use mathlib.Core.Path.{◌≡◌, ◌∙◌}
use Rattle.std.proofs.Common.{rules}
use Rattle.std.specs.Prelude.{Err}
use Rattle.words.specs.Checks.{outcome}
use Rattle.words.proofs.Stages.{stage-met, stage-refused, rest-outcome}
use Rattle.group.specs.Table.{table_checks}
use Rattle.rulings.specs.Files.{set_checks, file_checks}
use Rattle.rulings.proofs.check_files.Goals as goal

pub returns-in_err-check_table : goal.returns-in_err-check_table
returns-in_err-check_table c =
    let a = c.args in
    let h : Err c.in_err-check_table.field-0.0 ≡ outcome (file_checks a.table.now a.set.now) (tt {0}) =
    stage-refused (table_checks a.table.now) _ c.in_err-check_table.ensures tt in
    search rules

pub returns : goal.returns
returns c =
    let a = c.args in
    c.check_set.ensures ∙ rest-outcome (table_checks a.table.now) (set_checks a.set.now) (stage-met (table_checks a.table.now) c.in_ok-check_table.ensures) tt
