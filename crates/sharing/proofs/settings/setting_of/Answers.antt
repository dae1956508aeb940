-- `settings::setting_of` meets its contract: what refuses the table is handed on, and else the round's figures decide.
use mathlib.Core.Path.{◌≡◌, ◌∙◌}
use Rattle.std.proofs.Common.{rules}
use Rattle.std.specs.Prelude.{Err}
use Rattle.words.proofs.Stages.{stage-met, stage-refused}
use Rattle.group.specs.Table.{table_checks}
use Rattle.sharing.specs.Setting.{round_checks, setting_outcome}
use Rattle.sharing.proofs.Rounds.{figures-setting}
use Rattle.sharing.proofs.settings.setting_of.Goals as goal

pub returns-in_err-check_table : goal.returns-in_err-check_table
unfolding setting_outcome round_checks
returns-in_err-check_table c =
    let a = c.args in
    let h : Err c.in_err-check_table.field-0.0 ≡ setting_outcome a.table.now a.rd = stage-refused (table_checks a.table.now) _ c.in_err-check_table.ensures _ in
    search rules

pub returns : goal.returns
returns c =
    let a = c.args in
    c.setting_in.ensures ∙ figures-setting a.table.now a.rd (stage-met (table_checks a.table.now) c.in_ok-check_table.ensures)
