-- `files_setting` meets its contract: a refusal of the two files is handed on, else the round of the set decides.
use mathlib.Core.Path.{◌≡◌, ap, ◌∙◌}
use borrow.Author.Tests.{eqb-true}
use Rattle.std.proofs.Common.{rules}
use Rattle.std.specs.Prelude.{Err}
use Rattle.words.specs.declared.Record.{Record}
use Rattle.words.proofs.Stages.{met-both, stage-met, stage-refused}
use Rattle.group.specs.Table.{table_checks}
use Rattle.sharing.specs.Setting.{figures_outcome}
use Rattle.sharing.specs.declared.Round.{Round}
use Rattle.rulings.specs.Files.{set_checks, file_checks, files_outcome}
use Rattle.rulings.proofs.Settings.{files-passed}
use Rattle.rulings.proofs.files_setting.Goals as goal

pub returns-in_err-check_files : goal.returns-in_err-check_files
unfolding files_outcome
returns-in_err-check_files c =
    let a = c.args in
    let h : Err c.in_err-check_files.field-0.0 ≡ files_outcome a.table.now a.set.now =
    stage-refused (file_checks a.table.now a.set.now) _ c.in_err-check_files.ensures _ in
    search rules

pub read_record-r-requires : goal.read_record-r-requires
read_record-r-requires c =
    let a = c.args in
    let m = stage-met (file_checks a.table.now a.set.now) c.in_ok-check_files.ensures in
    eqb-true _ 32 (met-both (table_checks a.table.now) (set_checks a.set.now) m).1.0

-- the round of the record that is read
abbrev round_of : Record → Round
round_of r = record { group = r.w1; n = r.w2; t = r.w3; round = r.w4; first_new_round = r.w5 }

pub returns : goal.returns
returns c =
    let a = c.args in
    c.setting_in.ensures
    ∙ ap (λ (x : Record). figures_outcome a.table.now (round_of x)) c.read_record-r.ensures
    ∙ files-passed a.table.now a.set.now (stage-met (file_checks a.table.now a.set.now) c.in_ok-check_files.ensures)
