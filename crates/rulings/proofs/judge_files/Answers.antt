-- `judge_files` meets its contract: what refuses the files or the board is handed on, else the setting and the judgement are answered.
use mathlib.Core.Path.{◌≡◌, sym, subst}
use Rattle.std.proofs.Common.{rules}
use Rattle.std.specs.Prelude.{Err}
use Rattle.verdicts.specs.Shares.{judges}
use Rattle.rulings.specs.Ruling.{JudgedIn, RulingOf}
use Rattle.rulings.proofs.Settings.{files-proper}
use Rattle.rulings.proofs.Rulings.{files-refused, board-refused, ruled}
use Rattle.rulings.proofs.judge_files.Goals as goal

pub returns-in_err-setting : goal.returns-in_err-setting
returns-in_err-setting c =
    let a = c.args in
    let e : c.from_residual.result ≡ Err c.in_err-setting.field-0.0 = search rules in
    subst (RulingOf judges a.table.now a.set.now a.board.now) (sym e)
    (files-refused judges a.table.now a.set.now a.board.now c.files_setting.ensures c.in_err-setting.was)

pub judge_in-requires : goal.judge_in-requires
judge_in-requires c = files-proper _ _ c.files_setting.ensures c.in_ok-setting.was

pub returns-in_err-judgement : goal.returns-in_err-judgement
returns-in_err-judgement c =
    let a = c.args in
    let e : c.from_residual-in_err-judgement.result ≡ Err c.in_err-judgement.field-0.0 = search rules in
    subst (RulingOf judges a.table.now a.set.now a.board.now) (sym e)
    (board-refused judges a.table.now a.set.now a.board.now c.files_setting.ensures c.in_ok-setting.was c.in_err-judgement.field-0.0
    (subst (JudgedIn judges c.in_ok-setting.setting a.board.now) c.in_err-judgement.was c.judge_in.ensures))

pub returns : goal.returns
returns c =
    let a = c.args in
    ruled judges a.table.now a.set.now a.board.now c.files_setting.ensures c.in_ok-setting.was
    (subst (JudgedIn judges c.in_ok-setting.setting a.board.now) c.in_ok-judgement.was c.judge_in.ensures)
