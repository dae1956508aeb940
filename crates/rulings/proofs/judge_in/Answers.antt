-- `judge_in` meets its contract: what refuses the board is handed on, else the verdicts of all dealers decide.
use mathlib.Core.Path.{◌≡◌, sym, subst}
use Rattle.std.proofs.Common.{rules}
use Rattle.std.specs.Prelude.{Err}
use Rattle.words.proofs.Stages.{stage-first, stage-met}
use Rattle.board.specs.Board.{board_checks}
use Rattle.verdicts.specs.Shares.{judges}
use Rattle.rulings.specs.Ruling.{JudgedIn}
use Rattle.rulings.proofs.judge_in.Goals as goal

pub returns-in_err-check_board : goal.returns-in_err-check_board
returns-in_err-check_board c =
    let a = c.args in
    let e : c.from_residual.result ≡ Err c.in_err-check_board.field-0.0 = search rules in
    subst (JudgedIn judges a.s a.board.now) (sym e) (stage-first (board_checks a.s a.board.now) c.in_err-check_board.ensures)

pub all_verdicts-requires : goal.all_verdicts-requires
all_verdicts-requires c =
    let a = c.args in
    (c.requires, stage-met (board_checks a.s a.board.now) c.in_ok-check_board.ensures)

pub returns : goal.returns
returns c =
    let a = c.args in
    (stage-met (board_checks a.s a.board.now) c.in_ok-check_board.ensures, c.all_verdicts.ensures)
