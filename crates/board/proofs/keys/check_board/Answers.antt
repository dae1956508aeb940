-- `check_board` meets its contract: of the two stages the first that refuses decides.
use mathlib.Core.Path.{◌≡◌, ◌∙◌}
use Rattle.std.proofs.Common.{rules}
use Rattle.std.specs.Prelude.{Err}
use Rattle.words.specs.Checks.{outcome}
use Rattle.words.proofs.Stages.{stage-met, stage-refused, rest-outcome}
use Rattle.board.specs.Board.{form_checks, board_key_checks, board_checks}
use Rattle.board.proofs.Order.{sorted}
use Rattle.board.proofs.keys.check_board.Goals as goal

pub returns-in_err-check_form : goal.returns-in_err-check_form
unfolding board_checks
returns-in_err-check_form c =
    let a = c.args in
    let h : Err c.in_err-check_form.field-0.0 ≡ outcome (board_checks a.s a.b.now) (tt {0}) =
    stage-refused (form_checks a.s a.b.now) _ c.in_err-check_form.ensures _ in
    search rules

pub check_board_keys-requires : goal.check_board_keys-requires
check_board_keys-requires c =
    let s = c.args.s in
    let b = c.args.b.now in
    (c.requires, sorted s b (stage-met (form_checks s b) c.in_ok-check_form.ensures))

pub returns : goal.returns
unfolding board_checks
returns c =
    let s = c.args.s in
    let b = c.args.b.now in
    c.check_board_keys.ensures
    ∙ rest-outcome (form_checks s b) (board_key_checks s b) (stage-met (form_checks s b) c.in_ok-check_form.ensures) tt
