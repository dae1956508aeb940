-- `judge_board` meets its contract: what refuses the round is handed on, else what is judged in its setting.
use mathlib.Core.Path.{◌≡◌, sym, subst}
use Rattle.std.proofs.Common.{rules}
use Rattle.std.specs.Prelude.{Err}
use Rattle.sharing.proofs.Rounds.{setting-proper}
use Rattle.verdicts.specs.Shares.{judges}
use Rattle.rulings.specs.Ruling.{JudgementOf}
use Rattle.rulings.proofs.Reached.{round-refused, judged-round}
use Rattle.rulings.proofs.judge_board.Goals as goal

pub returns-in_err-s : goal.returns-in_err-s
returns-in_err-s c =
    let a = c.args in
    let e : c.from_residual.result ≡ Err c.in_err-s.field-0.0 = search rules in
    subst (JudgementOf judges a.table.now a.rd a.board.now) (sym e)
    (round-refused judges a.table.now a.rd a.board.now c.setting_of.ensures c.in_err-s.was)

pub judge_in-requires : goal.judge_in-requires
judge_in-requires c = setting-proper _ _ c.setting_of.ensures c.in_ok-s.was

pub returns : goal.returns
returns c =
    let a = c.args in
    judged-round judges a.table.now a.rd a.board.now c.setting_of.ensures c.in_ok-s.was c.judge_in.result c.judge_in.ensures
