-- `judge_dealing_in` meets its contract: the form decides where it refuses, and else the figures.
use mathlib.Core.Path.{◌≡◌, ◌∙◌}
use Rattle.std.proofs.Common.{rules}
use Rattle.std.specs.Prelude.{Err}
use Rattle.words.proofs.Stages.{stage-met, stage-refused}
use Rattle.dealing.specs.Dealing.{dealing_form_checks, line_figure_checks, judge_dealing_in}
use Rattle.dealing.proofs.Settled.{met-formed}
use Rattle.dealing.proofs.Judged.{figures-decide}
use Rattle.dealing.proofs.judge.judge_dealing_in.Goals as goal

pub returns-in_err-check_form : goal.returns-in_err-check_form
unfolding judge_dealing_in
returns-in_err-check_form c =
    let a = c.args in
    let h : Err c.in_err-check_form.field-0.0 ≡ judge_dealing_in a.s a.d a.ys.now a.lines.now =
    stage-refused (dealing_form_checks _ _ _ _) (line_figure_checks _ _ _ _) c.in_err-check_form.ensures tt in
    search rules

pub judge_lines-requires : goal.judge_lines-requires
judge_lines-requires c =
    let a = c.args in
    let F = met-formed a.s a.d a.ys.now a.lines.now (stage-met (dealing_form_checks _ _ _ _) c.in_ok-check_form.ensures) in
    (c.requires, F.dealer.1, F.keys-size, F.size)

pub returns : goal.returns
returns c =
    let a = c.args in
    let F = met-formed a.s a.d a.ys.now a.lines.now (stage-met (dealing_form_checks _ _ _ _) c.in_ok-check_form.ensures) in
    c.judge_lines.ensures.answer_value ∙ figures-decide _ _ _ _ F
