-- `judge_in` meets its contract: a refusal before the figures is handed on, and else the figures decide.
use mathlib.Core.Path.{◌≡◌, ap, ◌∙◌}
use Rattle.std.proofs.Common.{rules}
use Rattle.std.specs.Prelude.{Err}
use Rattle.words.proofs.Stages.{stage-refused}
use Rattle.words.specs.declared.Record.{Record}
use Rattle.share.specs.Share.{share_admission_checks, share_figure_checks, judge_share_figures_in, judge_share_in}
use Rattle.share.proofs.Settled.{dealer-most, admission-none}
use Rattle.share.proofs.Shares.{figures-decide}
use Rattle.share.proofs.judge.judge_in.Goals as goal

pub returns-in_err-check_admission : goal.returns-in_err-check_admission
unfolding judge_share_in
returns-in_err-check_admission c =
    let a = c.args in
    let h : Err c.in_err-check_admission.field-0.0 ≡ judge_share_in a.s a.e.form a.e.member a.y.0 a.e.encrypted.0 a.b.now =
    stage-refused (share_admission_checks _ _ _ _ _ _) (share_figure_checks _ _ _ _ _ _) c.in_err-check_admission.ensures _ in
    search rules

pub read_record-requires : goal.read_record-requires
read_record-requires c = (admission-none _ _ _ _ _ _ c.in_ok-check_admission.ensures).size

pub judge_share_figures-requires : goal.judge_share_figures-requires
judge_share_figures-requires c =
    let A = admission-none _ _ _ _ _ _ c.in_ok-check_admission.ensures in
    (c.requires, dealer-most _ _ A.dealer, A.member.1)

pub returns : goal.returns
returns c =
    let a = c.args in
    let A = admission-none _ _ _ _ _ _ c.in_ok-check_admission.ensures in
    c.judge_share_figures.ensures
    ∙ ap (λ (x : Record). judge_share_figures_in a.s a.e.form a.e.member a.y.0 a.e.encrypted.0 x) c.read_record.ensures
    ∙ figures-decide a.s a.e.form a.e.member a.y.0 a.e.encrypted.0 a.b.now A
