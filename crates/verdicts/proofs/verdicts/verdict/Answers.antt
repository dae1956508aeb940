-- `verdict` meets its contract: the number of his lines decides, and then the judge's answer on their figures.
use mathlib.Core.Path.{sym, ◌∙◌}
use Rattle.dealing.proofs.Settled.{FormedDealing}
use Rattle.board.proofs.Order.{reached, sorted}
use Rattle.verdicts.proofs.VerdictAnswers.{lines_formed, judge_refuses}
use Rattle.verdicts.proofs.verdicts.verdict.Goals as goal

pub lines_of-lines-requires : goal.lines_of-lines-requires
lines_of-lines-requires c = sorted c.args.s c.args.b.now (reached c.args.s c.args.b.now c.requires.1).form

pub judge_lines-answer-requires : goal.judge_lines-answer-requires
judge_lines-answer-requires c =
    let a = c.args in
    let F : FormedDealing a.s a.d a.ys.now c.lines_of-lines.result.now =
    lines_formed a.s a.b.now a.d c.requires.0 c.requires.1 c.lines_of-lines.ensures.result_value c.record_count-count.ensures c.if-count-eq0.false c.if-count-s.false c.requires.2 in
    (c.requires.0, F.dealer.1, F.keys-size, F.size)

pub returns-in-Err : goal.returns-in-Err
returns-in-Err c =
    judge_refuses c.args.s c.args.b.now c.args.d c.requires.0 c.requires.1 c.lines_of-lines.ensures.result_value c.record_count-count.ensures c.if-count-eq0.false c.if-count-s.false c.requires.2 (sym c.in-Err.is ∙ c.judge_lines-answer.ensures.answer_value)
