-- `tadlovimpe_judge_board` meets its contract: what judge_board answers, as figures.
use mathlib.Core.Path.{ap, ◌∙◌, subst}
use Rattle.std.specs.Prelude.{Ok, Err}
use Rattle.words.specs.Lists.{map}
use Rattle.words.specs.Checks.{Outcome}
use Rattle.group.specs.declared.Element.{Element}
use Rattle.verdicts.specs.Shares.{judges}
use Rattle.rulings.specs.Ruling.{JudgementOf}
use Rattle.rulings.proofs.Theorems.{judgement-exactly}
use Rattle.tadlovimpe.specs.Figures.{answer_of, verdict_of}
use Rattle.tadlovimpe.specs.declared.Answer.{Answer}
use Rattle.tadlovimpe.proofs.boards.tadlovimpe_judge_board.Goals as goal

pub returns-in-Err : goal.returns-in-Err
returns-in-Err c =
    let a = c.args in
    let T = a.table.now in
    let b = a.board.now in
    let j = judgement-exactly judges T a.round b (Err c.in-Err.refusal) (subst (JudgementOf judges T a.round b) c.in-Err.is c.judge_board.ensures) in
    let k = c.from.ensures ∙ ap (λ (x : Outcome Element). (answer_of x).refusal) j.draw in
    let v = ap (λ (x : Outcome Element). (answer_of x).value) j.draw in
    let vs = ap (map verdict_of) j.verdicts in
    λ i. record { refusal = k i; value = v i; accepted = j.accepted i; verdicts = vs i }

pub returns-in-Ok : goal.returns-in-Ok
returns-in-Ok c =
    let a = c.args in
    let T = a.table.now in
    let b = a.board.now in
    let j = judgement-exactly judges T a.round b (Ok c.in-Ok.judged) (subst (JudgementOf judges T a.round b) c.in-Ok.is c.judge_board.ensures) in
    let d = c.from-draw.ensures ∙ ap answer_of j.draw in
    let k = ap (λ (x : Answer). x.refusal) d in
    let v = ap (λ (x : Answer). x.value) d in
    let vs = c.verdicts_of.ensures ∙ ap (map verdict_of) j.verdicts in
    λ i. record { refusal = k i; value = v i; accepted = j.accepted i; verdicts = vs i }
