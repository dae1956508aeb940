-- `tadlovimpe_judge_added` meets its contract: the operation's answer as figures.
use mathlib.Core.Path.{ap, ◌∙◌}
use Rattle.tadlovimpe.specs.Figures.{answer_of}
use Rattle.tadlovimpe.proofs.posted.tadlovimpe_judge_added.Goals as goal

pub returns : goal.returns
returns c = c.from.ensures ∙ ap answer_of c.judge_added.ensures
