-- `tadlovimpe_power` meets its contract: the operation's answer as figures.
use mathlib.Core.Path.{ap, ◌∙◌}
use Rattle.tadlovimpe.specs.Figures.{answer_of}
use Rattle.tadlovimpe.proofs.arithmetic.tadlovimpe_power.Goals as goal

pub returns : goal.returns
returns c = c.from.ensures ∙ ap answer_of c.power.ensures
