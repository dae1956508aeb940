-- `tadlovimpe_lines_check` meets its contract: the operation's answer as figures.
use mathlib.Core.Path.{ap, ◌∙◌}
use Rattle.tadlovimpe.specs.Figures.{number_of}
use Rattle.tadlovimpe.proofs.boards.tadlovimpe_lines_check.Goals as goal

pub returns : goal.returns
returns c = c.number_of.ensures ∙ ap number_of c.lines_check.ensures
