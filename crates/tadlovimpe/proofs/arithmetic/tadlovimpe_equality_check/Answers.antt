-- `tadlovimpe_equality_check` meets its contract: the operation's answer as figures.
use mathlib.Core.Path.{ap, ◌∙◌}
use Rattle.equality.specs.Equality.{equality_outcome}
use Rattle.tadlovimpe.specs.Figures.{number_of}
use Rattle.tadlovimpe.proofs.arithmetic.tadlovimpe_equality_check.Goals as goal

pub returns : goal.returns
returns c =
    c.number_of.ensures ∙ ap number_of (c.equality_check.ensures ∙ ap (equality_outcome c.args.table.now c.args.group) c.from.ensures)
