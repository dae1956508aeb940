-- `tadlovimpe_write_share` meets its contract: the operation's answer as a number, and the lent bytes as the operation leaves them.
use mathlib.Core.Path.{ap, ◌∙◌}
use Rattle.tadlovimpe.specs.Figures.{number_of}
use Rattle.tadlovimpe.proofs.posted.tadlovimpe_write_share.Goals as goal

pub returns : goal.returns
returns c =
    let w = c.write_share.ensures in
    record { value = c.number_of.ensures ∙ ap number_of w.result_value; out_after = w.out_after }
