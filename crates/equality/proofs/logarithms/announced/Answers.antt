-- `announced` meets its contract: a product of two powers.
use mathlib.Core.Path.{◌∙◌}
use Rattle.field.specs.Residue.{mul}
use Rattle.equality.specs.Equality.{announced}
use Rattle.equality.proofs.logarithms.announced.Goals as goal

pub returns : goal.returns
unfolding announced
returns c = c.times.ensures ∙ (λ j. mul c.args.gr.p (c.power.ensures j) (c.power-2.ensures j))
