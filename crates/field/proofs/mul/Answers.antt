-- `field::mul` meets its contract: the definition is what is worked out in 64 bits.
use mathlib.Core.Path.{refl}
use Rattle.field.specs.Residue.{mul}
use Rattle.field.proofs.mul.Goals as goal

pub returns : goal.returns
unfolding mul
returns c = refl
