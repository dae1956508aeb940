-- The exponent falls at each call of `raise`.
use Rattle.group.proofs.arithmetic.+raise.Given as goal

abbrev pub decreases-raise : goal.decreases-raise
decreases-raise l = l.e.0
