-- `put_figure` meets its contract: the digits are written behind the space.
use native.Mathlib.Omega.{arith}
use Rattle.text.proofs.Decimals.{space-room, digits-room, figure-written}
use Rattle.text.proofs.buffer.put_figure.Goals as goal

pub bounds-out-at : goal.bounds-out-at
bounds-out-at c = space-room _ _ _ c.requires

pub overflow_add-at : goal.overflow_add-at
overflow_add-at c = omega (arith, space-room _ _ _ c.requires)

pub put_digits-requires : goal.put_digits-requires
put_digits-requires c = digits-room _ _ _ c.requires

pub returns : goal.returns
returns c = figure-written _ _ _ c.requires c.put_digits.ensures
