-- `field::sub` meets its contract: the difference, or m less what b is above a by.
use mathlib.Core.Path.{sym}
use Rattle.field.proofs.Modular.{sub-lt, sub-ge}
use Rattle.field.proofs.sub.Goals as goal

pub returns-then-a-b : goal.returns-then-a-b
returns-then-a-b c = sym (sub-lt _ _ _ c.requires.0 c.requires.1 c.if-a-b.true)

pub returns-else-a-b : goal.returns-else-a-b
returns-else-a-b c = sym (sub-ge _ _ _ c.requires.0 c.requires.1 c.if-a-b.false)
