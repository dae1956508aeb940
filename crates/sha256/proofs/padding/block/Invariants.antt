-- `block` gives the words of a block. Invariant: its first j words are those of the definition.
use Rattle.std.proofs.Common.{◌≡◌, length, take}
use Rattle.sha256.specs.Padding.{pad, block}
use Rattle.sha256.proofs.padding.block.Given as goal

abbrev pub invariant-loop-j : goal.invariant-loop-j
invariant-loop-j l = (length l.m ≡ 16) × (take l.j l.m ≡ take l.j (block (pad l.s) l.i))
