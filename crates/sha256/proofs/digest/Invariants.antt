-- `digest` refuses a message that is too long, and else absorbs its blocks.
-- Invariant: the state is the hash value after the first i blocks.
use Rattle.std.proofs.Common.{◌≡◌}
use Rattle.sha256.specs.Padding.{pad}
use Rattle.sha256.specs.Hash.{intermediate}
use Rattle.sha256.proofs.digest.Given as goal

abbrev pub invariant-loop-i : goal.invariant-loop-i
invariant-loop-i l = l.state ≡ intermediate (pad l.s) l.i
