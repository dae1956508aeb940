-- `padded_byte` gives a byte of the message, the byte 128 or a zero, by where it stands.
use Rattle.std.proofs.Common.{sym, arith}
use Rattle.sha256.proofs.Padded.{pad-in, pad-end, pad-zero}
use Rattle.sha256.proofs.padding.padded_byte.Goals as goal

pub returns-then-i-s : goal.returns-then-i-s
returns-then-i-s c = sym (pad-in _ _ c.if-i-s.true)

pub returns-then-i-s-2 : goal.returns-then-i-s-2
returns-then-i-s-2 c = rw c.if-i-s-2.true (sym (pad-end _))

pub returns-else-i-s-2 : goal.returns-else-i-s-2
returns-else-i-s-2 c = sym (pad-zero _ c.requires.0 _ (omega arith) c.requires.1)
