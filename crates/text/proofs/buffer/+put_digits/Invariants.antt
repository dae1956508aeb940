-- `put_digits` calls itself on a smaller number.
use Rattle.text.proofs.buffer.+put_digits.Given as goal

-- the number
abbrev pub decreases-put_digits : goal.decreases-put_digits
decreases-put_digits l = l.v
