-- `put_digits` meets its contract: the last digit is written behind the others.
use native.Mathlib.Omega.{arith}
use Rattle.text.proofs.Decimals.{one-room, one-digit, others-room, last-room, last-digit}
use Rattle.text.proofs.buffer.+put_digits.Goals as goal

pub bounds-out-at : goal.bounds-out-at
bounds-out-at t c = one-room c.if-v-lt10.true c.requires

pub returns-then-v-lt10 : goal.returns-then-v-lt10
returns-then-v-lt10 t c = one-digit c.if-v-lt10.true c.requires

pub put_digits-last-requires : goal.put_digits-last-requires
put_digits-last-requires t c = (omega arith, others-room c.if-v-lt10.false (omega arith) c.requires)

pub bounds-out-last : goal.bounds-out-last
bounds-out-last t c = last-room c.if-v-lt10.false (omega arith) c.requires c.put_digits-last.ensures

pub overflow_add-result-2 : goal.overflow_add-result-2
overflow_add-result-2 t c = omega (arith, last-room c.if-v-lt10.false (omega arith) c.requires c.put_digits-last.ensures)

pub returns : goal.returns
returns t c = last-digit c.if-v-lt10.false (omega arith) c.requires c.put_digits-last.ensures
