-- `head` meets its contract: the figures of a proper setting are bytes, and four of them, the round's number and a store put the head.
use native.Mathlib.Omega.{arith}
use Rattle.challenge.proofs.Buffers.{round-length, head-length, head-put}
use Rattle.challenge.proofs.message.head.Goals as goal

pub bounds-m-at : goal.bounds-m-at
bounds-m-at c = omega (arith, round-length c.args.s.round)

pub overflow_add-result : goal.overflow_add-result
overflow_add-result c = record { fits = omega (arith, round-length c.args.s.round) }

pub returns : goal.returns
returns c =
    let p = c.put_round-at.ensures in
    let a = c.args in (
      omega (arith, round-length a.s.round),
      omega (arith, head-length a.tag a.s a.d),
      head-put a.tag a.s a.d a.m.now c.requires.2 c.copy_from_slice.ensures.after p.0 p.1 (omega (arith, round-length a.s.round)),
    )
