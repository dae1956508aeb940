-- `check_polynomial` meets its contract. The loop's invariant: the array holds the first k coefficients, and 0 behind; and the buffer
-- holds the message of the last of them, at the start that of the coefficient 0.
use mathlib.Core.Path.{◌≡◌, refl, ap, ◌∙◌}
use Prim.Native.Nat.{◌+◌, ◌-◌, ◌*◌}
use native.Mathlib.Omega.{arith}
use Rattle.words.specs.Lists.{entry}
use Rattle.words.proofs.Lists.{filled_none, run-next}
use Rattle.challenge.specs.Message.{challenge_of, coefficient_message, check_polynomial}
use Rattle.challenge.proofs.Buffers.{coefficient-put, coefficient-next}
use Rattle.challenge.proofs.message.check_polynomial.Goals as goal
use Rattle.challenge.proofs.message.check_polynomial.Invariants.{coefficient_of}

pub loop-k-init : goal.loop-k-init
loop-k-init c =
    let m = c.coefficient_message-at.ensures in
    (coefficient-put _ _ _ _ 0 0 m.1 _ _ m.2 refl (omega arith), filled_none 31)

pub loop-k-preserved : goal.loop-k-preserved
loop-k-preserved c =
    let l = c.loop-k in
    let a = c.args in
    let at = c.coefficient_message-at in
    let v = entry a.vs.now in
    let Y = entry a.encrypted.now in
    let f = coefficient_of a.s a.d v Y in
    let e : l.k ≡ 0 + l.k = omega arith in
    let b : l.k ≡ l.k + 1 - 1 = omega arith in
    let p = coefficient-next a.s a.d v Y (l.k - 1) l.k at.ensures.1 (at.result + 1 + 8 * a.s.n) l.m (omega arith) l.invariant.0 in (
      p ∙ ap (coefficient_message a.s a.d v Y) b,
      run-next f 31 0 l.k l.invariant.1 (omega arith) (c.challenge.ensures ∙ ap (challenge_of a.s) p ∙ ap f e),
    )

pub returns : goal.returns
unfolding check_polynomial
returns c =
    let l = c.loop-k in
    let end : l.k ≡ c.args.s.n - c.args.s.t = omega arith in
    rw end at l.invariant.1
