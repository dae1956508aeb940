-- `response` meets its contract: the challenge times the exponent is taken from the nonce.
use mathlib.Core.Path.{ap, ◌∙◌}
use Prim.Native.Nat.{ℕ}
use native.Mathlib.Omega.{arith}
use Rattle.field.specs.Residue.{sub}
use Rattle.field.proofs.Modular.{mul-below}
use Rattle.equality.specs.Equality.{response}
use Rattle.equality.proofs.logarithms.response.Goals as goal

pub minus-requires : goal.minus-requires
minus-requires c =
    let a = c.args in
    (c.requires, rw c.times.ensures (mul-below a.gr.q a.c.0 a.e.0 (omega arith)))

pub returns : goal.returns
unfolding response
returns c =
    let a = c.args in
    c.minus.ensures ∙ ap (λ (x : ℕ). sub a.gr.q a.w.0 x) c.times.ensures
