-- `raise` meets its contract: the power is the square of the power at half of the exponent, times b where it is odd.
use mathlib.Core.Path.{sym, ap, ◌∙◌}
use Prim.Native.Nat.{ℕ}
use Rattle.field.specs.Residue.{mul}
use Rattle.group.specs.Power.{pow}
use Rattle.group.proofs.Powers.{pow-none, pow_even, pow-odd}
use Rattle.group.proofs.arithmetic.+raise.Goals as goal

pub returns-then-n-eq0 : goal.returns-then-n-eq0
returns-then-n-eq0 t c = sym (ap (pow _ _) c.if-n-eq0.true ∙ pow-none _ _ c.requires)

pub returns-then-n-eq0-2 : goal.returns-then-n-eq0-2
returns-then-n-eq0-2 t c =
    c.mul-square.ensures
    ∙ ap (λ (x : ℕ). mul c.args.p x x) c.raise-half.ensures
    ∙ pow_even c.args.p _ _ c.if-n-eq0-2.true

pub returns : goal.returns
returns t c =
    let a = c.args in
    c.mul.ensures
    ∙ ap (λ (x : ℕ). mul a.p x a.b.0) c.mul-square.ensures
    ∙ ap (λ (x : ℕ). mul a.p (mul a.p x x) a.b.0) c.raise-half.ensures
    ∙ pow-odd a.p a.b.0 a.e.0 c.if-n-eq0-2.false
