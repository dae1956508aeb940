-- `power_in` meets its contract: each test that fails decides.
use mathlib.Core.Path.{sym, ap, ◌∙◌}
use Prim.Native.Nat.{ℕ}
use native.Mathlib.Omega.{arith}
use borrow.Author.Tests.{not-true, not-false}
use Rattle.group.specs.Answer.{power_in}
use Rattle.group.proofs.Elements.{element-true}
use Rattle.group.proofs.power_in.Goals as goal
use Rattle.std.specs.Prelude.{Ok}

pub returns-then-not-is_element : goal.returns-then-not-is_element
unfolding power_in
returns-then-not-is_element c = simp (← c.is_element.ensures, not-true c.is_element.result c.if-not-is_element.true-raw)

pub returns-then-not-is_exponent : goal.returns-then-not-is_exponent
unfolding power_in
returns-then-not-is_exponent c =
    simp
    (← c.is_element.ensures, not-false c.is_element.result c.if-not-is_element.false-raw, ← c.is_exponent.ensures, not-true c.is_exponent.result c.if-not-is_exponent.true-raw)

pub power-requires : goal.power-requires
power-requires c =
    omega (arith, element-true _ _ (sym c.is_element.ensures ∙ not-false c.is_element.result c.if-not-is_element.false-raw))

pub returns : goal.returns
unfolding power_in
returns c =
    ap (λ (x : ℕ). Ok (record { 0 = x })) c.power.ensures
    ∙ simp
    (← c.is_element.ensures, not-false c.is_element.result c.if-not-is_element.false-raw, ← c.is_exponent.ensures, not-false c.is_exponent.result c.if-not-is_exponent.false-raw)
