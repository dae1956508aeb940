-- What the tests of figures say, that products and powers of elements are elements, and sums and products of exponents modulo q.
use mathlib.Core.Path.{◌≡◌, sym, ap, ◌∙◌}
use mathlib.Core.Bool.{true, ◌&&◌}
use mathlib.Core.Logic.{⊎_elim}
use Prim.Native.Nat.{ℕ, zero, suc, ◌+◌, ◌*◌, ◌≤◌, ◌<◌}
use native.Mathlib.Nat.{mul_comm, mul-zero, zero-mod, eq-zero-or-pos, pow-suc}
use native.Mathlib.Omega.{arith}
use lib.Dec.{leb, ltb, eqb}
use borrow.Author.Tests.{leb-true, ltb-true, eqb-true, le-leb, lt-ltb, eq-eqb}
use Rattle.words.proofs.Tests.{and-true, true-and}
use Rattle.field.specs.Residue.{add, mul}
use Rattle.field.proofs.Modular.{mul-below, mul-one}
use Rattle.group.specs.Power.{pow}
use Rattle.group.specs.Element.{is_element, is_exponent, Proper}
use Rattle.group.specs.Claims.{GeneratorElement, PowerOfSum, PowerOfProduct, ProductElement, PowerElement}
use Rattle.group.specs.declared.Group.{Group}
use Rattle.group.proofs.Powers.{pow_below, pow-sum, pow-product, pow_multiple, pow-period, product-of-powers}

-- ---- the tests
pub record ElementFacts (G : Group) (v : ℕ) : Type 0 where
  pub positive : 1 ≤ v
  pub low : v < G.p
  pub order : pow G.p v G.q ≡ 1

module _ (G : Group) (v : ℕ) where
  pub element-true : is_element G v ≡ true → ElementFacts G v
  unfolding is_element
  element-true e =
      let a = and-true (leb 1 v) (ltb v G.p && eqb (pow G.p v G.q) 1) e in
      let b = and-true (ltb v G.p) (eqb (pow G.p v G.q) 1) a.1 in
      record { positive = leb-true 1 v a.0; low = ltb-true v G.p b.0; order = eqb-true (pow G.p v G.q) 1 b.1 }

  pub true-element : ElementFacts G v → is_element G v ≡ true
  unfolding is_element
  true-element m =
      true-and (leb 1 v) _ (le-leb 1 v m.positive)
      (true-and (ltb v G.p) _ (lt-ltb v G.p m.low) (eq-eqb (pow G.p v G.q) 1 m.order))

  pub exponent-true : is_exponent G v ≡ true → v < G.q
  unfolding is_exponent
  exponent-true e = ltb-true v G.q e

  pub true-exponent : v < G.q → is_exponent G v ≡ true
  unfolding is_exponent
  true-exponent h = lt-ltb v G.q h

-- ---- residues whose power q is 1
zero-power : (p k : ℕ) → pow p 0 (suc k) ≡ 0
unfolding pow
zero-power p k = rw (pow-suc, mul-zero, zero-mod)

-- 0 is none of them
root-positive : (p q v : ℕ) → 0 < q → pow p v q ≡ 1 → 1 ≤ v
root-positive p zero v h e = absurd (omega arith)
root-positive p (suc k) v h e =
    ⊎_elim (λ z. absurd (omega (arith, sym (zero-power p k) ∙ ap (λ (x : ℕ). pow p x (suc k)) (sym z) ∙ e))) (λ l. l) (eq-zero-or-pos v)

module _ (G : Group) (P : Proper G) where
  pub root-element : (v : ℕ) → v < G.p → pow G.p v G.q ≡ 1 → is_element G v ≡ true
  root-element v h e =
      true-element G v (record { positive = root-positive G.p G.q v (omega (arith, P.prime-q.above-one)) e; low = h; order = e })

pub generator-element : GeneratorElement
generator-element G P b B = root-element G P b B.low B.order

pub product-element : ProductElement
product-element G P v w e f =
    root-element G P (mul G.p v w) (mul-below G.p v w (omega arith))
    (product-of-powers G.p v w G.q
    ∙ (λ j. mul G.p ((element-true G v e).order j) ((element-true G w f).order j))
    ∙ mul-one G.p 1 P.prime-p.above-one)

pub power-element : PowerElement
power-element G P v e m =
    root-element G P (pow G.p v e) (pow_below G.p v e (omega arith))
    (sym (pow-product G.p v e G.q)
    ∙ ap (pow G.p v) (mul_comm e G.q)
    ∙ pow_multiple G.p G.q v P.prime-p.above-one (element-true G v m).order e)

-- ---- exponents modulo q
pub power-of-sum : PowerOfSum
unfolding add
power-of-sum G P v a e m =
    pow-period G.p G.q v P.prime-p.above-one (element-true G v m).order (a + e) ∙ pow-sum G.p v a e

pub power-of-product : PowerOfProduct
unfolding mul
power-of-product G P v a e m =
    pow-period G.p G.q v P.prime-p.above-one (element-true G v m).order (a * e) ∙ pow-product G.p v a e
