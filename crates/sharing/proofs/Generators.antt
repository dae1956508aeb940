-- Powers of a generator b, in any proper group: a product of powers is the power of the sum of their exponents, only the exponent 0 gives 1,
-- powers are elements, and elements are powers. All hold of g and of h.
use mathlib.Core.Path.{◌≡◌, refl, sym, ap, ◌∙◌}
use mathlib.Core.Bool.{true}
use mathlib.Core.List.{List, [], ◌∷◌}
use mathlib.Core.Logic.{◌↔◌}
use Prim.Native.Nat.{ℕ, ◌<◌}
use native.Mathlib.Nat.{mod-eq_of_lt, zero-mod}
use Rattle.words.specs.Lists.{All, Below, map, all}
use Rattle.words.proofs.Lists.{All-each, map-all}
use Rattle.words.proofs.Tests.{all_true, true-all}
use Rattle.field.specs.Residue.{mul, residue_ops}
use Rattle.field.specs.Polynomial.{dot, value_at}
use Rattle.group.specs.Power.{pow}
use Rattle.group.specs.Element.{is_element, Generator, Proper}
use Rattle.group.specs.declared.Group.{Group}
use Rattle.group.proofs.Powers.{pow-none}
use Rattle.group.proofs.Elements.{generator-element, power-element, power-of-sum, power-of-product}
use Rattle.group.proofs.Logarithm.{same_power, elements-are-powers}
use Rattle.sharing.specs.Weights.{powers_product}
use Rattle.sharing.specs.Carried.{powers_at}

-- exponents below q of which the figures are the powers of b
pub record Exponents (G : Group) (b : ℕ) (vs es : List ℕ) : Type 0 where
  pub low : Below G.q es
  pub powers : vs ≡ map (pow G.p b) es

module _ (G : Group) (P : Proper G) (b : ℕ) (B : Generator G b) where
  power_zero : pow G.p b 0 ≡ 1
  power_zero = pow-none G.p b P.prime-p.above-one

  -- only the exponent 0 gives 1
  pub one-exactly : (e : ℕ) → e < G.q → (pow G.p b e ≡ 1) ↔ (e ≡ 0)
  one-exactly e h =
      let s = same_power G P b B e 0 in
      (λ o. sym (mod-eq_of_lt h) ∙ s.0 (o ∙ sym power_zero) ∙ zero-mod G.q, λ z. ap (pow G.p b) z ∙ power_zero)

  pub product-is-power : (es ws : List ℕ) → powers_product G.p (map (pow G.p b) es) ws ≡ pow G.p b (dot (residue_ops G.q) es ws)
  unfolding powers_product
  product-is-power [] ws = sym power_zero
  product-is-power (e ∷ es) [] = sym power_zero
  product-is-power (e ∷ es) (w ∷ ws) =
      (λ j. mul G.p (sym (power-of-product G P b e w base) j) (product-is-power es ws j))
      ∙ sym (power-of-sum G P b (mul G.q e w) (dot (residue_ops G.q) es ws) base)
    where
      base : is_element G b ≡ true
      base = generator-element G P b B

  -- powers are elements, and elements are powers
  pub powers-elements : (f ms : List ℕ) → all (is_element G) (powers_at G b f ms) ≡ true
  unfolding powers_at
  powers-elements f ms =
      true-all (is_element G) (powers_at G b f ms)
      (map-all (λ i. pow G.p b (value_at G.q f i)) (λ v. is_element G v ≡ true) ms
      (All-each ms (λ i. power-element G P b (value_at G.q f i) (generator-element G P b B))))

  pub exponents : (vs : List ℕ) → all (is_element G) vs ≡ true → (es : List ℕ) × Exponents G b vs es
  exponents vs e = logarithms vs (all_true (is_element G) vs e)
    where
      logarithms : (vs : List ℕ) → All (λ v. is_element G v ≡ true) vs → (es : List ℕ) × Exponents G b vs es
      logarithms [] h = ([], record { low = tt; powers = refl })
      logarithms (v ∷ vs) h =
          let l = (elements-are-powers G P b B v).0 h.0 in
          let r = logarithms vs h.1 in
          (l.log ∷ r.0, record { low = (l.low, r.1.low); powers = λ j. l.power j ∷ r.1.powers j })
