-- Laws of powers modulo p: sums and products of exponents, products of bases, exponents modulo the order of a base, the power from halves.
use mathlib.Core.Path.{◌≡◌, refl, sym, ap, ◌∙◌}
use mathlib.Core.Bool.{Bool, true, false}
use Prim.Native.Nat.{ℕ, zero, suc, ◌+◌, ◌*◌, ◌/◌, ◌%◌, ◌^◌, ◌<◌}
use native.Mathlib.Nat.{mul-zero, mul-suc, one-mul, mul-mul-mul_comm, mod-lt, mod-eq_of_lt, mod-add-div, pow-zero, pow-suc, two-pow-succ}
use native.Mathlib.Omega.{arith}
use lib.Arith.{lt-one}
use lib.Dec.{eqb}
use lib.Pow.{pow-add}
use borrow.Author.Tests.{eqb-true, eqb-false}
use Rattle.words.specs.Choice.{pick}
use Rattle.field.specs.Residue.{mul}
use Rattle.field.proofs.Modular.{mul_mod_left, mul_mod_right, mul-mod, mul-one}
use Rattle.group.specs.Power.{pow, halves_power}
use Rattle.group.specs.Claims.{HalvesPower, ProductOfPowers}

-- ---- powers of numbers
one-pow : (e : ℕ) → 1 ^ e ≡ 1
one-pow zero = pow-zero 1
one-pow (suc e) = rw (pow-suc, one-pow e)

pow-mul : (b i j : ℕ) → b ^ (i * j) ≡ (b ^ i) ^ j
pow-mul b i zero = simp (mul-zero, pow-zero)
pow-mul b i (suc j) = rw (mul-suc, pow-add, pow-suc, pow-mul b i j)

mul-pow : (a b e : ℕ) → (a * b) ^ e ≡ a ^ e * b ^ e
mul-pow a b zero = simp pow-zero
mul-pow a b (suc e) = simp pow-suc (rw (mul-pow a b e, mul-mul-mul_comm (a ^ e) (b ^ e)))

-- a base may be reduced before the power is
pow-mod : (p b e : ℕ) → (b % p) ^ e % p ≡ b ^ e % p
pow-mod p b zero = simp pow-zero
pow-mod p b (suc e) = simp pow-suc (rw (mul_mod_right, ← mul_mod_left ((b % p) ^ e), pow-mod p b e, mul_mod_left))

-- ---- powers modulo p
module _ (p : ℕ) where
  pub pow_below : (b e : ℕ) → 0 < p → pow p b e < p
  unfolding pow
  pow_below b e h = mod-lt (b ^ e) h

  pub pow-none : (b : ℕ) → 1 < p → pow p b 0 ≡ 1
  unfolding pow
  pow-none b h = rw pow-zero (mod-eq_of_lt h)

  pub pow-next : (b e : ℕ) → pow p b (suc e) ≡ mul p (pow p b e) b
  unfolding pow mul
  pow-next b e = rw (pow-suc, mul_mod_left)

  pub pow-one : (b : ℕ) → pow p b 1 ≡ b % p
  unfolding pow
  pow-one b = rw (pow-suc b 0, pow-zero, one-mul)

  pub one_power : (e : ℕ) → 1 < p → pow p 1 e ≡ 1
  unfolding pow
  one_power e h = rw (one-pow) (mod-eq_of_lt h)

  pub pow-sum : (b i j : ℕ) → pow p b (i + j) ≡ mul p (pow p b i) (pow p b j)
  unfolding pow mul
  pow-sum b i j = rw (pow-add, mul-mod)

  pub pow-product : (b i j : ℕ) → pow p b (i * j) ≡ pow p (pow p b i) j
  unfolding pow
  pow-product b i j = rw (pow-mul, pow-mod)

  -- ---- from half the exponent
  pub pow_even : (b e : ℕ) → e % 2 ≡ 0 → mul p (pow p b (e / 2)) (pow p b (e / 2)) ≡ pow p b e
  pow_even b e h =
      let s : e / 2 + e / 2 ≡ e = omega arith in
      sym (pow-sum b (e / 2) (e / 2)) ∙ ap (pow p b) s

  pub pow-odd : (b e : ℕ) → (e % 2 ≡ 0 → ⊥) → mul p (mul p (pow p b (e / 2)) (pow p b (e / 2))) b ≡ pow p b e
  pow-odd b e h =
      let s : suc (e / 2 + e / 2) ≡ e = omega arith in
      ap (λ (x : ℕ). mul p x b) (sym (pow-sum b (e / 2) (e / 2))) ∙ sym (pow-next b (e / 2 + e / 2)) ∙ ap (pow p b) s

pub product-of-powers : ProductOfPowers
unfolding pow mul
product-of-powers p v w e = rw (pow-mod, mul-pow, mul-mod)

-- ---- a base whose power q is 1: exponents count modulo q
module _ (p q b : ℕ) (h : 1 < p) (order : pow p b q ≡ 1) where
  pub pow_multiple : (k : ℕ) → pow p b (q * k) ≡ 1
  pow_multiple k = pow-product p b q k ∙ ap (λ (x : ℕ). pow p x k) order ∙ one_power p k h

  pub pow-period : (e : ℕ) → pow p b (e % q) ≡ pow p b e
  pow-period e =
      sym
      (ap (pow p b) (sym (mod-add-div e q))
      ∙ pow-sum p b (e % q) (q * (e / q))
      ∙ ap (mul p (pow p b (e % q))) (pow_multiple (e / q))
      ∙ mul-one p (pow p b (e % q)) (pow_below p b (e % q) (omega arith)))

-- ---- the power from halves is the power
halves-step : (p b e half : ℕ) → 1 < p → half ≡ pow p b (e / 2)
    → pick (eqb e 0) 1 (pick (eqb (e % 2) 0) (half * half % p) (half * half % p * b % p)) ≡ pow p b e
unfolding mul
halves-step p b e half h i = go (eqb e 0) refl (eqb (e % 2) 0) refl
  where
    go : (s : Bool) → eqb e 0 ≡ s → (t : Bool) → eqb (e % 2) 0 ≡ t → pick s 1 (pick t (half * half % p) (half * half % p * b % p)) ≡ pow p b e
    go true k t l = sym (ap (pow p b) (eqb-true e 0 k) ∙ pow-none p b h)
    go false k true l = ap (λ (x : ℕ). mul p x x) i ∙ pow_even p b e (eqb-true (e % 2) 0 l)
    go false k false l = ap (λ (x : ℕ). mul p (mul p x x) b) i ∙ pow-odd p b e (eqb-false (e % 2) 0 l)

pub halves-power : HalvesPower
halves-power zero p b e h l = sym (ap (pow p b) (lt-one l) ∙ pow-none p b h)
halves-power (suc k) p b e h l =
    halves-step p b e (halves_power k p b (e / 2)) h (halves-power k p b (e / 2) h (omega (arith, two-pow-succ k)))
