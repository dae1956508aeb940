-- Inverses modulo a prime m, and Euclid's lemma. As m = a * (m / a) + m % a, a times -(m / a) is m % a, and m % a is not 0.
use mathlib.Core.Path.{◌≡◌, sym, ◌∙◌}
use mathlib.Core.Logic.{inl, inr, ⊎_elim}
use Prim.Native.Nat.{ℕ, zero, suc, ◌+◌, ◌-◌, ◌*◌, ◌/◌, ◌%◌, ◌≤◌, ◌<◌}
use native.Mathlib.Nat.{mul-zero, one-mul, mul-sub, suc-mul, zero-mod, mod-lt, mod-eq_of_lt, div-add-mod, add-mul-mod_self_left, eq-zero-or-pos}
use native.Mathlib.Nat as N
use native.Mathlib.Decide.{dec_le}
use native.Mathlib.Omega.{arith}
use borrow.Author.Tests.{le-leb, lt-leb}
use Rattle.field.specs.Residue.{mul, inv, inv_steps}
use Rattle.field.specs.Prime.{Prime}
use Rattle.field.specs.Claims.{Euclid, Inverse}
use Rattle.field.proofs.Modular.{mul_mod_left, mul_comm, mul_assoc, mul-one, mul-below}

whole : (m a : ℕ) → suc a * (m - m / suc a) ≡ m % suc a + m * a
whole m a = rw mul-sub (omega (arith, div-add-mod m (suc a), suc-mul a m, N.mul_comm a m))

-- a times -(m / a) is m % a
pub times-quotient : (m a : ℕ) → 0 < a → a < m → mul m a (m - m / a) ≡ m % a
unfolding mul
times-quotient m zero g h = absurd (omega arith)
times-quotient m (suc a) g h = rw (whole, add-mul-mod_self_left) (mod-eq_of_lt (omega (arith, mod-lt m g)))

module _ (m : ℕ) (P : Prime m) where
  pub positive : 0 < m
  positive = omega (arith, P.above-one)

  -- the next number is not 0
  pub rest-pos : (a : ℕ) → 1 < a → a < m → 0 < m % a
  rest-pos a g h = ⊎_elim (λ e. absurd (P.no-divisor a g h e)) (λ p. p) (eq-zero-or-pos (m % a))

  steps-inverse : (f a : ℕ) → 0 < a → a < m → a ≤ f → mul m a (inv_steps m f a) ≡ 1
  steps-inverse zero a g h l = absurd (omega arith)
  steps-inverse (suc f) a g h l = elim (dec_le a 1) [ yes k ↦ one k | no k ↦ more (steps-inverse f (m % a)) (omega arith) ]
    where
      one : a ≤ 1 → mul m a (inv_steps m (suc f) a) ≡ 1
      one k = rw (le-leb a 1 k) (mul-one m a h ∙ omega arith)

      more : (0 < m % a → m % a < m → m % a ≤ f → mul m (m % a) (inv_steps m f (m % a)) ≡ 1) → 1 < a → mul m a (inv_steps m (suc f) a) ≡ 1
      more next k =
          let s : m % a < a = mod-lt m g in
          rw (lt-leb a 1 k, ← mul_assoc, times-quotient m a g h) (next (rest-pos a k h) (omega arith) (omega arith))

  steps-below : (f a : ℕ) → inv_steps m f a < m
  steps-below zero a = P.above-one
  steps-below (suc f) a =
      elim (dec_le a 1) [
        | yes k ↦ rw (le-leb a 1 k) P.above-one
        | no k ↦ rw (lt-leb a 1 (omega arith)) (mul-below m _ _ positive)
      ]

  pub inv-below : (a : ℕ) → inv m a < m
  unfolding inv
  inv-below a = steps-below (a % m) (a % m)

  pub mul-inv : (a : ℕ) → 0 < a % m → mul m a (inv m a) ≡ 1
  unfolding inv mul
  mul-inv a h = rw (← mul_mod_left) (steps-inverse (a % m) (a % m) h (mod-lt a positive) (omega arith))

  -- a number below m whose product with a is 1 is the inverse of a
  pub inv_unique : (a b : ℕ) → 0 < a % m → b < m → mul m a b ≡ 1 → b ≡ inv m a
  inv_unique a b h l e =
      let i = inv m a in
      sym (mul-one m b l) ∙ rw (← mul-inv a h, ← mul_assoc, mul_comm m b a, e, mul_comm m 1 i) (mul-one m i (inv-below a))

-- a divisor of a times b that does not divide a divides b: b is the inverse of a times a times b
pub euclid : Euclid
unfolding mul
euclid m P a b e = ⊎_elim inl (λ h. inr (divides h)) (eq-zero-or-pos (a % m))
  where
    divides : 0 < a % m → b % m ≡ 0
    divides h =
        let s : mul m (inv m a) (mul m a b) ≡ mul m 1 b = rw (← mul_assoc, mul_comm m (inv m a) a, mul-inv m P a h) in
        let t : mul m 1 b ≡ b % m = rw one-mul in
        let u : mul m (inv m a) (mul m a b) ≡ 0 = rw (e, mul-zero, zero-mod) in
        sym t ∙ sym s ∙ u

pub inverse : Inverse
inverse m P a h = (inv-below m P a, mul-inv m P a h)
