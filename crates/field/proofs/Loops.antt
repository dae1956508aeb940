-- What the loops of `inverse`, `value_at` and `is_prime` keep, with laws for their turns, and for a start and an end that do not follow at once.
use mathlib.Core.Path.{◌≡◌, refl, sym, ap, ◌∙◌}
use mathlib.Core.Bool.{Bool, true, false}
use mathlib.Core.List.{List, [], ◌∷◌, ◌++◌, append_assoc}
use Prim.Native.Nat.{ℕ, ◌+◌, ◌-◌, ◌*◌, ◌/◌, ◌%◌, ◌≤◌, ◌<◌}
use native.Mathlib.Nat.{mod-lt, mod-eq_of_lt, add-mod-mod, div-add-mod, le_trans, mul-le-mul_right, le-div_iff_mul-le, div-lt_iff_lt-mul}
use native.Mathlib.Omega.{arith}
use borrow.Author.Tests.{eqb-true, eqb-false}
use lib.Dec.{eqb}
use Rattle.std.specs.List.{push}
use Rattle.field.specs.Residue.{add, mul, inv}
use Rattle.field.specs.Prime.{Prime, is_prime}
use Rattle.field.specs.Polynomial.{value_at}
use Rattle.field.proofs.Modular.{mul_assoc, mul-one, mul-below}
use Rattle.field.proofs.Inverses.{positive, times-quotient, rest-pos, inv_unique}
use Rattle.field.proofs.Primality.{OddsTried, prime-exactly, not-prime, undivided-prime}

-- ---- the inverse of a: a times t is x
pub record Descent (m a t x : ℕ) : Type 0 where
  pub x_pos : 0 < x
  pub x_below : x < m
  pub t-below : t < m
  pub product : mul m a t ≡ x

module _ (m : ℕ) (P : Prime m) (a : ℕ) where
  pub descent-start : 0 < a → a < m → Descent m a 1 a
  descent-start g h = record { x_pos = g; x_below = h; t-below = P.above-one; product = mul-one m a h }

  pub descent-next : (t x : ℕ) → 1 < x → Descent m a t x → Descent m a (mul m t (m - m / x)) (m % x)
  descent-next t x k d =
      record {
        x_pos = rest-pos m P x k d.x_below;
        x_below = omega (arith, mod-lt m d.x_pos, d.x_below);
        t-below = mul-below m _ _ (positive m P);
        product = rw (← mul_assoc, d.product) (times-quotient m x d.x_pos d.x_below);
      }

  pub descent-end : 0 < a → a < m → (t x : ℕ) → x ≤ 1 → Descent m a t x → t ≡ inv m a
  descent-end g h t x l d =
      inv_unique m P a t (rw (mod-eq_of_lt h) g) d.t-below (d.product ∙ omega (arith, d.x_pos))

-- ---- the value at x of the coefficients behind those that are left
pub record Horner (m : ℕ) (cs : List ℕ) (x : ℕ) (left : List ℕ) (r : ℕ) : Type 0 where
  pub taken : List ℕ
  pub parts : cs ≡ left ++ taken
  pub value : r ≡ value_at m taken x
  pub below : r < m

pub horner-next : (m : ℕ) → 0 < m → (cs : List ℕ) (x : ℕ) (left : List ℕ) (c r : ℕ) → Horner m cs x (push left c) r → Horner m cs x left ((c + x * r) % m)
unfolding add mul
horner-next m h cs x left c r t =
    record {
      taken = c ∷ t.taken;
      parts = t.parts ∙ append_assoc left (c ∷ []) t.taken;
      value = rw t.value (sym (add-mod-mod _ _ _));
      below = mod-lt _ h;
    }

-- ---- the test of a prime: no odd number below d divides m, and k is the quotient by d
pub record Trial (m d k : ℕ) : Type 0 where
  pub m-odd : 0 < m % 2
  pub d-odd : 0 < d % 2
  pub d-high : 2 < d
  pub odds : OddsTried m d
  pub quotient : k ≡ m / d

module _ (m : ℕ) where
  -- before the loop: below 2, and even
  pub trial-low : m < 2 → is_prime m ≡ false
  trial-low h = not-prime m (λ P. omega (arith, P.above-one))

  -- a divisor from 2 to m - 1
  composite : (d : ℕ) → 1 < d → d < m → m % d ≡ 0 → is_prime m ≡ false
  composite d g h z = not-prime m (λ P. P.no-divisor d g h z)

  pub trial-even : 1 < m → m % 2 ≡ 0 → eqb m 2 ≡ is_prime m
  unfolding is_prime
  trial-even h z = go (eqb m 2) refl
    where
      go : (x : Bool) → eqb m 2 ≡ x → x ≡ is_prime m
      go true e = sym (ap is_prime (eqb-true m 2 e))
      go false e = sym (composite 2 (omega arith) (omega (arith, eqb-false m 2 e)) z)

  module _ (d k : ℕ) (t : Trial m d k) where
    whole : d * k + m % d ≡ m
    whole = ap (λ (x : ℕ). d * x + m % d) t.quotient ∙ div-add-mod m d

    -- 3 * d ≤ d * d ≤ m
    pub trial-room : d ≤ k → 3 * d ≤ m
    trial-room l = le_trans (mul-le-mul_right d t.d-high) ((le-div_iff_mul-le (omega (arith, t.d-high))).0 (omega (arith, t.quotient)))

    pub trial-stop : d ≤ k → d * k ≡ m → is_prime m ≡ false
    trial-stop l e = composite d (omega (arith, t.d-high)) (omega (arith, t.d-high, trial-room l)) (omega (arith, whole, e))

    pub trial-end : 1 < m → k < d → is_prime m ≡ true
    trial-end h l =
        let g : 0 < d = omega (arith, t.d-high) in
        let b : m < d * d = (div-lt_iff_lt-mul g).0 (omega (arith, t.quotient)) in
        (prime-exactly m).1 (record { above-one = h; no-divisor = undivided-prime m d t.m-odd b t.odds })
