-- Residues modulo m as plain numbers: a remainder below a remainder, the laws of a commutative ring, and bounds.
use mathlib.Core.Path.{◌≡◌, sym, ◌∙◌, ap}
use Prim.Native.Nat.{ℕ, ◌+◌, ◌-◌, ◌*◌, ◌%◌, ◌≤◌, ◌<◌}
use native.Mathlib.Nat as N
use native.Mathlib.Nat.{mod-lt, mod-mod, mod_self, mod-eq_of_lt, mod-add-mod, add-mod-mod, add-mod_right, div-add-mod, mul-add-mod_self_left, mul-le-mul}
use native.Mathlib.Decide.{dec_le}
use native.Mathlib.Omega.{arith}
use Rattle.field.specs.Residue.{add, mul, neg, sub}

-- ---- remainders
pub mul_mod_left : (a b m : ℕ) → (a % m * b) % m ≡ (a * b) % m
mul_mod_left a b m =
    sym (ap (λ (x : ℕ). (x * b) % m) (sym (div-add-mod a m)) ∙ rw (N.add-mul, N.mul_assoc, mul-add-mod_self_left))

pub mul_mod_right : (a b m : ℕ) → (a * (b % m)) % m ≡ (a * b) % m
mul_mod_right a b m = rw (N.mul_comm a (b % m), mul_mod_left, N.mul_comm b a)

pub mul-mod : (a b m : ℕ) → (a % m * (b % m)) % m ≡ (a * b) % m
mul-mod a b m = rw (mul_mod_left, mul_mod_right)

-- drops the remainders below a remainder
pub ruleset inner = (mod-add-mod, add-mod-mod, mul_mod_left, mul_mod_right, mod-mod)

-- ---- a commutative ring
module _ (m : ℕ) where
  pub add_comm : (a b : ℕ) → add m a b ≡ add m b a
  unfolding add
  add_comm a b = rw (N.add_comm a b)

  pub add_assoc : (a b c : ℕ) → add m (add m a b) c ≡ add m a (add m b c)
  unfolding add
  add_assoc a b c = simp (inner, N.add_assoc)

  pub add-zero : (a : ℕ) → a < m → add m a 0 ≡ a
  unfolding add
  add-zero a h = rw (N.add-zero, mod-eq_of_lt)

  pub add-neg : (a : ℕ) → 0 < m → add m a (neg m a) ≡ 0
  unfolding add neg
  add-neg a h =
      let s : a % m + (m - a % m) ≡ m = omega (arith, mod-lt a h) in
      rw (add-mod-mod, ← mod-add-mod, s, mod_self)

  pub mul_comm : (a b : ℕ) → mul m a b ≡ mul m b a
  unfolding mul
  mul_comm a b = rw (N.mul_comm a b)

  pub mul_assoc : (a b c : ℕ) → mul m (mul m a b) c ≡ mul m a (mul m b c)
  unfolding mul
  mul_assoc a b c = simp (inner, N.mul_assoc)

  pub mul-one : (a : ℕ) → a < m → mul m a 1 ≡ a
  unfolding mul
  mul-one a h = rw (N.mul-one, mod-eq_of_lt)

  pub mul-add : (a b c : ℕ) → mul m a (add m b c) ≡ add m (mul m a b) (mul m a c)
  unfolding add mul
  mul-add a b c = simp (inner, N.mul-add)

  pub sub-add-neg : (a b : ℕ) → sub m a b ≡ add m a (neg m b)
  unfolding add neg sub
  sub-add-neg a b = simp inner

  -- ---- bounds
  pub add-below : (a b : ℕ) → 0 < m → add m a b < m
  unfolding add
  add-below a b h = mod-lt _ h

  pub mul-below : (a b : ℕ) → 0 < m → mul m a b < m
  unfolding mul
  mul-below a b h = mod-lt _ h

  pub neg-below : (a : ℕ) → 0 < m → neg m a < m
  unfolding neg
  neg-below a h = mod-lt _ h

  pub sub-below : (a b : ℕ) → 0 < m → sub m a b < m
  unfolding sub
  sub-below a b h = mod-lt _ h

-- ---- differences of numbers below m, with no remainder to take
module _ (m a b : ℕ) (h : a < m) (k : b < m) where
  pub sub-ge : b ≤ a → sub m a b ≡ a - b
  unfolding sub
  sub-ge l =
      let s : a + (m - b) ≡ a - b + m = omega arith in
      rw (mod-eq_of_lt k, s, add-mod_right) (mod-eq_of_lt (omega arith))

  pub sub-lt : a < b → sub m a b ≡ m - (b - a)
  unfolding sub
  sub-lt l =
      let s : a + (m - b) ≡ m - (b - a) = omega arith in
      rw (mod-eq_of_lt k, s) (mod-eq_of_lt (omega arith))

  pub sub-pos : (a ≡ b → ⊥) → 0 < sub m a b
  sub-pos n = elim (dec_le b a) [ yes l ↦ rw (sub-ge l) (omega arith) | no l ↦ rw (sub-lt (omega arith)) (omega arith) ]
