-- The test of a prime decides primality. What passes trial division is prime: of two factors of m the lower is at most the square root
-- of m, and it is even, or it was tried.
use mathlib.Core.Path.{◌≡◌, ap, ◌∙◌}
use mathlib.Core.Bool.{Bool, true, false, not, ◌&&◌}
use mathlib.Core.Logic.{⊎_elim}
use Prim.Native.Nat.{ℕ, zero, suc, ◌+◌, ◌-◌, ◌*◌, ◌/◌, ◌%◌, ◌≤◌, ◌<◌}
use native.Mathlib.Nat.{mul_comm, mul_assoc, mul-one, mul-le-mul, mul-le-mul_left, mul-mod_right, div-add-mod}
use native.Mathlib.Nat.{add-zero, le_trans, eq-zero-or-pos}
use native.Mathlib.Decide.{dec_le}
use native.Mathlib.Omega.{arith}
use borrow.Author.Tests.{lt-ltb, ltb-true, ne_eqb, eqb-false, not-true}
use lib.Dec.{T, ltb, ltb→lt}
use Rattle.words.specs.Choice.{pick}
use Rattle.words.specs.Lists.{All, all, up_from}
use Rattle.words.proofs.Lists.{up-each, each-up}
use Rattle.words.proofs.Tests.{refuted, and-true, true-and, all_true, true-all}
use Rattle.field.specs.Prime.{Prime, divides, is_prime, undivided}
use Rattle.field.specs.Claims.{PrimeExactly, TrialDivision}

-- ---- the test of a prime
sound : (m : ℕ) → is_prime m ≡ true → Prime m
unfolding is_prime
sound m e = record { above-one = ltb-true 1 m s.0; no-divisor = none }
  where
    s : (ltb 1 m ≡ true) × (all (λ d. not (divides d m)) (up_from 2 (m - 2)) ≡ true)
    s = and-true (ltb 1 m) (all (λ d. not (divides d m)) (up_from 2 (m - 2))) e

    none : (d : ℕ) → 1 < d → d < m → m % d ≡ 0 → ⊥
    none d g h z =
        let t = up-each (λ x. not (divides x m) ≡ true) 2 (m - 2) (all_true (λ x. not (divides x m)) (up_from 2 (m - 2)) s.1) d g (omega arith) in
        eqb-false (m % d) 0 (not-true (divides d m) t) z

complete : (m : ℕ) → Prime m → is_prime m ≡ true
unfolding is_prime
complete m P = true-and (ltb 1 m) _ (lt-ltb 1 m P.above-one) (true-all (λ d. not (divides d m)) (up_from 2 (m - 2)) none)
  where
    none : All (λ d. not (divides d m) ≡ true) (up_from 2 (m - 2))
    none = each-up (λ d. not (divides d m) ≡ true) 2 (m - 2) (λ d g h. ap not (ne_eqb (m % d) 0 (P.no-divisor d g (omega arith))))

pub prime-exactly : PrimeExactly
prime-exactly m = (sound m, complete m)

-- what is not prime does not pass
pub not-prime : (m : ℕ) → (Prime m → ⊥) → is_prime m ≡ false
not-prime m h = refuted (is_prime m) (λ e. h (sound m e))

-- ---- an odd number m below the square of s that no odd number below s divides
-- no odd number above 1 and below s divides m
abbrev pub OddsTried : ℕ → ℕ → Type 0
OddsTried m s = (c : ℕ) → 1 < c → c < s → 0 < c % 2 → m % c ≡ 0 → ⊥

module _ (m s : ℕ) (odd : 0 < m % 2) (high : m < s * s) (run : OddsTried m s) where
  -- the lower of two factors
  lower : (c e : ℕ) → c * e ≡ m → 1 < c → c ≤ e → ⊥
  lower c e f g h = elim (dec_le s c) [ yes l ↦ above l | no l ↦ ⊎_elim even (passed (omega arith)) (eq-zero-or-pos (c % 2)) ]
    where
      above : s ≤ c → ⊥
      above l = omega (arith, mul-le-mul l (le_trans l h))

      even : c % 2 ≡ 0 → ⊥
      even z =
          let r : m % 2 ≡ 0 = rw (← f, ← div-add-mod c 2, z, add-zero, mul_assoc, mul-mod_right) in
          omega arith

      passed : c < s → 0 < c % 2 → ⊥
      passed l z = run c g l z (rw (← f) (mul-mod_right c e))

  pub undivided-prime : (d : ℕ) → 1 < d → d < m → m % d ≡ 0 → ⊥
  undivided-prime d g h z =
      let f : d * (m / d) ≡ m = omega (arith, div-add-mod m d) in
      elim (dec_le d (m / d)) [
        | yes l ↦ lower d (m / d) f g l
        | no l ↦ elim (dec_le (m / d) 1) [
          | yes o ↦ omega (arith, mul-le-mul_left d o, mul-one d)
          | no o ↦ lower (m / d) d (mul_comm (m / d) d ∙ f) (omega arith) (omega arith)
        ]
      ]

-- ---- trial division that the checker computes
both : (a b : Bool) → T (a && b) → T a × T b
both true b t = (tt, t)
both false b t = absurd t

chosen : (a b : Bool) → T (pick a b false) → T a × T b
chosen true b t = (tt, t)
chosen false b t = absurd t

-- the i-th number that was tried does not divide m
tried : (m k d : ℕ) → T (undivided m k d) → (i : ℕ) → i < k → m % (d + (i + i)) ≡ 0 → ⊥
tried m zero d t i h e = omega arith
tried m (suc k) d t zero h e =
    let f : m % d ≡ 0 = rw (add-zero d) at e in
    omega (arith, ltb→lt 0 (m % d) (chosen (ltb 0 (m % d)) (undivided m k (d + 2)) t).0)
tried m (suc k) d t (suc i) h e =
    let s : d + (suc i + suc i) ≡ d + 2 + (i + i) = omega arith in
    tried m k (d + 2) (chosen (ltb 0 (m % d)) (undivided m k (d + 2)) t).1 i (omega arith) (rw s at e)

odds-tried : (k m : ℕ) → T (undivided m k 3) → OddsTried m (k + k + 3)
odds-tried k m t c g l z e =
    let i : ℕ = (c - 3) / 2 in
    let s : 3 + (i + i) ≡ c = omega arith in
    tried m k 3 t i (omega arith) (rw s e)

pub trial-division : TrialDivision
trial-division k m t =
    let n : ℕ = k + k + 3 in
    let a = both (ltb 1 m) _ t in
    let b = both (ltb 0 (m % 2)) _ a.1 in
    let c = both (ltb m (n * n)) (undivided m k 3) b.1 in
    record {
      above-one = ltb→lt 1 m a.0;
      no-divisor = undivided-prime m n (ltb→lt 0 (m % 2) b.0) (ltb→lt m (n * n) c.0) (odds-tried k m c.1);
    }
