-- What a prime is, its test, and trial division as a test that the checker computes.
use Rattle.std.specs.Prelude.{◌≡◌, Bool, true, false, not, ◌&&◌, ℕ, zero, suc, ◌+◌, ◌-◌, ◌*◌, ◌%◌, ◌<◌, ltb, eqb}
use Rattle.words.specs.Choice.{pick}
use Rattle.words.specs.Lists.{all, up_from}

-- above 1, and no number above 1 and below m divides m
pub record Prime (m : ℕ) : Type 0 where
  pub above-one : 1 < m
  pub no-divisor : (d : ℕ) → 1 < d → d < m → m % d ≡ 0 → ⊥

-- d divides m
abbrev pub divides : ℕ → ℕ → Bool
divides d m = eqb (m % d) 0

-- the test of a prime: above 1, and none of the numbers from 2 to m - 1 divides m
unfoldable pub is_prime : ℕ → Bool
is_prime m = ltb 1 m && all (λ d. not (divides d m)) (up_from 2 (m - 2))

-- none of the k numbers d, d + 2, d + 4, .. divides m
abbrev pub undivided : ℕ → ℕ → ℕ → Bool
undivided m zero d = true
undivided m (suc k) d = pick (ltb 0 (m % d)) (undivided m k (d + 2)) false

-- neither 2 nor one of the k odd numbers from 3 on divides m, and the square of the next odd number is above m
abbrev pub trial_division : ℕ → ℕ → Bool
trial_division k m = ltb 1 m && (ltb 0 (m % 2) && (ltb m ((k + k + 3) * (k + k + 3)) && undivided m k 3))
