-- Powers modulo p.
use Rattle.std.specs.Prelude.{ℕ, zero, suc, ◌*◌, ◌/◌, ◌%◌, ◌^◌, eqb}
use Rattle.words.specs.Choice.{pick}

-- what a power is; at large numerals it is computed by halves_power instead
unfoldable pub pow : ℕ → ℕ → ℕ → ℕ
pow p b e = (b ^ e) % p

-- the same from the power at half the exponent, right where e is below 2 to the power k
abbrev pub halves_power : ℕ → ℕ → ℕ → ℕ → ℕ
halves_power zero p b e = 1
halves_power (suc k) p b e =
    let half = halves_power k p b (e / 2) in
    pick (eqb e 0) 1 (pick (eqb (e % 2) 0) (half * half % p) (half * half % p * b % p))
