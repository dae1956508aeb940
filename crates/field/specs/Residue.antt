-- Arithmetic on residues modulo m, as plain numbers: what the functions of this crate compute.
use Rattle.std.specs.Prelude.{ℕ, zero, suc, ◌+◌, ◌-◌, ◌*◌, ◌/◌, ◌%◌, leb}
use Rattle.words.specs.Choice.{pick}
use Rattle.field.specs.Algebra.{Ops}

unfoldable pub add : ℕ → ℕ → ℕ → ℕ
add m a b = (a + b) % m

unfoldable pub mul : ℕ → ℕ → ℕ → ℕ
mul m a b = (a * b) % m

unfoldable pub neg : ℕ → ℕ → ℕ
neg m a = (m - a % m) % m

-- the residue of a difference that may be negative
unfoldable pub sub : ℕ → ℕ → ℕ → ℕ
sub m a b = (a + (m - b % m)) % m

-- The inverse modulo a prime m, from m = a * (m / a) + m % a: it is the inverse of m % a times -(m / a).
-- m % a falls below a at each step, so a steps are enough.
abbrev pub inv_steps : ℕ → ℕ → ℕ → ℕ
inv_steps m zero a = 1
inv_steps m (suc f) a = pick (leb a 1) 1 (mul m (m - m / a) (inv_steps m f (m % a)))

unfoldable pub inv : ℕ → ℕ → ℕ
inv m a = inv_steps m (a % m) (a % m)

-- the residues' operations; their laws hold of the numbers below a prime m
abbrev pub residue_ops : ℕ → Ops ℕ
residue_ops m = record { zero = 0; one = 1; add = add m; mul = mul m; neg = neg m; inv = inv m }
