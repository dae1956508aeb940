-- The weights of the degree check and Lagrange's coefficients, modulo q, and products of powers modulo p.
use Rattle.std.specs.Prelude.{List, [], ◌∷◌, ℕ, eqb}
use Rattle.words.specs.Choice.{pick}
use Rattle.words.specs.Lists.{map}
use Rattle.field.specs.Residue.{mul, sub, inv}
use Rattle.field.specs.Polynomial.{value_at}
use Rattle.group.specs.Power.{pow}
use Rattle.group.specs.declared.Group.{Group}
use Rattle.sharing.specs.Setting.{members}
use Rattle.sharing.specs.declared.Setting.{Setting}

-- the product of f j modulo q over the j of a list other than i
abbrev pub product_over : ℕ → (ℕ → ℕ) → ℕ → List ℕ → ℕ
product_over q f i [] = 1
product_over q f i (j ∷ js) = pick (eqb i j) (product_over q f i js) (mul q (f j) (product_over q f i js))

-- the product of i - j over the other members j of 1 to n
unfoldable pub gaps_at : Setting → ℕ → ℕ
gaps_at S i = product_over S.group.q (sub S.group.q i) i (members S.n)

-- the weight of member i for the check polynomial ds: the inverse of that product, times the value at i
unfoldable pub weight_at : Setting → List ℕ → ℕ → ℕ
weight_at S ds i = mul S.group.q (inv S.group.q (gaps_at S i)) (value_at S.group.q ds i)

unfoldable pub weights_of : Setting → List ℕ → List ℕ
weights_of S ds = map (weight_at S ds) (members S.n)

-- Lagrange's coefficient at 0 of member i among the members ms: the product of j / (j - i) over the other members j
unfoldable pub lagrange_at : Group → List ℕ → ℕ → ℕ
lagrange_at G ms i = product_over G.q (λ j. mul G.q j (inv G.q (sub G.q j i))) i ms

-- the product modulo p of each v to its exponent
unfoldable pub powers_product : ℕ → List ℕ → List ℕ → ℕ
powers_product p [] es = 1
powers_product p (v ∷ vs) [] = 1
powers_product p (v ∷ vs) (e ∷ es) = mul p (pow p v e) (powers_product p vs es)
