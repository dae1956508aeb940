-- What is claimed of primes, residues and polynomials. Every law on polynomials is of numbers below any prime q.
use Rattle.std.specs.Prelude.{◌≡◌, true, List, ◌↔◌, ◌⊎◌, ℕ, suc, ◌+◌, ◌%◌, ◌<◌, ◌≤◌, ◌*◌, length, get_or, T}
use Rattle.words.specs.Lists.{All, Distinct, Below, map, up_from}
use Rattle.field.specs.Residue.{mul, inv, residue_ops}
use Rattle.field.specs.Prime.{Prime, is_prime, trial_division}
use Rattle.field.specs.Algebra.{Ops, Field, Hom}
use Rattle.field.specs.Polynomial.{dot, divided, scaled, products, at_zero, value_at}

-- ---- primes and residues
-- the test decides primality
abbrev pub PrimeExactly : Type 0
PrimeExactly = (m : ℕ) → (is_prime m ≡ true) ↔ Prime m

-- what passes trial division is prime
abbrev pub TrialDivision : Type 0
TrialDivision = (k m : ℕ) → T (trial_division k m) → Prime m

-- a prime that divides a product divides a factor
abbrev pub Euclid : Type 0
Euclid = (m : ℕ) → Prime m → (a b : ℕ) → (a * b) % m ≡ 0 → (a % m ≡ 0) ⊎ (b % m ≡ 0)

-- the inverse is one: it is below m, and times the number it is 1
abbrev pub Inverse : Type 0
Inverse = (m : ℕ) → Prime m → (a : ℕ) → 0 < a % m → (inv m a < m) × (mul m a (inv m a) ≡ 1)

-- the residues modulo a prime as a field: a carrier whose elements stand for the numbers below m, with the operations on numbers
pub record ResidueField (m : ℕ) : Type 1 where
  pub Residue : Type 0
  pub number : Residue → ℕ
  pub ops : Ops Residue
  pub field : Field ops
  pub keeps : Hom ops (residue_ops m) number
  pub below : (x : Residue) → number x < m
  pub of : (a : ℕ) → a < m → Residue
  pub number-of : (a : ℕ) (h : a < m) → number (of a h) ≡ a
  pub same : (x y : Residue) → number x ≡ number y → x ≡ y

abbrev pub ResiduesAreField : Type 1
ResiduesAreField = (m : ℕ) → Prime m → ResidueField m

-- ---- nodes and values
-- distinct nodes below q, and as many values below q
pub record Nodes (q : ℕ) (xs ys : List ℕ) : Type 0 where
  pub nodes-low : Below q xs
  pub values_low : Below q ys
  pub distinct : Distinct xs
  pub size : length ys ≡ length xs

-- cs is a polynomial of k coefficients below q that takes the values ys at the nodes xs
pub record Takes (q k : ℕ) (cs xs ys : List ℕ) : Type 0 where
  pub size : length cs ≡ k
  pub low : Below q cs
  pub values : map (value_at q cs) xs ≡ ys

-- with fewer coefficients than nodes the divided difference is 0
abbrev pub DegreeLow : Type 0
DegreeLow =
    (q : ℕ) → Prime q → (cs xs : List ℕ) → Below q cs → Below q xs → Distinct xs → length cs < length xs
    → divided (residue_ops q) xs (map (value_at q cs) xs) ≡ 0

-- with as many coefficients as nodes it is the last coefficient
abbrev pub DegreeTop : Type 0
DegreeTop =
    (q : ℕ) → Prime q → (k : ℕ) (cs xs : List ℕ) → Below q cs → Below q xs → Distinct xs → length cs ≡ suc k → length xs ≡ suc k
    → divided (residue_ops q) xs (map (value_at q cs) xs) ≡ get_or cs k 0

-- through any values runs a polynomial with as many coefficients as nodes (Newton)
abbrev pub Interpolation : Type 0
Interpolation = (q : ℕ) → Prime q → (xs ys : List ℕ) → Nodes q xs ys → (cs : List ℕ) × Takes q (length xs) cs xs ys

-- the sums of y_i, its weight and x_i to the power k vanish for all k below m exactly if a polynomial of m coefficients fewer than nodes takes the values
abbrev pub LowDegree : Type 0
LowDegree =
    (q : ℕ) → Prime q → (m t : ℕ) (xs ys : List ℕ) → Nodes q xs ys → t + m ≡ length xs
    → ((k : ℕ) → k < m → divided (residue_ops q) xs (scaled (residue_ops q) k xs ys) ≡ 0) ↔ ((cs : List ℕ) × Takes q t cs xs ys)

-- the divided difference of the values times a polynomial is a linear form in its coefficients
abbrev pub LinearForm : Type 0
LinearForm =
    (q : ℕ) → Prime q → (xs ys ds : List ℕ) → Below q xs → Below q ys → Below q ds
    → divided (residue_ops q) xs (products (residue_ops q) ys (map (value_at q ds) xs))
    ≡ dot (residue_ops q) ds (map (λ k. divided (residue_ops q) xs (scaled (residue_ops q) k xs ys)) (up_from 0 (length ds)))

-- Lagrange's formula at nodes other than 0 gives the value at 0 of a polynomial of no more coefficients than nodes
abbrev pub ValueAtZero : Type 0
ValueAtZero =
    (q : ℕ) → Prime q → (cs xs : List ℕ) → Below q cs → Below q xs → Distinct xs → All (λ x. x ≡ 0 → ⊥) xs → length cs ≤ length xs
    → at_zero (residue_ops q) xs (map (value_at q cs) xs) ≡ value_at q cs 0

-- a polynomial that is 0 at as many distinct nodes as it has coefficients has 0 as its last coefficient
abbrev pub RootBound : Type 0
RootBound =
    (q : ℕ) → Prime q → (k : ℕ) (cs xs : List ℕ) → Below q cs → Below q xs → Distinct xs → length cs ≡ suc k → length xs ≡ suc k
    → All (λ x. value_at q cs x ≡ 0) xs → get_or cs k 0 ≡ 0
