-- Polynomials as lists of coefficients, the constant first; divided differences; Lagrange's formula at zero.
use Rattle.std.specs.Prelude.{List, [], ◌∷◌, ℕ, zero, suc}
use Rattle.field.specs.Algebra.{Ops}
use Rattle.field.specs.Residue.{residue_ops}

module _ {K : Type 0} (O : Ops K) where
  open O use {zero as 𝟘, one as 𝟙, add as ◌⊕◌, mul as ◌⊗◌, neg as ⊖◌, inv}

  infixl 60 ◌⊕◌
  infixl 70 ◌⊗◌
  infix 80 ⊖◌
  -- the value at x, by Horner's rule
  abbrev pub eval : List K → K → K
  eval [] x = 𝟘
  eval (c ∷ cs) x = c ⊕ x ⊗ eval cs x

  abbrev pub power : K → ℕ → K
  power x zero = 𝟙
  power x (suc k) = x ⊗ power x k

  -- the sum of the products of two lists, element by element
  abbrev pub dot : List K → List K → K
  dot [] ws = 𝟘
  dot (y ∷ ys) [] = 𝟘
  dot (y ∷ ys) (w ∷ ws) = y ⊗ w ⊕ dot ys ws

  -- the product of x - y over the y of a list
  abbrev pub gaps : K → List K → K
  gaps x [] = 𝟙
  gaps x (y ∷ ys) = (x ⊕ ⊖ y) ⊗ gaps x ys

  -- for each node x of the second list, the inverse of the product of x - y over the other nodes y of both lists
  abbrev pub weights : List K → List K → List K
  weights before [] = []
  weights before (x ∷ xs) = inv (gaps x before ⊗ gaps x xs) ∷ weights (x ∷ before) xs

  -- the divided difference of the values ys at the nodes xs: the sum of y_i over the product of x_i - x_j for all j other than i
  abbrev pub divided : List K → List K → K
  divided xs ys = dot ys (weights [] xs)

  -- the values ys, each times its node to the power k
  abbrev pub scaled : ℕ → List K → List K → List K
  scaled k [] ys = []
  scaled k (x ∷ xs) [] = []
  scaled k (x ∷ xs) (y ∷ ys) = power x k ⊗ y ∷ scaled k xs ys

  -- the products of two lists, element by element
  abbrev pub products : List K → List K → List K
  products [] ys = []
  products (x ∷ xs) [] = []
  products (x ∷ xs) (y ∷ ys) = x ⊗ y ∷ products xs ys

  -- the product of y / (y - x) over the y of a list
  abbrev pub ratios : K → List K → K
  ratios x [] = 𝟙
  ratios x (y ∷ ys) = (y ⊗ inv (y ⊕ ⊖ x)) ⊗ ratios x ys

  -- Lagrange's coefficient at zero for each node of the second list among the nodes of both
  abbrev pub lagrange : List K → List K → List K
  lagrange before [] = []
  lagrange before (x ∷ xs) = (ratios x before ⊗ ratios x xs) ∷ lagrange (x ∷ before) xs

  -- Lagrange's formula: the value at zero that the values ys at the nodes xs give
  abbrev pub at_zero : List K → List K → K
  at_zero xs ys = dot ys (lagrange [] xs)

-- the value at x modulo m
abbrev pub value_at : ℕ → List ℕ → ℕ → ℕ
value_at m cs x = eval (residue_ops m) cs x
