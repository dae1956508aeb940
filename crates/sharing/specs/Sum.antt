-- The sum of polynomials modulo q, and the product of elements modulo p that goes with it.
use Rattle.std.specs.Prelude.{List, [], ◌∷◌, ℕ, replicate}
use Rattle.field.specs.Residue.{add, mul}
use Rattle.sharing.specs.declared.Setting.{Setting}

-- the product modulo p of a list
abbrev pub product_of : ℕ → List ℕ → ℕ
product_of p [] = 1
product_of p (x ∷ xs) = mul p x (product_of p xs)

-- the sum of two polynomials, coefficient by coefficient modulo q
abbrev pub sum_of_two : ℕ → List ℕ → List ℕ → List ℕ
sum_of_two q [] gs = []
sum_of_two q (f ∷ fs) [] = []
sum_of_two q (f ∷ fs) (g ∷ gs) = add q f g ∷ sum_of_two q fs gs

-- the sum of polynomials of t coefficients
abbrev pub sum_of : Setting → List (List ℕ) → List ℕ
sum_of S [] = replicate S.t 0
sum_of S (f ∷ fs) = sum_of_two S.group.q f (sum_of S fs)
