-- Facts and tests over a whole list, runs of numbers, and lists that are filled up with 0.
use Rattle.std.specs.Prelude.{◌≡◌, Bool, true, false, ◌&&◌, List, [], ◌∷◌, ◌++◌, ℕ, zero, suc, ◌-◌, ◌<◌, length, get_or, replicate, eqb}
use Rattle.words.specs.Choice.{pick}

-- P holds of each element
abbrev pub All : {A : Type 0} → (A → Type 0) → List A → Type 0
All P [] = Unit {0}
All P (x ∷ xs) = P x × All P xs

-- R holds of each element and every one behind it
abbrev pub Pairwise : {A : Type 0} → (A → A → Type 0) → List A → Type 0
Pairwise R [] = Unit {0}
Pairwise R (x ∷ xs) = All (R x) xs × Pairwise R xs

-- no two elements are equal
abbrev pub Distinct : {A : Type 0} → List A → Type 0
Distinct xs = Pairwise (λ x y. x ≡ y → ⊥) xs

-- each number is below m
abbrev pub Below : ℕ → List ℕ → Type 0
Below m xs = All (λ x. x < m) xs

abbrev pub map : {A B : Type 0} → (A → B) → List A → List B
map f [] = []
map f (x ∷ xs) = f x ∷ map f xs

-- the test holds of each element
abbrev pub all : {A : Type 0} → (A → Bool) → List A → Bool
all f [] = true
all f (x ∷ xs) = f x && all f xs

-- x is not in the list
abbrev pub absent : ℕ → List ℕ → Bool
absent x [] = true
absent x (y ∷ ys) = pick (eqb x y) false (absent x ys)

-- no number stands twice in the list
abbrev pub none_twice : List ℕ → Bool
none_twice [] = true
none_twice (x ∷ xs) = absent x xs && none_twice xs

-- n numbers from i on
abbrev pub up_from : ℕ → ℕ → List ℕ
up_from i zero = []
up_from i (suc n) = i ∷ up_from (suc i) n

-- the i-th number of a list, counted from 1: the figure of member i in a list of the members' figures
unfoldable pub entry : List ℕ → ℕ → ℕ
entry xs i = get_or xs (i - 1) 0

-- the numbers xs, and 0 behind them up to m places
unfoldable pub filled : ℕ → List ℕ → List ℕ
filled m xs = xs ++ replicate (m - length xs) 0
