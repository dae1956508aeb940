-- Searches over the records of a board.
use Rattle.std.specs.Prelude.{Bool, List, [], ◌∷◌, ℕ, zero, suc, ◌<◌}
use Rattle.words.specs.Choice.{pick}
use Rattle.words.specs.Lists.{Pairwise}

-- the first of m numbers from i on that passes the test, i + m where there is none
abbrev pub first : (ℕ → Bool) → ℕ → ℕ → ℕ
first f i zero = i
first f i (suc m) = pick (f i) i (first f (suc i) m)

-- the numbers of a list that pass the test, in order
abbrev pub filter : (ℕ → Bool) → List ℕ → List ℕ
filter f [] = []
filter f (x ∷ xs) = pick (f x) (x ∷ filter f xs) (filter f xs)

-- each number is below all that follow it
abbrev pub Ascending : List ℕ → Type 0
Ascending xs = Pairwise (λ x y. x < y) xs
