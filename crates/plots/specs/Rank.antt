-- The rank that a draw value gives a plot, and the order of plots.
use Rattle.std.specs.Prelude.{Bool, List, [], ◌∷◌, ℕ, eqb, ltb, take}
use Rattle.words.specs.Choice.{pick}
use Rattle.words.specs.Bytes.{words_bytes, big_endian}
use Rattle.sha256.specs.Hash.{hash}

-- what a plot's message begins with
abbrev pub plot_tag : ℕ
plot_tag = 0x4C

-- what is hashed for a plot: a byte each for the tag and the radius, then the draw value v and the plot's number
unfoldable pub rank_message : ℕ → ℕ → ℕ → List ℕ
rank_message v radius plot = plot_tag ∷ radius ∷ words_bytes (v ∷ plot ∷ [])

-- the rank of a plot: the first four bytes of the digest, as a number
unfoldable pub rank : ℕ → ℕ → ℕ → ℕ
rank v radius plot = big_endian 0 (take 4 (hash (rank_message v radius plot)))

-- the plot a comes before the plot b: the smaller rank first, equal ranks by the higher number, which is farther from the road
unfoldable pub comes_before : (ℕ → ℕ) → ℕ → ℕ → Bool
comes_before r a b = pick (eqb (r a) (r b)) (ltb b a) (ltb (r a) (r b))
