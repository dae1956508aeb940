-- Commitments that a polynomial carries, true shares, and the place that commitments fix.
use Rattle.std.specs.Prelude.{◌≡◌, Bool, true, List, [], ◌∷◌, ℕ, zero, suc, ◌-◌, ◌≤◌, length, get_or, replicate, Ok, is_ok}
use Rattle.words.specs.Choice.{pick}
use Rattle.words.specs.Lists.{All, Distinct, Below, map, all, up_from}
use Rattle.field.specs.Residue.{residue_ops}
use Rattle.field.specs.Polynomial.{value_at, divided, scaled}
use Rattle.group.specs.Power.{pow}
use Rattle.group.specs.Element.{is_element}
use Rattle.group.specs.declared.Group.{Group}
use Rattle.sharing.specs.Setting.{members}
use Rattle.sharing.specs.Answer.{degree_in}
use Rattle.sharing.specs.declared.Setting.{Setting}

-- a base b to the values of the polynomial f at the members ms
unfoldable pub powers_at : Group → ℕ → List ℕ → List ℕ → List ℕ
powers_at G b f ms = map (λ i. pow G.p b (value_at G.q f i)) ms

-- a polynomial of t coefficients below q, the constant first
pub record Polynomial (S : Setting) (f : List ℕ) : Type 0 where
  pub size : length f ≡ S.t
  pub low : Below S.group.q f

-- the polynomial carries the commitments: each v is g to its value at the member
pub record Carries (S : Setting) (f vs : List ℕ) : Type 0 where
  pub polynomial : Polynomial S f
  pub powers : vs ≡ powers_at S.group S.group.g.0 f (members S.n)

-- the value at 0
abbrev pub secret_of : Setting → List ℕ → ℕ
secret_of S f = value_at S.group.q f 0

-- the shares of members are true to the polynomial: each is h to its value at the member
abbrev pub TrueShares : Setting → List ℕ → List ℕ → List ℕ → Type 0
TrueShares S f ms ss = ss ≡ powers_at S.group S.group.h.0 f ms

-- n elements
pub record Commitments (S : Setting) (vs : List ℕ) : Type 0 where
  pub size : length vs ≡ S.n
  pub elements : all (is_element S.group) vs ≡ true

-- t or more members of 1 to n, none twice
pub record Quorum (S : Setting) (ms : List ℕ) : Type 0 where
  pub within : All (λ i. (1 ≤ i) × (i ≤ S.n)) ms
  pub distinct : Distinct ms
  pub enough : S.t ≤ length ms

-- ---- check polynomials
-- n - t coefficients below q, the constant first
pub record CheckPolynomial (S : Setting) (ds : List ℕ) : Type 0 where
  pub size : length ds ≡ S.n - S.t
  pub low : Below S.group.q ds

abbrev pub Passes : Setting → List ℕ → List ℕ → Type 0
Passes S vs ds = degree_in S vs ds ≡ Ok tt

-- 1 at place k and 0 at the others of m places
abbrev pub unit_at : ℕ → ℕ → List ℕ
unit_at k zero = []
unit_at zero (suc m) = 1 ∷ replicate m 0
unit_at (suc k) (suc m) = 0 ∷ unit_at k m

-- the check polynomial that is the unit of place k
abbrev pub unit_of : Setting → ℕ → List ℕ
unit_of S k = unit_at k (S.n - S.t)

-- the lowest of the m numbers from k on at which the test fails, k + m where there is none
abbrev pub lowest : (ℕ → Bool) → ℕ → ℕ → ℕ
lowest test k zero = k
lowest test k (suc m) = pick (test k) (lowest test (suc k) m) k

-- the place that the commitments fix: the lowest whose unit does not pass
unfoldable pub place : Setting → List ℕ → ℕ
place S vs = lowest (λ k. is_ok (degree_in S vs (unit_of S k))) 0 (S.n - S.t)

-- the two lists differ at most at place k
abbrev pub AgreeOff : ℕ → List ℕ → List ℕ → Type 0
AgreeOff k xs ys = (j : ℕ) → (j ≡ k → ⊥) → get_or xs j 0 ≡ get_or ys j 0

-- for exponents es of the commitments: the sum of e_i times its weight times i to the power k, and these sums for each place k
unfoldable pub sum_at : Setting → List ℕ → ℕ → ℕ
sum_at S es k =
    divided (residue_ops S.group.q) (members S.n) (scaled (residue_ops S.group.q) k (members S.n) es)

unfoldable pub sums_at : Setting → List ℕ → List ℕ
sums_at S es = map (sum_at S es) (up_from 0 (S.n - S.t))
