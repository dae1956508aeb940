-- What is claimed of picked lists: they are what the request asks for, nothing else is, and every office has the same.
use Rattle.std.specs.Prelude.{◌≡◌, Bool, true, false, List, ◌↔◌, ℕ, ◌≤◌, ◌<◌, eqb, ltb, length, take, Ok, Err}
use Rattle.words.specs.Choice.{pick}
use Rattle.words.specs.Lists.{All, Pairwise, Distinct, absent, up_from}
use Rattle.words.specs.declared.refusal.Refusal.{Refusal}
use Rattle.group.specs.declared.Element.{Element}
use Rattle.plots.specs.Rank.{rank, comes_before}
use Rattle.plots.specs.Picked.{sorted, picked, pick_outcome, lent_plots}

-- ---- the order of plots
-- of two different plots one comes before the other, and never both
pub record StrictOrder (before : ℕ → ℕ → Bool) : Type 0 where
  pub one_way : (a b : ℕ) → before a b ≡ true → before b a ≡ false
  pub transitive : (a b c : ℕ) → before a b ≡ true → before b c ≡ true → before a c ≡ true
  pub total : (a b : ℕ) → (a ≡ b → ⊥) → before a b ≡ false → before b a ≡ true

-- whatever the ranks
abbrev pub PlotsOrder : Type 0
PlotsOrder = (r : ℕ → ℕ) → StrictOrder (comes_before r)

-- ---- the picked list
-- each plot of a list comes before all that follow it
abbrev pub Ordered : (ℕ → ℕ → Bool) → List ℕ → Type 0
Ordered before xs = Pairwise (λ x y. before x y ≡ true) xs

-- k different plots of 1 to N, in order, each of them before every plot that is not picked; so, one_way, no such plot is before one of them
pub record IsPick (v radius N k : ℕ) (xs : List ℕ) : Type 0 where
  pub size : length xs ≡ k
  pub plots : All (λ x. (1 ≤ x) × (x ≤ N)) xs
  pub different : Distinct xs
  pub in_order : Ordered (comes_before (rank v radius)) xs
  pub first : (a : ℕ) → 1 ≤ a → a ≤ N → absent a xs ≡ true → All (λ b. comes_before (rank v radius) b a ≡ true) xs

-- the picked list is such a list, and it is the only one
abbrev pub PickedExactly : Type 0
PickedExactly = (v radius N k : ℕ) → k ≤ N → (xs : List ℕ) → (xs ≡ picked v radius N k) ↔ IsPick v radius N k xs

-- the list of fewer plots is the start of the list of more
abbrev pub PickedStart : Type 0
PickedStart = (v radius N k m : ℕ) → k ≤ m → take k (picked v radius N m) ≡ picked v radius N k

-- ---- the operation
-- where it passes, the lent list is the picked one, and such a list; where it refuses, the list is as it was
pub record Lent (T : List ℕ) (number : ℕ) (v : Element) (radius N k : ℕ) (out : List ℕ) : Type 0 where
  pub passed : pick_outcome T number v radius N k (length out) ≡ Ok tt
      → (lent_plots T number v radius N k out ≡ picked v.0 radius N k) × IsPick v.0 radius N k (lent_plots T number v radius N k out)
  pub kept : (i : Refusal) → pick_outcome T number v radius N k (length out) ≡ Err i → lent_plots T number v radius N k out ≡ out

abbrev pub PickLent : Type 0
PickLent = (T : List ℕ) (number : ℕ) (v : Element) (radius N k : ℕ) (out : List ℕ) → Lent T number v radius N k out

-- every office with the same value, radius, N and k has the same list, whatever its table and its group and whatever its list held before
abbrev pub SamePlots : Type 0
SamePlots =
    (T T' : List ℕ) (number number' : ℕ) (v : Element) (radius N k : ℕ) (out out' : List ℕ)
    → pick_outcome T number v radius N k (length out) ≡ Ok tt → pick_outcome T' number' v radius N k (length out') ≡ Ok tt
    → lent_plots T number v radius N k out ≡ lent_plots T' number' v radius N k out'

-- ---- plots of equal rank
-- of two plots of equal rank the one of the higher number stands first in the list, and where that one is left out the other is too
pub record FarFirst (v radius N k : ℕ) : Type 0 where
  pub in_list : Pairwise (λ x y. rank v radius x ≡ rank v radius y → y < x) (picked v radius N k)
  pub left_out : (a : ℕ) → 1 ≤ a → a ≤ N → absent a (picked v radius N k) ≡ true
      → All (λ x. rank v radius x ≡ rank v radius a → a < x) (picked v radius N k)

abbrev pub PickedFarFirst : Type 0
PickedFarFirst = (v radius N k : ℕ) → k ≤ N → FarFirst v radius N k

-- equal ranks occur: the value 211 gives two plots of radius 15 one rank, and the higher number comes first
pub record EqualRanks : Type 0 where
  pub lower : rank 211 15 1630 ≡ 143263563
  pub higher : rank 211 15 1857 ≡ 143263563
  pub first : comes_before (rank 211 15) 1857 1630 ≡ true

-- ---- lists printed while the lower number came first
-- the order by which they were picked: the smaller rank first, equal ranks by the lower number
unfoldable pub came_before : (ℕ → ℕ) → ℕ → ℕ → Bool
came_before r a b = pick (eqb (r a) (r b)) (ltb a b) (ltb (r a) (r b))

abbrev pub FormerOrder : Type 0
FormerOrder = (r : ℕ → ℕ) → StrictOrder (came_before r)

-- the list that was printed
abbrev pub printed : ℕ → ℕ → ℕ → ℕ → List ℕ
printed v radius N k = take k (sorted (came_before (rank v radius)) (up_from 1 N))

-- no plot of the list has the rank of another one of the N
abbrev pub RanksOnce : ℕ → ℕ → ℕ → List ℕ → Type 0
RanksOnce v radius N xs = (a : ℕ) → 1 ≤ a → a ≤ N → All (λ x. rank v radius x ≡ rank v radius a → x ≡ a) xs

-- exactly then the printed list is the one that is picked now: ranks alone have made it
abbrev pub RanksAlone : Type 0
RanksAlone =
    (v radius N k : ℕ) → k ≤ N → (printed v radius N k ≡ picked v radius N k) ↔ RanksOnce v radius N (printed v radius N k)
