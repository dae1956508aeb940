-- Laws of searches, filters and ascending lists, by induction over the numbers searched.
use mathlib.Core.Path.{◌≡◌, refl, sym, ap, ◌∙◌}
use mathlib.Core.Bool.{Bool, true, false}
use mathlib.Core.List.{List, [], ◌∷◌}
use mathlib.Core.Logic.{⊎_elim}
use Prim.Native.Nat.{ℕ, zero, suc, ◌+◌, ◌-◌, ◌<◌, ◌≤◌}
use native.Mathlib.Nat.{eq-or-lt_of_le}
use native.Mathlib.Decide.{dec_le}
use native.Mathlib.Omega.{arith}
use Rattle.words.specs.Choice.{pick}
use Rattle.words.specs.Lists.{All, map, up_from}
use Rattle.words.proofs.Lists.{All-to, map-all, up-within}
use Rattle.words.proofs.Tests.{false-true, pick-false}
use Rattle.board.specs.Search.{first, filter, Ascending}

-- ---- where a search of the m numbers from i on ends
pub record First (f : ℕ → Bool) (i m r : ℕ) : Type 0 where
  pub from : i ≤ r
  pub upto : r ≤ i + m
  pub before : (j : ℕ) → i ≤ j → j < r → f j ≡ false
  pub here : r < i + m → f r ≡ true

pub first_passes : (f : ℕ → Bool) (i m : ℕ) → First f i m (first f i m)
first_passes f i zero = record { from = omega arith; upto = omega arith; before = λ j h l. absurd (omega arith); here = λ h. absurd (omega arith) }
first_passes f i (suc m) = by-test (f i) refl (first_passes f (suc i) m)
  where
    by-test : (b : Bool) → f i ≡ b → First f (suc i) m (first f (suc i) m) → First f i (suc m) (pick b i (first f (suc i) m))
    by-test true e r = record { from = omega arith; upto = omega arith; before = λ j h l. absurd (omega arith); here = λ h. e }
    by-test false e r =
        record {
          from = omega (arith, r.from);
          upto = omega (arith, r.upto);
          before = λ j h l. ⊎_elim (λ w. ap f (sym w) ∙ e) (λ w. r.before j w l) (eq-or-lt_of_le h);
          here = λ h. r.here (omega arith);
        }

-- it does not go past a number that passes
pub first-low : (f : ℕ → Bool) (i m j : ℕ) → i ≤ j → f j ≡ true → first f i m ≤ j
first-low f i m j h e = elim (dec_le (first f i m) j) [
  | yes w ↦ w
  | no w ↦ absurd (false-true (sym ((first_passes f i m).before j h (omega arith)) ∙ e))
]

-- ---- filters
pub filter-all : (f : ℕ → Bool) (P : ℕ → Type 0) (xs : List ℕ) → All P xs → All (λ x. P x × (f x ≡ true)) (filter f xs)
filter-all f P [] h = tt
filter-all f P (x ∷ xs) h = by-test (f x) refl (filter-all f P xs h.1)
  where
    by-test : (b : Bool) → f x ≡ b → All (λ x. P x × (f x ≡ true)) (filter f xs) → All (λ x. P x × (f x ≡ true)) (pick b (x ∷ filter f xs) (filter f xs))
    by-test true e r = ((h.0, e), r)
    by-test false e r = r

pub filter-up : (f : ℕ → Bool) (i m : ℕ) → All (λ x. ((i ≤ x) × (x < i + m)) × (f x ≡ true)) (filter f (up_from i m))
filter-up f i m = filter-all f (λ x. (i ≤ x) × (x < i + m)) (up_from i m) (up-within i m (i + m) (omega arith))

pub filter_same : (f g : ℕ → Bool) (xs : List ℕ) → All (λ x. f x ≡ g x) xs → filter f xs ≡ filter g xs
filter_same f g [] h = refl
filter_same f g (x ∷ xs) h = λ j. pick (h.0 j) (x ∷ filter_same f g xs h.1 j) (filter_same f g xs h.1 j)

-- what no number before a run and none after it passes, the run gives whole
module _ (f : ℕ → Bool) where
  filter-skip : (i k m : ℕ) → ((x : ℕ) → i ≤ x → x < i + k → f x ≡ false) → filter f (up_from i (k + m)) ≡ filter f (up_from (i + k) m)
  filter-skip i zero m h =
      let a : 0 + m ≡ m = omega arith in
      let s : i ≡ i + 0 = omega arith in
      λ j. filter f (up_from (s j) (a j))
  filter-skip i (suc k) m h =
      let a : suc k + m ≡ suc (k + m) = omega arith in
      let s : suc i + k ≡ i + suc k = omega arith in
      ap (λ (x : ℕ). filter f (up_from i x)) a
      ∙ pick-false (f i) (i ∷ filter f (up_from (suc i) (k + m))) (filter f (up_from (suc i) (k + m))) (h i (omega arith) (omega arith))
      ∙ filter-skip (suc i) k m (λ x l u. h x (omega arith) (omega arith))
      ∙ ap (λ (x : ℕ). filter f (up_from x m)) s

  filter-cut : (i m k : ℕ) → ((x : ℕ) → i + m ≤ x → x < i + m + k → f x ≡ false) → filter f (up_from i (m + k)) ≡ filter f (up_from i m)
  filter-cut i zero k h =
      let a : 0 + k ≡ k + 0 = omega arith in
      ap (λ (x : ℕ). filter f (up_from i x)) a ∙ filter-skip i k 0 (λ x l u. h x (omega arith) (omega arith))
  filter-cut i (suc m) k h =
      let a : suc m + k ≡ suc (m + k) = omega arith in
      ap (λ (x : ℕ). filter f (up_from i x)) a
      ∙ ap (λ (l : List ℕ). pick (f i) (i ∷ l) l) (filter-cut (suc i) m k (λ x l u. h x (omega arith) (omega arith)))

  pub filter-run : (s e n : ℕ) → s ≤ e → e ≤ n → ((x : ℕ) → x < n → f x ≡ true → (s ≤ x) × (x < e))
      → filter f (up_from s (e - s)) ≡ filter f (up_from 0 n)
  filter-run s e n h l in-run =
      let a : n ≡ s + (e - s + (n - e)) = omega arith in
      let z : 0 + s ≡ s = omega arith in
      sym
      (ap (λ (x : ℕ). filter f (up_from 0 x)) a
      ∙ filter-skip 0 s (e - s + (n - e)) (λ x u w. outside x (omega arith) (λ i. omega arith))
      ∙ filter-cut (0 + s) (e - s) (n - e) (λ x u w. outside x (omega arith) (λ i. omega arith))
      ∙ ap (λ (x : ℕ). filter f (up_from x (e - s))) z)
    where
      outside : (x : ℕ) → x < n → ((s ≤ x) × (x < e) → ⊥) → f x ≡ false
      outside x u w = by-test (f x) refl
        where
          by-test : (t : Bool) → f x ≡ t → f x ≡ false
          by-test true e = absurd (w (in-run x u e))
          by-test false e = e

-- ---- ascending lists
-- a figure that grows over the numbers that pass ascends over what is kept of them
pub filter-ascending : (f : ℕ → Bool) (g : ℕ → ℕ) (i m : ℕ)
    → ((x y : ℕ) → x < y → y < i + m → f x ≡ true → f y ≡ true → g x < g y) → Ascending (map g (filter f (up_from i m)))
filter-ascending f g i zero h = tt
filter-ascending f g i (suc m) h = by-test (f i) refl (filter-ascending f g (suc i) m (λ x y l u. h x y l (omega arith)))
  where
    rest : List ℕ
    rest = filter f (up_from (suc i) m)

    by-test : (b : Bool) → f i ≡ b → Ascending (map g rest) → Ascending (map g (pick b (i ∷ rest) rest))
    by-test true e r =
        (map-all g (λ y. g i < y) rest (All-to rest (λ x s. h i x s.0.0 (omega (arith, s.0.1)) e s.1) (filter-up f (suc i) m)), r)
    by-test false e r = r

-- ---- n numbers from 1 to n that ascend are 1 to n
module _ (a : ℕ → ℕ) (n : ℕ) (up : (k : ℕ) → suc k < n → a k < a (suc k)) where
  climbs : (k j : ℕ) → k + j < n → a k + j ≤ a (k + j)
  climbs k zero h = let e : k + 0 ≡ k = omega arith in rw e (omega arith)
  climbs k (suc j) h =
      let e : k + suc j ≡ suc (k + j) = omega arith in
      let s = climbs k j (omega arith) in
      let t = up (k + j) (omega arith) in
      rw e (omega arith)

  pub fills : 1 ≤ a 0 → ((k : ℕ) → k < n → a k ≤ n) → (k : ℕ) → k < n → a k ≡ suc k
  fills low high k h =
      let last : k + (n - suc k) < n = omega arith in
      let e : 0 + k ≡ k = omega arith in
      omega (arith, rw e at (climbs 0 k (omega arith)), climbs k (n - suc k) last, high (k + (n - suc k)) last)
