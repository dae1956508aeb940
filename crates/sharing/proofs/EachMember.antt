-- The members 1 to n: a fact of each as a fact of their list, loops over them, and the test of a number as a fact.
use mathlib.Core.Path.{◌≡◌, refl, sym, ap, ◌∙◌}
use mathlib.Core.Bool.{Bool, true, false, ◌&&◌}
use mathlib.Core.List.{List, [], ◌∷◌}
use mathlib.Core.Logic.{◌↔◌}
use Prim.Native.Nat.{ℕ, ◌+◌, ◌-◌, ◌≤◌, ◌<◌}
use native.Mathlib.Decide.{dec_lt}
use native.Mathlib.Omega.{arith}
use borrow.Author.Tests.{leb-true, le-leb}
use lib.ListN.{length, get_or, take, drop, set}
use lib.Dec.{leb}
use lib.Seq.{length-take-le, ext_get_or, get_or-take}
use Rattle.words.specs.Lists.{All, Distinct, map, all, entry, filled}
use Rattle.words.proofs.Lists.{Pairwise-at, map-length, map_at, up-length, up_at, up-each, each-up, run-front, run-next}
use Rattle.words.proofs.Tests.{false-true, refuted, and-true, true-and, all_true, true-all, all_map, all-next, all-stop, all_end}
use Rattle.sharing.specs.Setting.{is_member, members}
use Rattle.sharing.proofs.Loops.{member-at}

-- ---- a fact of each member
module _ (P : ℕ → Type 0) (n : ℕ) where
  members-each : All P (members n) → (i : ℕ) → 1 ≤ i → i ≤ n → P i
  members-each a i h l = up-each P 1 n a i h (omega arith)

  pub each-members : ((i : ℕ) → 1 ≤ i → i ≤ n → P i) → All P (members n)
  each-members f = each-up P 1 n (λ i h l. f i h (omega arith))

-- a test of each
pub members-exactly : (f : ℕ → Bool) (n : ℕ) → (all f (members n) ≡ true) ↔ ((i : ℕ) → 1 ≤ i → i ≤ n → f i ≡ true)
members-exactly f n =
    (λ e. members-each (λ i. f i ≡ true) n (all_true f (members n) e), λ h. true-all f (members n) (each-members (λ i. f i ≡ true) n h))

-- the test of all fails where it fails of one
pub members-false : (f : ℕ → Bool) (n i : ℕ) → 1 ≤ i → i ≤ n → f i ≡ false → all f (members n) ≡ false
members-false f n i h l e = refuted (all f (members n)) (λ s. false-true (sym e ∙ (members-exactly f n).0 s i h l))

-- ---- members by index, from 0
module _ (n k : ℕ) (h : k < n) where
  pub index-within : k < length (members n)
  index-within = omega (arith, up-length 1 n)

  pub number_at : get_or (members n) k 0 ≡ k + 1
  number_at = up_at 1 n k h ∙ omega arith

  -- the figure of each, in the list of their figures
  figure-at : (f : ℕ → ℕ) → get_or (map f (members n)) k 0 ≡ f (k + 1)
  figure-at f = map_at f (members n) k 0 0 index-within ∙ ap f number_at

-- where no two figures are equal, two members with one figure are one
pub members-own : (f : ℕ → ℕ) (n : ℕ) → Distinct (map f (members n)) → (i j : ℕ) → 1 ≤ i → i ≤ n → 1 ≤ j → j ≤ n → f i ≡ f j → i ≡ j
members-own f n d = λ i j h k g l e.
    elim (dec_lt i j) [
      | yes u ↦ absurd (apart i j h u l e)
      | no u ↦ elim (dec_lt j i) [ yes v ↦ absurd (apart j i g v k (sym e)) | no v ↦ omega arith ]
    ]
  where
    at : (i : ℕ) → 1 ≤ i → i ≤ n → get_or (map f (members n)) (i - 1) 0 ≡ f i
    at i h k = let e : i - 1 + 1 ≡ i = omega arith in figure-at n (i - 1) (omega arith) f ∙ ap f e

    apart : (i j : ℕ) → 1 ≤ i → i < j → j ≤ n → f i ≡ f j → ⊥
    apart i j h u l e =
        Pairwise-at (λ x y. x ≡ y → ⊥) (map f (members n)) (i - 1) (j - 1) 0 (omega arith)
        (omega (arith, map-length f (members n), up-length 1 n)) d (at i h (omega arith) ∙ e ∙ sym (at j (omega arith) l))

-- ---- a loop that tests every member: all pass exactly if those from index k on do
module _ (f : ℕ → Bool) (n k : ℕ) (e : all f (members n) ≡ all f (drop k (members n))) where
  pub tests-stop : k < n → f (k + 1) ≡ false → false ≡ all f (members n)
  tests-stop h t = sym (e ∙ all-stop f (members n) k 0 (index-within n k h) (ap f (number_at n k h) ∙ t))

  pub tests-next : k < n → f (k + 1) ≡ true → all f (members n) ≡ all f (drop (k + 1) (members n))
  tests-next h t = e ∙ all-next f (members n) k 0 (index-within n k h) (ap f (number_at n k h) ∙ t)

  pub tests-end : k ≡ n → true ≡ all f (members n)
  tests-end s = sym (e ∙ all_end f (members n) k (s ∙ sym (up-length 1 n)))

-- ---- a loop that fills an array with f at the first k members, 0 behind
module _ (f : ℕ → ℕ) (k : ℕ) {l : List ℕ} (e : l ≡ filled 31 (map f (members k))) where
  pub members-next : {x : ℕ} → k < 31 → x ≡ f (k + 1) → set l k x ≡ filled 31 (map f (members (k + 1)))
  members-next h v = let next : k + 1 ≡ 1 + k = omega arith in run-next f 31 1 k e h (v ∙ ap f next)

  pub members-front : take k l ≡ map f (members k)
  members-front = run-front f 31 1 k e

-- ---- tests
pub member-exactly : (n i : ℕ) → (is_member n i ≡ true) ↔ ((1 ≤ i) × (i ≤ n))
unfolding is_member
member-exactly n i = (
  λ e. let s = and-true (leb 1 i) (leb i n) e in (leb-true 1 i s.0, leb-true i n s.1),
  λ s. true-and (leb 1 i) (leb i n) (le-leb 1 i s.0) (le-leb i n s.1),
)

-- ---- two functions of the member that agree on the members
pub record Agree (n : ℕ) (f g : ℕ → ℕ) : Type 0 where
  pub at : (i : ℕ) → 1 ≤ i → i ≤ n → f i ≡ g i

-- the entries of a list that a function gives are its values
pub member-entry : (f : ℕ → ℕ) (n i : ℕ) → 1 ≤ i → i ≤ n → entry (map f (members n)) i ≡ f i
unfolding entry
member-entry f n i h k = map_at f (members n) (i - 1) 0 0 (omega (arith, up-length 1 n)) ∙ ap f (member-at n i h k)

-- so are those of an array that it fills
pub filled-agree : (f : ℕ → ℕ) (n : ℕ) {l : List ℕ} → l ≡ filled 31 (map f (members n)) → Agree n (entry l) f
unfolding entry
filled-agree f n {l} e =
    record {
      at = λ i h k.
          sym (get_or-take n l (i - 1) 0 (omega arith))
          ∙ ap (λ (x : List ℕ). get_or x (i - 1) 0) (members-front f n e)
          ∙ member-entry f n i h k;
    }

-- the first n figures of a list are its entries
pub entries-front : (l : List ℕ) (n : ℕ) → n ≤ length l → take n l ≡ map (entry l) (members n)
unfolding entry
entries-front l n h =
    let s = length-take-le n l h in
    let e = map-length (entry l) (members n) ∙ up-length 1 n in
    ext_get_or 0 (take n l) (map (entry l) (members n)) (s ∙ sym e)
    (λ k b.
    let number : get_or (members n) k 0 - 1 ≡ k = ap (λ (x : ℕ). x - 1) (number_at n k (omega arith)) ∙ omega arith in
    get_or-take n l k 0 (omega arith)
    ∙ sym (map_at (entry l) (members n) k 0 0 (omega (arith, up-length 1 n)) ∙ ap (λ (x : ℕ). get_or l x 0) number))

pub entries_all : (f : ℕ → Bool) (l : List ℕ) (n : ℕ) → n ≤ length l → all f (take n l) ≡ all (λ i. f (entry l i)) (members n)
entries_all f l n h = ap (all f) (entries-front l n h) ∙ all_map f (entry l) (members n)

-- tests that agree on the members
pub tests_same : (f g : ℕ → Bool) (n : ℕ) → ((i : ℕ) → 1 ≤ i → i ≤ n → f i ≡ g i) → all f (members n) ≡ all g (members n)
tests_same f g n h = same (members n) (each-members (λ i. f i ≡ g i) n h)
  where
    same : (xs : List ℕ) → All (λ i. f i ≡ g i) xs → all f xs ≡ all g xs
    same [] a = refl
    same (x ∷ xs) a = λ j. a.0 j && same xs a.1 j
