-- Members who have something among the numbers that pass a test: different members have different ones, so as many numbers pass at least.
use mathlib.Core.Path.{◌≡◌, sym, ap, ◌∙◌}
use mathlib.Core.Bool.{Bool, true, false}
use mathlib.Core.List.{List, [], ◌∷◌}
use mathlib.Core.Logic.{⊎_elim}
use Prim.Native.Nat.{ℕ, zero, suc, ◌+◌, ◌<◌, ◌≤◌}
use native.Mathlib.Nat.{eq-or-lt_of_le}
use native.Mathlib.Omega.{arith}
use borrow.Author.Tests.{eq-eqb, ne_eqb}
use lib.ListN.{length}
use lib.Dec.{eqb}
use Rattle.words.specs.Choice.{pick}
use Rattle.words.specs.Lists.{All, Distinct, up_from}
use Rattle.words.proofs.Lists.{All-both}
use Rattle.words.proofs.Tests.{pick_true, pick-false}
use Rattle.board.specs.Search.{filter}

-- the test that x alone fails beside those of f
abbrev but : (ℕ → Bool) → ℕ → ℕ → Bool
but f x y = pick (eqb y x) false (f y)

module _ (f : ℕ → Bool) (x : ℕ) where
  fewer : (ys : List ℕ) → length (filter (but f x) ys) ≤ length (filter f ys)
  fewer [] = omega arith
  fewer (y ∷ ys) = by_tests (eqb y x) (f y) (fewer ys)
    where
      by_tests : (s t : Bool) → length (filter (but f x) ys) ≤ length (filter f ys)
          → length (pick (pick s false t) (y ∷ filter (but f x) ys) (filter (but f x) ys)) ≤ length (pick t (y ∷ filter f ys) (filter f ys))
      by_tests true true h = omega arith
      by_tests true false h = h
      by_tests false true h = omega arith
      by_tests false false h = h

  one_fewer : (i m : ℕ) → i ≤ x → x < i + m → f x ≡ true → length (filter (but f x) (up_from i m)) < length (filter f (up_from i m))
  one_fewer i zero h l e = absurd (omega arith)
  one_fewer i (suc m) h l e = ⊎_elim here (λ w. later w (f i) (one_fewer (suc i) m w (omega arith) e)) (eq-or-lt_of_le h)
    where
      rest : List ℕ
      rest = up_from (suc i) m

      here : i ≡ x → length (filter (but f x) (i ∷ rest)) < length (filter f (i ∷ rest))
      here w =
          let less = pick_true (eqb i x) false (f i) (eq-eqb i x w) in
          let more = ap f w ∙ e in
          rw (less, more) (omega (arith, fewer rest))

      later : i < x → (t : Bool) → length (filter (but f x) rest) < length (filter f rest)
          → length (pick (pick (eqb i x) false t) (i ∷ filter (but f x) rest) (filter (but f x) rest))
          < length (pick t (i ∷ filter f rest) (filter f rest))
      later w true r = rw (ne_eqb i x (λ s. omega arith)) (omega arith)
      later w false r = rw (ne_eqb i x (λ s. omega arith)) (omega arith)

-- n is the bound of the numbers, and g i the member who has i
pub counted : (g : ℕ → ℕ) (n : ℕ) (f : ℕ → Bool) (ms : List ℕ) → Distinct ms → All (λ m. (i : ℕ) × (i < n) × (f i ≡ true) × (g i ≡ m)) ms
    → length ms ≤ length (filter f (up_from 0 n))
counted g n f [] d a = omega arith
counted g n f (m ∷ ms) d a =
    let i = a.0.0 in
    let less = one_fewer f i 0 n (omega arith) (omega (arith, a.0.1)) a.0.2 in
    let rest = counted g n (but f i) ms d.1
    (All-both ms
    (λ k u s.
    let apart = ne_eqb s.0 i (λ e. u (sym a.0.3 ∙ ap g (sym e) ∙ s.3)) in
    (s.0, s.1, pick-false (eqb s.0 i) false (f s.0) apart ∙ s.2, s.3))
    d.0 a.1) in
    omega arith
