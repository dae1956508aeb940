-- Lists printed by the former order. A list of the first plots by whatever order goes by different ranks is the picked one, if no plot of it
-- has the rank of another one. The former order is such, and it settles every tie the other way, so a list with a tie is not the picked one.
use mathlib.Core.Path.{◌≡◌, refl, sym, ap, ◌∙◌, subst}
use mathlib.Core.Bool.{Bool, true, false}
use mathlib.Core.List.{List, [], ◌∷◌}
use Prim.Native.Nat.{ℕ, ◌≤◌}
use native.Mathlib.Omega.{arith}
use borrow.Author.Tests.{ltb-true}
use lib.Dec.{ltb}
use lib.ListN.{take}
use Rattle.words.specs.Lists.{All, Pairwise, absent, up_from}
use Rattle.words.proofs.Lists.{All-both, All-to}
use Rattle.words.proofs.Tests.{equal_or_not, absent-behind}
use Rattle.plots.specs.Rank.{rank, comes_before}
use Rattle.plots.specs.Picked.{sorted, picked}
use Rattle.plots.specs.Claims.{StrictOrder, Ordered, came_before, printed, RanksAlone}
use Rattle.plots.proofs.Order.{higher, by-different, by_equal, plots-order, former-order}
use Rattle.plots.proofs.Presence.{present-all}
use Rattle.plots.proofs.Picked.{Leading, not_itself, start-leads, only-start, start-length}
use Rattle.plots.proofs.FarFirst.{far-before}

-- ---- an order that goes by different ranks
module _ (r : ℕ → ℕ) {before : ℕ → ℕ → Bool} (O : StrictOrder before) (goes : (a b : ℕ) → (r a ≡ r b → ⊥) → before a b ≡ ltb (r a) (r b)) where
  comes-too : (a b : ℕ) → before a b ≡ true → (r a ≡ r b → a ≡ b) → comes_before r a b ≡ true
  unfolding comes_before
  comes-too a b e h =
      equal_or_not (r a) (r b) (λ f. absurd (not_itself O e (sym (h f)))) (λ n. by-different r higher a b n ∙ sym (goes a b n) ∙ e)

  ordered-too : (N : ℕ) (xs : List ℕ) → All (λ x. (1 ≤ x) × (x ≤ N)) xs → ((a : ℕ) → 1 ≤ a → a ≤ N → All (λ x. r x ≡ r a → x ≡ a) xs)
      → Ordered before xs → Ordered (comes_before r) xs
  ordered-too N [] w h o = tt
  ordered-too N (x ∷ xs) w h o = (
    All-both xs (λ y u e. comes-too x y e (h y u.0 u.1).0) w.1 o.0,
    ordered-too N xs w.1 (λ a l u. (h a l u).1) o.1,
  )

  first_alone : (N k : ℕ) → k ≤ N → ((a : ℕ) → 1 ≤ a → a ≤ N → All (λ x. r x ≡ r a → x ≡ a) (take k (sorted before (up_from 1 N))))
      → take k (sorted before (up_from 1 N)) ≡ take k (sorted (comes_before r) (up_from 1 N))
  first_alone N k h alone =
      let xs = take k (sorted before (up_from 1 N)) in
      let l = start-leads O N k in
      only-start (plots-order r) N
      (record {
        within = l.within;
        in_order = ordered-too N xs l.within alone l.in_order;
        first = λ a m u e. All-both xs (λ x. comes-too x a) (l.first a m u e) (alone a m u);
      })
      ∙ ap (λ (i : ℕ). take i (sorted (comes_before r) (up_from 1 N))) (start-length O N h)

-- ---- a list in both orders
module _ (r : ℕ → ℕ) where
  goes-by-ranks : (a b : ℕ) → (r a ≡ r b → ⊥) → came_before r a b ≡ ltb (r a) (r b)
  unfolding came_before
  goes-by-ranks = by-different r ltb

  -- two plots that stand alike in both have different ranks
  apart : (a b : ℕ) → came_before r a b ≡ true → comes_before r a b ≡ true → r a ≡ r b → ⊥
  unfolding came_before
  apart a b e f g = omega (arith, ltb-true a b (sym (by_equal r ltb a b g) ∙ e), far-before r a b f g)

  all_apart : (xs : List ℕ) → Ordered (came_before r) xs → Ordered (comes_before r) xs → Pairwise (λ x y. r x ≡ r y → ⊥) xs
  all_apart [] o q = tt
  all_apart (x ∷ xs) o q = (All-both xs (apart x) o.0 q.0, all_apart xs o.1 q.1)

  present-once : (a : ℕ) (xs : List ℕ) → Pairwise (λ x y. r x ≡ r y → ⊥) xs → absent a xs ≡ false → All (λ x. r x ≡ r a → x ≡ a) xs
  present-once a [] p i = tt
  present-once a (x ∷ xs) p i =
      equal_or_not a x
      (λ e. (λ f. sym e, All-to xs (λ y n f. absurd (n (ap r (sym e) ∙ sym f))) p.0))
      (λ n.
      let h = sym (absent-behind a x xs n) ∙ i in
      (λ f. absurd (present-all (λ (y : ℕ). r x ≡ r y → ⊥) a xs h p.0 f), present-once a xs p.1 h))

  leads-once : (N : ℕ) (xs : List ℕ) → Leading (former-order r) N xs → Leading (plots-order r) N xs
      → (a : ℕ) → 1 ≤ a → a ≤ N → All (λ x. r x ≡ r a → x ≡ a) xs
  leads-once N xs l m a h u = by-test (absent a xs) refl
    where
      by-test : (t : Bool) → absent a xs ≡ t → All (λ x. r x ≡ r a → x ≡ a) xs
      by-test true e = All-both xs (λ x c d f. absurd (apart x a c d f)) (l.first a h u e) (m.first a h u e)
      by-test false e = present-once a xs (all_apart xs l.in_order m.in_order) e

pub ranks-alone : RanksAlone
unfolding picked
ranks-alone v radius N k h =
    let r = rank v radius in (
      λ e.
          leads-once r N (printed v radius N k) (start-leads (former-order r) N k)
          (subst (Leading (plots-order r) N) (sym e) (start-leads (plots-order r) N k)),
      first_alone r (former-order r) (goes-by-ranks r) N k h,
    )
