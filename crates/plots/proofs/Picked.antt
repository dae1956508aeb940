-- The picked list: what it is, and that nothing else is it.
use mathlib.Core.Path.{◌≡◌, refl, sym, ap, ◌∙◌, subst}
use mathlib.Core.Bool.{Bool, true, false}
use mathlib.Core.List.{List, [], ◌∷◌}
use Prim.Native.Nat.{ℕ, zero, suc, ◌+◌, ◌≤◌}
use native.Mathlib.Omega.{arith}
use lib.ListN.{length, take}
use lib.Seq.{take-take, length-take-le}
use Rattle.words.specs.Lists.{All, absent, up_from}
use Rattle.words.proofs.Lists.{All-to, All-both, All-take, Pairwise-to, Pairwise-take, up-length, up-within, up-distinct}
use Rattle.words.proofs.Tests.{false-true, equal_or_not, absent-first, absent-behind, absent_more}
use Rattle.plots.specs.Rank.{rank, comes_before}
use Rattle.plots.specs.Picked.{sorted, picked}
use Rattle.plots.specs.Claims.{StrictOrder, Ordered, IsPick, PickedExactly, PickedStart}
use Rattle.plots.proofs.Order.{plots-order}
use Rattle.plots.proofs.Presence.{present-more, present-all, up-present}
use Rattle.plots.proofs.Sorting.{sorted-length, sorted_all, sorted-absent, sorted-ordered}

module _ {before : ℕ → ℕ → Bool} (O : StrictOrder before) where
  never_both : {a b : ℕ} → before a b ≡ true → before b a ≡ true → ⊥
  never_both {a} {b} e f = false-true (sym (O.one_way a b e) ∙ f)

  -- what x comes before is not x
  pub not_itself : {x y : ℕ} → before x y ≡ true → y ≡ x → ⊥
  not_itself {x} e f = let h = subst (λ (z : ℕ). before x z ≡ true) f e in never_both h h

  -- the first k come before every number that is not among them
  first-before : (k : ℕ) (xs : List ℕ) → Ordered before xs → (a : ℕ) → absent a xs ≡ false → absent a (take k xs) ≡ true
      → All (λ b. before b a ≡ true) (take k xs)
  first-before zero xs o a e f = tt
  first-before (suc k) [] o a e f = tt
  first-before (suc k) (x ∷ xs) o a e f =
      let n = absent_more a x (take k xs) f in
      let i = sym (absent-behind a x xs n.0) ∙ e in
      (present-all (λ (y : ℕ). before x y ≡ true) a xs i o.0, first-before k xs o.1 a i n.1)

  -- ---- a list in order, whose numbers come before every other one of L, is the start of L
  abbrev Leads : List ℕ → List ℕ → Type 0
  Leads L xs = (a : ℕ) → absent a L ≡ false → absent a xs ≡ true → All (λ b. before b a ≡ true) xs

  leads-first : (l x : ℕ) (L xs : List ℕ) → Ordered before (l ∷ L) → Ordered before (x ∷ xs) → absent x (l ∷ L) ≡ false → Leads (l ∷ L) (x ∷ xs) → x ≡ l
  leads-first l x L xs o q i c =
      equal_or_not x l (λ e. e)
      (λ n. absurd (never_both (present-all (λ (y : ℕ). before l y ≡ true) x L (sym (absent-behind x l L n) ∙ i) o.0) (by-test n (absent l xs) refl)))
    where
      by-test : (x ≡ l → ⊥) → (t : Bool) → absent l xs ≡ t → before x l ≡ true
      by-test n true e = (c l (absent-first l l L refl) (absent-behind l x xs (λ f. n (sym f)) ∙ e)).0
      by-test n false e = present-all (λ (y : ℕ). before x y ≡ true) l xs e q.0

  leads-start : (L xs : List ℕ) → Ordered before L → Ordered before xs → All (λ x. absent x L ≡ false) xs → Leads L xs
      → xs ≡ take (length xs) L
  leads-start L [] o q i c = refl
  leads-start [] (x ∷ xs) o q i c = absurd (false-true (sym i.0))
  leads-start (l ∷ L) (x ∷ xs) o q i c =
      let e = leads-first l x L xs o q i.0 c in
      λ j. e j ∷ leads-start L xs o.1 q.1 (inside e) (leads e) j
    where
      inside : x ≡ l → All (λ y. absent y L ≡ false) xs
      inside e = All-both xs (λ y h g. sym (absent-behind y l L (λ f. not_itself h (f ∙ sym e))) ∙ g) q.0 i.1

      leads : x ≡ l → Leads L xs
      leads e a h g =
          let b = present-all (λ (y : ℕ). before l y ≡ true) a L h o.0 in
          (c a (present-more a l L h) (absent-behind a x xs (λ f. not_itself b (f ∙ e)) ∙ g)).1

-- ---- the plots 1 to N in an order
module _ {before : ℕ → ℕ → Bool} (O : StrictOrder before) (N : ℕ) where
  abbrev plots : List ℕ
  plots = sorted before (up_from 1 N)

  plots-ordered : Ordered before plots
  plots-ordered = sorted-ordered before O (up_from 1 N) (up-distinct 1 N)

  plots-within : All (λ x. (1 ≤ x) × (x ≤ N)) plots
  plots-within =
      sorted_all before (λ (x : ℕ). (1 ≤ x) × (x ≤ N)) (up_from 1 N)
      (All-to (up_from 1 N) (λ x w. (w.0, omega (arith, w.1))) (up-within 1 N (1 + N) (omega arith)))

  plots-all : (a : ℕ) → 1 ≤ a → a ≤ N → absent a plots ≡ false
  plots-all a h l = sorted-absent before a (up_from 1 N) ∙ up-present 1 N a h (omega arith)

  -- a list of some of them, in order, each before every one that is not in it
  pub record Leading (xs : List ℕ) : Type 0 where
    pub within : All (λ x. (1 ≤ x) × (x ≤ N)) xs
    pub in_order : Ordered before xs
    pub first : (a : ℕ) → 1 ≤ a → a ≤ N → absent a xs ≡ true → All (λ b. before b a ≡ true) xs

  -- the first k are such a list, and every such list is the first of them
  pub start-leads : (k : ℕ) → Leading (take k plots)
  start-leads k =
      record {
        within = All-take (λ (x : ℕ). (1 ≤ x) × (x ≤ N)) k plots plots-within;
        in_order = Pairwise-take (λ (x y : ℕ). before x y ≡ true) k plots plots-ordered;
        first = λ a l u e. first-before O k plots plots-ordered a (plots-all a l u) e;
      }

  pub only-start : {xs : List ℕ} → Leading xs → xs ≡ take (length xs) plots
  only-start {xs} l =
      leads-start O plots xs plots-ordered l.in_order (All-to xs (λ x u. plots-all x u.0 u.1) l.within)
      (λ a e g. let u = present-all (λ (x : ℕ). (1 ≤ x) × (x ≤ N)) a plots e plots-within in l.first a u.0 u.1 g)

  pub start-length : {k : ℕ} → k ≤ N → length (take k plots) ≡ k
  start-length {k} h = length-take-le k plots (omega (arith, sorted-length before (up_from 1 N), up-length 1 N))

-- ---- the claims
module _ (v radius N k : ℕ) where
  abbrev before : ℕ → ℕ → Bool
  before = comes_before (rank v radius)

  abbrev order : StrictOrder before
  order = plots-order (rank v radius)

  picked-is : k ≤ N → IsPick v radius N k (picked v radius N k)
  unfolding picked
  picked-is h =
      let l = start-leads order N k in
      record {
        size = start-length order N h;
        plots = l.within;
        different = Pairwise-to (take k (plots order N)) (λ x y e f. not_itself order e (sym f)) l.in_order;
        in_order = l.in_order;
        first = l.first;
      }

  only-picked : (xs : List ℕ) → IsPick v radius N k xs → xs ≡ picked v radius N k
  unfolding picked
  only-picked xs I =
      only-start order N (record { within = I.plots; in_order = I.in_order; first = I.first })
      ∙ ap (λ (i : ℕ). take i (plots order N)) I.size

pub picked-exactly : PickedExactly
picked-exactly v radius N k h xs =
    (λ e. subst (IsPick v radius N k) (sym e) (picked-is v radius N k h), only-picked v radius N k xs)

pub picked-start : PickedStart
unfolding picked
picked-start v radius N k m h = take-take k m (sorted (comes_before (rank v radius)) (up_from 1 N)) h
