-- By rank, equal ranks by a strict order of the numbers: that is a strict order whatever the ranks. So is the order of plots, the higher
-- number first, and so was the former one. Beside this only Keys.antt, FarFirst.antt, Former.antt and Ties.antt know how ties are settled.
use mathlib.Core.Path.{◌≡◌, refl, sym, ◌∙◌}
use mathlib.Core.Bool.{Bool, true, false}
use Prim.Native.Nat.{ℕ, ◌<◌}
use native.Mathlib.Omega.{arith}
use borrow.Author.Tests.{ltb-true, ltb-false, lt-ltb, le-ltb, eqb-true, eqb-false, eq-eqb, ne_eqb}
use lib.Dec.{eqb, ltb}
use Rattle.words.specs.Choice.{pick}
use Rattle.words.proofs.Tests.{false-true, refuted, pick_true, pick-false}
use Rattle.plots.specs.Rank.{comes_before}
use Rattle.plots.specs.Claims.{StrictOrder, PlotsOrder, came_before, FormerOrder}

module _ (r : ℕ → ℕ) (tie : ℕ → ℕ → Bool) where
  abbrev rank_order : ℕ → ℕ → Bool
  rank_order a b = pick (eqb (r a) (r b)) (tie a b) (ltb (r a) (r b))

  pub data Ranked (a b : ℕ) : Type 0 where
    by_rank : r a < r b → Ranked a b
    by_number : r a ≡ r b → tie a b ≡ true → Ranked a b

  pub ranked-true : (a b : ℕ) → rank_order a b ≡ true → Ranked a b
  ranked-true a b = by-test (eqb (r a) (r b)) refl
    where
      by-test : (t : Bool) → eqb (r a) (r b) ≡ t → pick t (tie a b) (ltb (r a) (r b)) ≡ true → Ranked a b
      by-test true e h = by_number (eqb-true (r a) (r b) e) h
      by-test false e h = by_rank (ltb-true (r a) (r b) h)

  pub true-ranked : (a b : ℕ) → Ranked a b → rank_order a b ≡ true
  true-ranked a b (by_rank l) = pick-false (eqb (r a) (r b)) _ _ (ne_eqb (r a) (r b) (λ e. omega arith)) ∙ lt-ltb _ _ l
  true-ranked a b (by_number e h) = pick_true (eqb (r a) (r b)) _ _ (eq-eqb _ _ e) ∙ h

  -- different ranks alone decide, and of plots of equal rank the numbers
  pub by-different : (a b : ℕ) → (r a ≡ r b → ⊥) → rank_order a b ≡ ltb (r a) (r b)
  by-different a b n = pick-false (eqb (r a) (r b)) _ _ (ne_eqb (r a) (r b) n)

  pub by_equal : (a b : ℕ) → r a ≡ r b → rank_order a b ≡ tie a b
  by_equal a b e = pick_true (eqb (r a) (r b)) _ _ (eq-eqb (r a) (r b) e)

  module _ (O : StrictOrder tie) where
    ranked-both : {a b c : ℕ} → Ranked a b → Ranked b c → Ranked a c
    ranked-both (by_rank l) (by_rank h) = by_rank (omega arith)
    ranked-both (by_rank l) (by_number e h) = by_rank (omega arith)
    ranked-both (by_number e l) (by_rank h) = by_rank (omega arith)
    ranked-both {a} {b} {c} (by_number e l) (by_number f h) = by_number (e ∙ f) (O.transitive a b c l h)

    never_both : {a b : ℕ} → Ranked a b → Ranked b a → ⊥
    never_both (by_rank l) (by_rank h) = omega arith
    never_both (by_rank l) (by_number e h) = omega arith
    never_both (by_number e l) (by_rank h) = omega arith
    never_both {a} {b} (by_number e l) (by_number f h) = false-true (sym (O.one_way a b l) ∙ h)

    -- of two different plots
    other-first : (a b : ℕ) → (a ≡ b → ⊥) → rank_order a b ≡ false → Ranked b a
    other-first a b n = by-test (eqb (r a) (r b)) refl
      where
        by-test : (t : Bool) → eqb (r a) (r b) ≡ t → pick t (tie a b) (ltb (r a) (r b)) ≡ false → Ranked b a
        by-test true e h = by_number (sym (eqb-true (r a) (r b) e)) (O.total a b n h)
        by-test false e h = by_rank (omega (arith, ltb-false (r a) (r b) h, eqb-false (r a) (r b) e))

    ranked-order : StrictOrder rank_order
    ranked-order =
        record {
          one_way = λ a b e. refuted (rank_order b a) (λ f. never_both (ranked-true a b e) (ranked-true b a f));
          transitive = λ a b c e f. true-ranked a c (ranked-both (ranked-true a b e) (ranked-true b c f));
          total = λ a b n e. true-ranked b a (other-first a b n e);
        }

-- ---- the order of numbers, and the same turned round
lower-first : StrictOrder ltb
lower-first =
    record {
      one_way = λ a b e. le-ltb b a (omega (arith, ltb-true a b e));
      transitive = λ a b c e f. lt-ltb a c (omega (arith, ltb-true a b e, ltb-true b c f));
      total = λ a b n e. lt-ltb b a (omega (arith, ltb-false a b e, n));
    }

abbrev pub higher : ℕ → ℕ → Bool
higher a b = ltb b a

higher-first : StrictOrder higher
higher-first =
    record {
      one_way = λ a b e. lower-first.one_way b a e;
      transitive = λ a b c e f. lower-first.transitive c b a f e;
      total = λ a b n e. lower-first.total b a (λ f. n (sym f)) e;
    }

-- ---- the order of plots
pub plots-order : PlotsOrder
unfolding comes_before
plots-order r = ranked-order r higher higher-first

abbrev pub Before : (ℕ → ℕ) → ℕ → ℕ → Type 0
Before r a b = Ranked r higher a b

module _ (r : ℕ → ℕ) (a b : ℕ) where
  pub before-true : comes_before r a b ≡ true → Before r a b
  unfolding comes_before
  before-true = ranked-true r higher a b

  pub true-before : Before r a b → comes_before r a b ≡ true
  unfolding comes_before
  true-before = true-ranked r higher a b

  pub before-false : (Before r a b → ⊥) → comes_before r a b ≡ false
  before-false n = refuted (comes_before r a b) (λ e. n (before-true e))

-- ---- the former one
pub former-order : FormerOrder
unfolding came_before
former-order r = ranked-order r ltb lower-first
