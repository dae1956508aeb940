-- Numbers that are in a list, and numbers that are not.
use mathlib.Core.Path.{◌≡◌, sym, ◌∙◌, subst}
use mathlib.Core.Bool.{false}
use mathlib.Core.List.{List, [], ◌∷◌}
use Prim.Native.Nat.{ℕ, zero, suc, ◌+◌, ◌≤◌, ◌<◌}
use native.Mathlib.Omega.{arith}
use Rattle.words.specs.Lists.{All, absent, up_from}
use Rattle.words.proofs.Tests.{false-true, equal_or_not, absent-first, absent-behind}

-- behind the first or not
pub present-more : (a x : ℕ) (xs : List ℕ) → absent a xs ≡ false → absent a (x ∷ xs) ≡ false
present-more a x xs e = equal_or_not a x (absent-first a x xs) (λ n. absent-behind a x xs n ∙ e)

-- what holds of each of a list holds of a number that is in it
pub present-all : (P : ℕ → Type 0) (a : ℕ) (xs : List ℕ) → absent a xs ≡ false → All P xs → P a
present-all P a [] e h = absurd (false-true (sym e))
present-all P a (x ∷ xs) e h =
    equal_or_not a x (λ f. subst P (sym f) h.0) (λ n. present-all P a xs (sym (absent-behind a x xs n) ∙ e) h.1)

pub up-present : (i n a : ℕ) → i ≤ a → a < i + n → absent a (up_from i n) ≡ false
up-present i zero a h l = absurd (omega arith)
up-present i (suc n) a h l =
    equal_or_not a i (absent-first a i (up_from (suc i) n))
    (λ e. present-more a i (up_from (suc i) n) (up-present (suc i) n a (omega (arith, e)) (omega arith)))
