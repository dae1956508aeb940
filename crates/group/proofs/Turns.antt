-- The turns of the loops over a table's records: the forms and the checks from the record i on, by those of the record i and those from the
-- next on. n is the number of records. Then the group of a number, by the number of records.
use mathlib.Core.Path.{◌≡◌, refl, ap, ◌∙◌}
use mathlib.Core.Bool.{true, false, ◌&&◌}
use mathlib.Core.List.{List, [], ◌∷◌}
use Prim.Native.Nat.{ℕ, suc, ◌+◌, ◌-◌, ◌≤◌, ◌<◌}
use native.Mathlib.Omega.{arith}
use Rattle.words.specs.Lists.{up_from}
use Rattle.words.specs.Checks.{◌unless◌, Outcome, outcome}
use Rattle.words.specs.Bytes.{records_in, record_at}
use borrow.Author.Tests.{le-leb, lt-leb}
use lib.ListN.{length, get_or}
use Rattle.words.proofs.Lists.{map-length, map_at, up-length, up_at}
use Rattle.words.proofs.Tests.{true-and}
use Rattle.group.specs.Table.{group, built_in, is_group_record, group_at, groups_from, groups_of, has_primes, has_generators, groups_checks, are_groups, is_group, group_of}
use Rattle.group.specs.declared.Group.{Group}
use Rattle.words.specs.declared.refusal.Refusal.TheVariants.{NotPrime, NoGenerator}

-- what the checks of the groups from i on come to
abbrev pub outcome_from : List ℕ → ℕ → ℕ → Outcome (Unit {0})
outcome_from T n i = outcome (groups_checks (groups_from T i (n - i))) tt

module _ (T : List ℕ) (n i : ℕ) where
  next : suc i ≡ i + 1
  next = omega arith

  -- ---- forms
  module _ (h : i < n) where
    left : n - i ≡ suc (n - (i + 1))
    left = omega arith

    pub forms_turn : are_groups T i (n - i) ≡ is_group_record (i + 1) (record_at T i) && are_groups T (i + 1) (n - (i + 1))
    forms_turn =
        ap (are_groups T i) left ∙ ap (λ (j : ℕ). is_group_record j (record_at T i) && are_groups T j (n - (i + 1))) next

    -- ---- groups
    pub groups_turn : outcome_from T n i
        ≡ outcome (NotPrime unless has_primes (group_at T i) ∷ NoGenerator unless has_generators (group_at T i) ∷ groups_checks (groups_from T (i + 1) (n - (i + 1)))) tt
    groups_turn =
        ap (λ (m : ℕ). outcome (groups_checks (groups_from T i m)) (tt {0})) left
        ∙ ap (λ (j : ℕ). outcome (NotPrime unless has_primes (group_at T i) ∷ NoGenerator unless has_generators (group_at T i) ∷ groups_checks (groups_from T j (n - (i + 1)))) (tt {0})) next

-- ---- the group of a number
pub no_bytes : (T : List ℕ) → length T ≡ 0 → groups_of T ≡ built_in
unfolding groups_of
no_bytes [] e = refl
no_bytes (b ∷ bs) e = absurd (omega arith)

some_bytes : (T : List ℕ) → (length T ≡ 0 → ⊥) → groups_of T ≡ groups_from T 0 (records_in T)
unfolding groups_of
some_bytes [] e = absurd (e refl)
some_bytes (b ∷ bs) e = refl

pub number-zero : (Gs : List Group) (k : ℕ) → k < 1 → is_group Gs k ≡ false
unfolding is_group
number-zero Gs k h = simp (lt-leb 1 k h)

module _ (T : List ℕ) (k : ℕ) (b : length T ≡ 0 → ⊥) (h : 1 ≤ k) where
  many : length (groups_of T) ≡ records_in T
  many = ap length (some_bytes T b) ∙ map-length (group_at T) (up_from 0 (records_in T)) ∙ up-length 0 (records_in T)

  pub number-high : records_in T < k → is_group (groups_of T) k ≡ false
  unfolding is_group
  number-high l = simp (le-leb 1 k h, lt-leb k (length (groups_of T)) (omega (arith, many)))

  pub number_at : k ≤ records_in T → (is_group (groups_of T) k ≡ true) × (group_of (groups_of T) k ≡ group_at T (k - 1))
  unfolding is_group group_of
  number_at l = (
    true-and _ _ (le-leb 1 k h) (le-leb k (length (groups_of T)) (omega (arith, many))),
    ap (λ (Gs : List Group). get_or Gs (k - 1) (group 0 0 0 0)) (some_bytes T b)
        ∙ map_at (group_at T) (up_from 0 (records_in T)) (k - 1) 0 (group 0 0 0 0) (omega (arith, up-length 0 (records_in T)))
        ∙ ap (group_at T) (up_at 0 (records_in T) (k - 1) (omega arith) ∙ omega arith),
  )
