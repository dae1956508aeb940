-- What the answer of a look-up tells: a value, that there is a group of that number; a refusal, that there is none.
-- Then what an operation by a table and a number does: what it does in the group, where there is one.
use mathlib.Core.Path.{◌≡◌, sym, ◌∙◌, subst}
use mathlib.Core.Bool.{true, false}
use mathlib.Core.List.{List, [], ◌∷◌, ◌++◌}
use mathlib.Core.Logic.{◌↔◌, ⊎_elim}
use Prim.Native.Nat.{ℕ}
use Rattle.words.specs.Checks.{Check, ◌unless◌, outcome, Met, if_met, Outcome}
use Rattle.words.proofs.Checks.{value-met, refused-exactly}
use Rattle.words.proofs.Stages.{met-both, rest-outcome, given-refused, given-value, given-kept, given-choice}
use Rattle.group.specs.Table.{groups_of, table_checks, is_group, group_of, looked_up, group_checks, group_outcome, in_group, in_group_else}
use Rattle.group.specs.declared.Group.{Group}
use Rattle.group.proofs.Table.{Sound, group-sound}
use Rattle.std.specs.Prelude.{Ok, Err}
use Rattle.words.specs.declared.refusal.Refusal.TheVariants.{UnknownGroup}
use Rattle.words.specs.declared.refusal.Refusal.{Refusal}

-- ---- the group of a number among groups
module _ (Gs : List Group) (k : ℕ) {r : Outcome Group} (e : r ≡ looked_up Gs k) where
  pub group-value : {G : Group} → r ≡ Ok G → (is_group Gs k ≡ true) × (group_of Gs k ≡ G)
  group-value {G} f = let s = value-met (UnknownGroup unless is_group Gs k ∷ []) (group_of Gs k) G (sym e ∙ f) in (s.0.0, s.1)

  pub group-refused : {n : Refusal} → r ≡ Err n → is_group Gs k ≡ false
  group-refused {n} f =
      ⊎_elim (λ u. u.0) (λ u. absurd u.1) ((refused-exactly Group (UnknownGroup unless is_group Gs k ∷ []) (group_of Gs k) n).0 (sym e ∙ f))

-- ---- the group of a table's number
pub met-sound : (T : List ℕ) (k : ℕ) → Met (group_checks T k) → Sound (group_of (groups_of T) k)
unfolding group_checks
met-sound T k m = let s = met-both (table_checks T) (UnknownGroup unless is_group (groups_of T) k ∷ []) m in group-sound T s.0 k s.1.0

pub found-sound : (T : List ℕ) (k : ℕ) {r : Outcome Group} → r ≡ group_outcome T k → {G : Group} → r ≡ Ok G → Sound G
found-sound T k e {G} f =
    let s = value-met (group_checks T k) (group_of (groups_of T) k) G (sym e ∙ f) in
    subst Sound s.1 (met-sound T k s.0)

-- ---- an operation by a table and a number
module _ {A : Type 0} (T : List ℕ) (k : ℕ) (checks : Group → List Check) (answer : Group → A) where
  abbrev found : Group
  found = group_of (groups_of T) k

  -- a value by the number is one in its group, which there is in an accepted table
  pub in-group-exactly : (a : A)
      → (in_group T k checks answer ≡ Ok a) ↔ (Met (group_checks T k) × (outcome (checks found) (answer found) ≡ Ok a))
  unfolding in_group
  in-group-exactly a =
      let rest : Met (group_checks T k) → outcome (checks found) (answer found) ≡ in_group T k checks answer =
      λ g. rest-outcome (group_checks T k) (checks found) g (answer found) in (
        (λ e. let g = (met-both (group_checks T k) (checks found) (value-met (group_checks T k ++ checks found) (answer found) a e).0).0 in (g, rest g ∙ e)),
        λ w. sym (rest w.0) ∙ w.1,
      )

  -- by the answer r of the function that gives the group
  module _ {r : Outcome Group} (e : r ≡ group_outcome T k) where
    pub in-group-refused : {n : Refusal} → r ≡ Err n → Err n ≡ in_group T k checks answer
    unfolding in_group
    in-group-refused f = given-refused (group_checks T k) found checks answer (sym e ∙ f)

    pub in-group-value : {G : Group} → r ≡ Ok G → outcome (checks G) (answer G) ≡ in_group T k checks answer
    unfolding in_group
    in-group-value f = given-value (group_checks T k) found checks answer (sym e ∙ f)

    pub in-group-kept : {n : Refusal} → r ≡ Err n → (old : A) → old ≡ in_group_else T k checks answer old
    unfolding in_group_else
    in-group-kept f old = given-kept (group_checks T k) found checks answer (sym e ∙ f) old

    pub in-group-lent : {G : Group} → r ≡ Ok G → (old : A) → if_met (checks G) (answer G) old ≡ in_group_else T k checks answer old
    unfolding in_group_else
    in-group-lent f old = given-choice (group_checks T k) found checks answer (sym e ∙ f) old
