-- Two lists of checks that refuse alike: what is answered and chosen by them is the same, with whatever stands behind them.
use mathlib.Core.Path.{◌≡◌, refl, sym, ap, ◌∙◌}
use mathlib.Core.Bool.{Bool, true, false}
use mathlib.Core.List.{List, [], ◌∷◌, ◌++◌, append-nil}
use mathlib.Core.Logic.{⊎_elim}
use Rattle.words.specs.Choice.{pick}
use Rattle.words.specs.Checks.{Check, Outcome, outcome, Met, if_met}
use Rattle.std.specs.Prelude.{Ok, Err}
use Rattle.words.proofs.Checks.{decided, value-met, value-exactly, refused-exactly}
use Rattle.words.proofs.Stages.{rest-outcome, front-outcome}

-- the choice by checks is read off their outcome
abbrev value_or : {A : Type 0} → Outcome A → A → A
value_or (Ok a) x = a
value_or (Err k) x = x

choice-outcome : {A : Type 0} (cs : List Check) (a x : A) → if_met cs a x ≡ value_or (outcome cs a) x
choice-outcome [] a x = refl
choice-outcome {A} (c ∷ cs) a x = split c.met (choice-outcome cs a x)
  where
    split : (t : Bool) → if_met cs a x ≡ value_or (outcome cs a) x → pick t (if_met cs a x) x ≡ value_or (pick t (outcome cs a) (Err c.by)) x
    split true e = e
    split false e = refl

module _ (cs ds : List Check) (e : outcome cs tt ≡ outcome ds (tt {0})) where
  pub met-too : Met cs → Met ds
  met-too m = (value-met ds tt tt (sym e ∙ (value-exactly Unit cs tt).1 m)).0

  -- what stands behind them need be the same only where they are met
  pub same-behind : {A : Type 0} (es fs : List Check) (a c : A) → (Met cs → outcome es a ≡ outcome fs c)
      → outcome (cs ++ es) a ≡ outcome (ds ++ fs) c
  same-behind es fs a c h =
      ⊎_elim
      (λ m. sym (rest-outcome cs es m a) ∙ h m ∙ rest-outcome ds fs (met-too m) c)
      (λ u.
      let v = (refused-exactly Unit ds tt u.0).0 (sym e ∙ (refused-exactly Unit cs tt u.0).1 u.1) in
      sym (front-outcome cs es u.0 u.1 a) ∙ front-outcome ds fs u.0 v c)
      (decided cs)

  pub same-value : {A : Type 0} (a c : A) → (Met cs → a ≡ c) → outcome cs a ≡ outcome ds c
  same-value a c h =
      sym (ap (λ (l : List Check). outcome l a) (append-nil cs))
      ∙ same-behind [] [] a c (λ m. ap Ok (h m))
      ∙ ap (λ (l : List Check). outcome l c) (append-nil ds)

  pub same-choice : {A : Type 0} (a c x : A) → (Met cs → a ≡ c) → if_met cs a x ≡ if_met ds c x
  same-choice {A} a c x h =
      choice-outcome cs a x ∙ ap (λ (o : Outcome A). value_or o x) (same-value a c h) ∙ sym (choice-outcome ds c x)
