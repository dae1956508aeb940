-- Checks that refuse by one k and are met can be left out: nothing is answered by them.
use mathlib.Core.Path.{◌≡◌, refl, sym, ap, ◌∙◌}
use mathlib.Core.Bool.{Bool, true, false, not}
use mathlib.Core.List.{List, [], ◌∷◌}
use Rattle.words.specs.Choice.{pick}
use Rattle.words.specs.Lists.{all}
use Rattle.words.specs.Checks.{Check, Outcome, outcome, if_met, without, MetBy}
use Rattle.words.specs.Numbers.{is_same}
use Rattle.words.specs.declared.refusal.Refusal.{Refusal}
use Rattle.std.specs.Prelude.{Err}
use Rattle.words.specs.Claims.{WithoutOutcome, WithoutChoice}
use Rattle.words.proofs.Lists.{All-to}
use Rattle.words.proofs.NumberLaws.{same-refusal, same_refl}
use Rattle.words.proofs.Tests.{false-true, all_true, pick_true}

pub without-outcome : WithoutOutcome
without-outcome A k [] a m = refl
without-outcome A k (c ∷ cs) a m = split (is_same c.by k) refl (without-outcome A k cs a m.1)
  where
    split : (x : Bool) → is_same c.by k ≡ x → outcome cs a ≡ outcome (without k cs) a
        → outcome (c ∷ cs) a ≡ outcome (pick x (without k cs) (c ∷ without k cs)) a
    split true e h = pick_true c.met _ _ (m.0 (same-refusal c.by k e)) ∙ h
    split false e h = ap (λ (o : Outcome A). pick c.met o (Err c.by)) h

pub without-choice : WithoutChoice
without-choice A k [] a b m = refl
without-choice A k (c ∷ cs) a b m = split (is_same c.by k) refl (without-choice A k cs a b m.1)
  where
    split : (x : Bool) → is_same c.by k ≡ x → if_met cs a b ≡ if_met (without k cs) a b
        → if_met (c ∷ cs) a b ≡ if_met (pick x (without k cs) (c ∷ without k cs)) a b
    split true e h = pick_true c.met _ _ (m.0 (same-refusal c.by k e)) ∙ h
    split false e h = ap (λ (x : A). pick c.met x b) h

-- of checks that are written out, it computes that none refuses by k
pub others-met : (k : Refusal) (cs : List Check) → all (λ c. not (is_same c.by k)) cs ≡ true → MetBy k cs
others-met k cs e =
    All-to cs (λ c s i. absurd (false-true (sym (ap not (same_refl c.by k i)) ∙ s))) (all_true (λ c. not (is_same c.by k)) cs e)
