-- The laws of checks in their order. All go through two facts of which one holds of every list of checks: every check is met, or the first
-- that is not refuses by some k. Each fact settles the choice, the number and the outcome; so the number and the outcome tell which holds.
use mathlib.Core.Path.{◌≡◌, refl, sym, ap, ◌∙◌, subst}
use mathlib.Core.Bool.{Bool, true, false}
use mathlib.Core.List.{List, [], ◌∷◌}
use mathlib.Core.Logic.{◌⊎◌, inl, inr, ⊎_elim}
use native.Mathlib.Omega.{arith}
use Rattle.words.specs.Lists.{All}
use Rattle.std.specs.Prelude.{Ok, Err, is_ok}
use Rattle.words.specs.declared.refusal.Refusal.{Refusal}
use Rattle.words.specs.Numbers.{number}
use Rattle.words.specs.Checks.{Check, Outcome, refusal, outcome, Met, FirstUnmet, if_met}
use Rattle.words.specs.Claims.{ValueExactly, RefusedExactly, NoneExactly, FirstExactly, RefusedNumber, ChosenMet, ChosenUnmet}
use Rattle.words.proofs.NumberLaws.{positive, one-number}
use Rattle.words.proofs.Tests.{false-true, pick_true, pick-false}

-- ---- what each fact settles: a choice, the number refused, the outcome
pub if-met : {A : Type 0} → ChosenMet A
if-met a b [] m = refl
if-met a b (c ∷ cs) m = pick_true c.met _ _ m.0 ∙ if-met a b cs m.1

pub if-unmet : {A : Type 0} → ChosenUnmet A
if-unmet a b [] k u = absurd u
if-unmet a b (c ∷ cs) k u =
    ⊎_elim
    (λ w. pick-false c.met _ _ w.0)
    (λ w. pick_true c.met _ _ w.0 ∙ if-unmet a b cs k w.1)
    u

pub met-none : (cs : List Check) → Met cs → refusal cs ≡ 0
met-none [] m = refl
met-none (c ∷ cs) m = pick_true c.met _ _ m.0 ∙ met-none cs m.1

pub first-number : (cs : List Check) (k : Refusal) → FirstUnmet k cs → refusal cs ≡ number k
first-number [] k u = absurd u
first-number (c ∷ cs) k u =
    ⊎_elim
    (λ w. pick-false c.met _ _ w.0 ∙ ap number w.1)
    (λ w. pick_true c.met _ _ w.0 ∙ first-number cs k w.1)
    u

module _ {A : Type 0} where
  met-value : (cs : List Check) (a : A) → Met cs → outcome cs a ≡ Ok a
  met-value [] a m = refl
  met-value (c ∷ cs) a m = pick_true c.met _ _ m.0 ∙ met-value cs a m.1

  first-refused : (cs : List Check) (a : A) (k : Refusal) → FirstUnmet k cs → outcome cs a ≡ Err k
  first-refused [] a k u = absurd u
  first-refused (c ∷ cs) a k u =
      ⊎_elim
      (λ w. pick-false c.met _ _ w.0 ∙ ap Err w.1)
      (λ w. pick_true c.met _ _ w.0 ∙ first-refused cs a k w.1)
      u

-- ---- which of the two facts holds
pub decided : (cs : List Check) → Met cs ⊎ ((k : Refusal) × FirstUnmet k cs)
decided [] = inl tt
decided (c ∷ cs) = split c.met refl (decided cs)
  where
    split : (b : Bool) → c.met ≡ b → Met cs ⊎ ((k : Refusal) × FirstUnmet k cs) → Met (c ∷ cs) ⊎ ((k : Refusal) × FirstUnmet k (c ∷ cs))
    split true e d = ⊎_elim (λ m. inl (e, m)) (λ u. inr (u.0, inr (e, u.1))) d
    split false e d = inr (c.by, inl (e, refl))

value-refused : {A : Type 0} {a : A} {k : Refusal} → ◌≡◌ {A = Outcome A} (Ok a) (Err k) → ⊥
value-refused e = cc

pub value-met : {A : Type 0} (cs : List Check) (a b : A) → outcome cs a ≡ Ok b → Met cs × (a ≡ b)
value-met cs a b e =
    ⊎_elim
    (λ m. (m, let v = met-value cs a m in cc))
    (λ u. absurd (value-refused (sym e ∙ first-refused cs a u.0 u.1)))
    (decided cs)

refused-first : {A : Type 0} (cs : List Check) (a : A) (k : Refusal) → outcome cs a ≡ Err k → FirstUnmet k cs
refused-first cs a k e =
    ⊎_elim
    (λ m. absurd (value-refused (sym (met-value cs a m) ∙ e)))
    (λ u. let r = first-refused cs a u.0 u.1 in let s : u.0 ≡ k = cc in subst (λ (i : Refusal). FirstUnmet i cs) s u.1)
    (decided cs)

none-met : (cs : List Check) → refusal cs ≡ 0 → Met cs
none-met cs e = ⊎_elim (λ m. m) (λ u. absurd (omega (arith, first-number cs u.0 u.1, positive u.0))) (decided cs)

number-first : (cs : List Check) (k : Refusal) → refusal cs ≡ number k → FirstUnmet k cs
number-first cs k e =
    ⊎_elim
    (λ m. absurd (omega (arith, met-none cs m, positive k)))
    (λ u. subst (λ (i : Refusal). FirstUnmet i cs) (one-number u.0 k (sym (first-number cs u.0 u.1) ∙ e)) u.1)
    (decided cs)

-- ---- the claims
pub value-exactly : ValueExactly
value-exactly A cs a = (λ e. (value-met cs a a e).0, met-value cs a)

pub refused-exactly : RefusedExactly
refused-exactly A cs a k = (refused-first cs a k, first-refused cs a k)

pub none-exactly : NoneExactly
none-exactly cs = (none-met cs, met-none cs)

pub first-exactly : FirstExactly
first-exactly cs k = (number-first cs k, first-number cs k)

pub refused-number : RefusedNumber
refused-number A cs a k = (λ e. first-number cs k (refused-first cs a k e), λ e. first-refused cs a k (number-first cs k e))

-- not both facts hold
pub met-unmet : (cs : List Check) (k : Refusal) → Met cs → FirstUnmet k cs → ⊥
met-unmet cs k m u = value-refused {A = Unit {0}} (sym (met-value cs (tt {0}) m) ∙ first-refused cs (tt {0}) k u)

-- ---- a value or none
pub is-value : {A : Type 0} (o : Outcome A) → is_ok o ≡ true → (a : A) × (o ≡ Ok a)
is-value (Ok a) e = (a, refl)
is-value (Err k) e = absurd (false-true e)

pub not-value : {A : Type 0} {o : Outcome A} {a : A} → is_ok o ≡ false → o ≡ Ok a → ⊥
not-value e f = false-true (sym e ∙ ap is_ok f)

-- whatever the checks, what is chosen by them has a property that both have
pub either_way : {A : Type 0} (P : A → Type 0) (cs : List Check) (a b : A) → (Met cs → P a) → P b → P (if_met cs a b)
either_way P cs a b f p =
    ⊎_elim
    (λ m. subst P (sym (if-met a b cs m)) (f m))
    (λ u. subst P (sym (if-unmet a b cs u.0 u.1)) p)
    (decided cs)

-- no check refuses by k: nothing is refused by it
pub never-among : {A : Type 0} (cs : List Check) (a : A) (k : Refusal) → All (λ (c : Check). c.by ≡ k → ⊥) cs → outcome cs a ≡ Err k → ⊥
never-among {A} cs a k n e = among cs n ((refused-exactly A cs a k).0 e)
  where
    among : (cs : List Check) → All (λ (c : Check). c.by ≡ k → ⊥) cs → FirstUnmet k cs → ⊥
    among [] n u = u
    among (c ∷ cs) n u = ⊎_elim (λ w. n.0 w.1) (λ w. among cs n.1 w.1) u
