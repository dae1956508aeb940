-- Checks that run in stages: a stage that refuses settles what the whole list answers, one that is met leaves it to the rest.
-- A stage is told by what its function answers.
use mathlib.Core.Path.{◌≡◌, refl, sym, ap, ◌∙◌}
use mathlib.Core.Bool.{Bool, true, false}
use mathlib.Core.List.{List, [], ◌∷◌, ◌++◌, append_assoc}
use mathlib.Core.Logic.{inl, inr, ⊎_elim}
use Rattle.words.specs.Choice.{pick}
use Rattle.words.specs.Checks.{Check, Outcome, refusal, outcome, Met, FirstUnmet, if_met}
use Rattle.words.specs.Numbers.{number}
use Rattle.words.specs.declared.refusal.Refusal.{Refusal}
use Rattle.std.specs.Prelude.{Ok, Err}
use Rattle.words.specs.Claims.{StagesNumber, StagesOutcome, StagesChoice, StagesMet}
use Rattle.words.proofs.Lists.{All-append, All-parts}
use Rattle.words.proofs.Tests.{pick_true, pick_same}
use Rattle.words.proofs.Checks.{if-met, if-unmet, first-number, value-met, value-exactly, refused-exactly}

-- ---- the claims
pub stages-choice : StagesChoice
stages-choice A [] ds a b = refl
stages-choice A (c ∷ cs) ds a b = ap (λ (x : A). pick c.met x b) (stages-choice A cs ds a b)

pub stages-number : StagesNumber
stages-number [] ds = refl
stages-number (c ∷ cs) ds = split c.met (stages-number cs ds)
  where
    split : (b : Bool) → refusal (cs ++ ds) ≡ if_met cs (refusal ds) (refusal cs)
        → pick b (refusal (cs ++ ds)) (number c.by)
        ≡ pick b (if_met cs (refusal ds) (pick b (refusal cs) (number c.by))) (pick b (refusal cs) (number c.by))
    split true e = e
    split false e = refl

pub stages-outcome : StagesOutcome
stages-outcome A [] ds a = refl
stages-outcome A (c ∷ cs) ds a = split c.met (stages-outcome A cs ds a)
  where
    split : (b : Bool) → outcome (cs ++ ds) a ≡ if_met cs (outcome ds a) (outcome cs a)
        → ◌≡◌ {A = Outcome A} (pick b (outcome (cs ++ ds) a) (Err c.by))
        (pick b (if_met cs (outcome ds a) (pick b (outcome cs a) (Err c.by))) (pick b (outcome cs a) (Err c.by)))
    split true e = e
    split false e = refl

pub both-met : (cs ds : List Check) → Met cs → Met ds → Met (cs ++ ds)
both-met cs ds m n = All-append (λ (c : Check). c.met ≡ true) cs ds m n

pub met-both : (cs ds : List Check) → Met (cs ++ ds) → Met cs × Met ds
met-both cs ds m = All-parts (λ (c : Check). c.met ≡ true) cs ds m

pub stages-met : StagesMet
stages-met cs ds = (met-both cs ds, λ m. both-met cs ds m.0 m.1)

-- ---- a stage that is met: the rest decides
module _ (cs ds : List Check) (m : Met cs) where
  pub rest-number : refusal ds ≡ refusal (cs ++ ds)
  rest-number = sym (stages-number cs ds ∙ if-met (refusal ds) (refusal cs) cs m)

  pub rest-outcome : {A : Type 0} (a : A) → outcome ds a ≡ outcome (cs ++ ds) a
  rest-outcome {A} a = sym (stages-outcome A cs ds a ∙ if-met (outcome ds a) (outcome cs a) cs m)

  pub rest-choice : {A : Type 0} (a b : A) → if_met ds a b ≡ if_met (cs ++ ds) a b
  rest-choice {A} a b = sym (stages-choice A cs ds a b ∙ if-met (if_met ds a b) b cs m)

-- the same of the first of three stages
module _ (cs ds es : List Check) (m : Met cs) where
  pub behind-outcome : {A : Type 0} (a : A) → outcome (ds ++ es) a ≡ outcome ((cs ++ ds) ++ es) a
  behind-outcome a = rest-outcome cs (ds ++ es) m a ∙ ap (λ (l : List Check). outcome l a) (sym (append_assoc cs ds es))

  pub behind-choice : {A : Type 0} (a b : A) → if_met (ds ++ es) a b ≡ if_met ((cs ++ ds) ++ es) a b
  behind-choice a b = rest-choice cs (ds ++ es) m a b ∙ ap (λ (l : List Check). if_met l a b) (sym (append_assoc cs ds es))

pub rest-first : (cs ds : List Check) (k : Refusal) → Met cs → FirstUnmet k ds → FirstUnmet k (cs ++ ds)
rest-first [] ds k m u = u
rest-first (c ∷ cs) ds k m u = inr (m.0, rest-first cs ds k m.1 u)

-- ---- a stage whose first check that is not met refuses by k: nothing behind it matters
pub front-first : (cs ds : List Check) (k : Refusal) → FirstUnmet k cs → FirstUnmet k (cs ++ ds)
front-first [] ds k u = absurd u
front-first (c ∷ cs) ds k u = ⊎_elim inl (λ w. inr (w.0, front-first cs ds k w.1)) u

module _ (cs ds : List Check) (k : Refusal) (u : FirstUnmet k cs) where
  pub front-number : number k ≡ refusal (cs ++ ds)
  front-number = sym (first-number (cs ++ ds) k (front-first cs ds k u))

  pub front-outcome : {A : Type 0} (a : A) → Err k ≡ outcome (cs ++ ds) a
  front-outcome {A} a =
      sym (stages-outcome A cs ds a ∙ if-unmet (outcome ds a) (outcome cs a) cs k u ∙ (refused-exactly A cs a k).1 u)

  pub front-choice : {A : Type 0} (a b : A) → b ≡ if_met (cs ++ ds) a b
  front-choice {A} a b = sym (stages-choice A cs ds a b ∙ if-unmet (if_met ds a b) b cs k u)

-- ---- a check that holds where all before it do: without it the answer is the same
pub settled-outcome : {A : Type 0} (cs : List Check) (c : Check) (ds : List Check) (a : A) → (Met cs → c.met ≡ true)
    → outcome (cs ++ (c ∷ ds)) a ≡ outcome (cs ++ ds) a
settled-outcome [] c ds a h = pick_true c.met _ _ (h tt)
settled-outcome (k ∷ cs) c ds a h = pick_same k.met _ _ _ (λ e. settled-outcome cs c ds a (λ m. h (e, m)))

-- ---- a last stage that is met: without it the answer is the same
pub settled-behind : {A : Type 0} (cs ds : List Check) (a : A) → Met ds → outcome (cs ++ ds) a ≡ outcome cs a
settled-behind {A} [] ds a m = (value-exactly A ds a).1 m
settled-behind {A} (c ∷ cs) ds a m = ap (λ (o : Outcome A). pick c.met o (Err c.by)) (settled-behind cs ds a m)

-- ---- a stage by what its function answers
module _ (cs : List Check) where
  pub stage-first : {k : Refusal} → Err k ≡ outcome cs (tt {0}) → FirstUnmet k cs
  stage-first {k} e = (refused-exactly Unit cs tt k).0 (sym e)

  pub stage-met : Ok tt ≡ outcome cs (tt {0}) → Met cs
  stage-met e = (value-met cs tt tt (sym e)).0

  -- it is the first stage
  module _ (ds : List Check) {k : Refusal} (e : Err k ≡ outcome cs (tt {0})) where
    pub stage-number : number k ≡ refusal (cs ++ ds)
    stage-number = front-number cs ds k (stage-first e)

    pub stage-refused : {A : Type 0} (a : A) → Err k ≡ outcome (cs ++ ds) a
    stage-refused a = front-outcome cs ds k (stage-first e) a

    pub stage-kept : {A : Type 0} (new old : A) → old ≡ if_met (cs ++ ds) new old
    stage-kept new old = front-choice cs ds k (stage-first e) new old

  -- it is the only one, or the last: then rest-outcome and rest-choice lead on
  module _ {k : Refusal} (e : Err k ≡ outcome cs (tt {0})) {A : Type 0} where
    pub last-refused : (a : A) → Err k ≡ outcome cs a
    last-refused a = sym ((refused-exactly A cs a k).1 (stage-first e))

    pub last-kept : (new old : A) → old ≡ if_met cs new old
    last-kept new old = sym (if-unmet new old cs k (stage-first e))

-- ---- a first stage cs that gives a value x, of which the rest and the answer are said
module _ {X : Type 0} (cs : List Check) (x : X) (rest : X → List Check) {A : Type 0} (answer : X → A) where
  pub given-refused : {k : Refusal} → outcome cs x ≡ Err k → Err k ≡ outcome (cs ++ rest x) (answer x)
  given-refused {k} e = front-outcome cs (rest x) k ((refused-exactly X cs x k).0 e) (answer x)

  pub given-value : {y : X} → outcome cs x ≡ Ok y → outcome (rest y) (answer y) ≡ outcome (cs ++ rest x) (answer x)
  given-value {y} e =
      let s = value-met cs x y e in
      (λ j. outcome (rest (sym s.1 j)) (answer (sym s.1 j))) ∙ rest-outcome cs (rest x) s.0 (answer x)

  pub given-kept : {k : Refusal} → outcome cs x ≡ Err k → (old : A) → old ≡ if_met (cs ++ rest x) (answer x) old
  given-kept {k} e old = front-choice cs (rest x) k ((refused-exactly X cs x k).0 e) (answer x) old

  pub given-choice : {y : X} → outcome cs x ≡ Ok y → (old : A) → if_met (rest y) (answer y) old ≡ if_met (cs ++ rest x) (answer x) old
  given-choice {y} e old =
      let s = value-met cs x y e in
      (λ j. if_met (rest (sym s.1 j)) (answer (sym s.1 j)) old) ∙ rest-choice cs (rest x) s.0 (answer x) old
