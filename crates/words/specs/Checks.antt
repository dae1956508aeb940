-- An operation's checks in their order, each with what it refuses by, and what the operation answers.
use Rattle.std.specs.Prelude.{◌≡◌, Bool, true, false, List, [], ◌∷◌, ◌⊎◌, ℕ, Result, Ok, Err}
use Rattle.words.specs.Choice.{pick}
use Rattle.words.specs.Lists.{All}
use Rattle.words.specs.Numbers.{number, is_same}
use Rattle.words.specs.declared.refusal.Refusal.{Refusal}

pub record Check : Type 0 where
  pub by : Refusal
  pub met : Bool

-- refused by k unless the test holds
infix 70 ◌unless◌
abbrev pub ◌unless◌ : Refusal → Bool → Check
k unless b = record { by = k; met = b }

-- what an operation answers: a value, or a refusal and no value
abbrev pub Outcome : Type 0 → Type 0
Outcome A = Result A Refusal

-- the value where every check is met, else refused by the first that is not
abbrev pub outcome : {A : Type 0} → List Check → A → Outcome A
outcome [] a = Ok a
outcome (c ∷ cs) a = pick c.met (outcome cs a) (Err c.by)

-- the number of the first check that is not met, 0 where every one is
abbrev pub refusal : List Check → ℕ
refusal [] = 0
refusal (c ∷ cs) = pick c.met (refusal cs) (number c.by)

-- every check is met
abbrev pub Met : List Check → Type 0
Met cs = All (λ (c : Check). c.met ≡ true) cs

-- the first check that is not met refuses by k
abbrev pub FirstUnmet : Refusal → List Check → Type 0
FirstUnmet k [] = ⊥
FirstUnmet k (c ∷ cs) = ((c.met ≡ false) × (c.by ≡ k)) ⊎ ((c.met ≡ true) × FirstUnmet k cs)

-- the one where every check is met, else the other: what a lent buffer holds afterwards, the new bytes or the old
abbrev pub if_met : {A : Type 0} → List Check → A → A → A
if_met [] a b = a
if_met (c ∷ cs) a b = pick c.met (if_met cs a b) b

-- the checks that refuse by another than k: what is tested where nothing is refused by k
abbrev pub without : Refusal → List Check → List Check
without k [] = []
without k (c ∷ cs) = pick (is_same c.by k) (without k cs) (c ∷ without k cs)

-- every check that refuses by k is met
abbrev pub MetBy : Refusal → List Check → Type 0
MetBy k cs = All (λ (c : Check). c.by ≡ k → c.met ≡ true) cs
