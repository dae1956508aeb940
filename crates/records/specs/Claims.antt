-- What is claimed of the members' keys, wherever they are tested: a proper key list is one of distinct keys, two equal keys are refused
-- by 22, and with distinct keys 22 refuses nothing, so that every answer is the one without it.
use Rattle.std.specs.Prelude.{◌≡◌, true, List, [], ◌∷◌, ◌++◌, ◌↔◌, ℕ, ◌<◌, ◌≤◌, length}
use Rattle.words.specs.Lists.{All, Distinct, all, entry}
use Rattle.words.specs.Checks.{Check, ◌unless◌, Met, FirstUnmet, MetBy}
use Rattle.group.specs.declared.Group.{Group}
use Rattle.records.specs.Keys.{is_key, key_checks}
use Rattle.words.specs.declared.refusal.Refusal.TheVariants.{NoElement, SameKey}

-- ---- proper keys
pub record ProperKeys (G : Group) (ys : List ℕ) : Type 0 where
  pub keys : All (λ y. is_key G y ≡ true) ys
  pub distinct : Distinct ys

-- the stage of keys refuses nothing exactly where they are proper
abbrev pub KeysProper : Type 0
KeysProper = (G : Group) (ys : List ℕ) → Met (key_checks G ys) ↔ ProperKeys G ys

-- ---- equal keys
-- each number is a key, and two members have the same
pub record KeyTwice (G : Group) (ys : List ℕ) : Type 0 where
  pub keys : All (λ y. is_key G y ≡ true) ys
  pub one : ℕ
  pub other : ℕ
  pub member : 1 ≤ one
  pub later : one < other
  pub within : other ≤ length ys
  pub same : entry ys one ≡ entry ys other

-- the stage refuses by 22 exactly where this is so
abbrev pub EqualKeys : Type 0
EqualKeys = (G : Group) (ys : List ℕ) → FirstUnmet SameKey (key_checks G ys) ↔ KeyTwice G ys

-- ---- distinct keys
-- with distinct keys what the stage tests by 22 is met, whatever else is tested before it and behind: so, by without-outcome and
-- without-choice, an operation with this stage answers what it would answer without 22, and leaves the same in a lent buffer
abbrev pub DistinctMet : Type 0
DistinctMet =
    (G : Group) (ys : List ℕ) → Distinct ys → (front behind : List Check) → MetBy SameKey front → MetBy SameKey behind
    → MetBy SameKey (front ++ (key_checks G ys ++ behind))

-- the stage of the scope paper, which let equal keys through
abbrev pub filed_key_checks : Group → List ℕ → List Check
filed_key_checks G ys = NoElement unless all (is_key G) ys ∷ []
