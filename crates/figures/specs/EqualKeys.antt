-- Keys of group 1 in figures: equal ones wherever they stand, and bad ones, which are refused first.
use Rattle.std.specs.Prelude.{◌≡◌, List, [], ◌∷◌, ℕ, Ok, Err}
use Rattle.words.specs.Checks.{Outcome, outcome}
use Rattle.words.specs.declared.refusal.Refusal.TheVariants.{NoElement, SameKey}
use Rattle.records.specs.Keys.{key_checks}
use Rattle.figures.specs.ByHand.{small_group}

-- what is answered for these keys
abbrev pub keys_answer : List ℕ → Outcome (Unit {0})
keys_answer ys = outcome (key_checks small_group ys) tt

pub record EqualKeyFigures : Type 0 where
  -- next to each other, first and last, three
  pub neighbours : keys_answer (4 ∷ 9 ∷ 9 ∷ 2 ∷ []) ≡ Err SameKey
  pub ends : keys_answer (4 ∷ 9 ∷ 2 ∷ 4 ∷ []) ≡ Err SameKey
  pub three : keys_answer (4 ∷ 9 ∷ 4 ∷ 4 ∷ []) ≡ Err SameKey
  -- beside a bad key, and bad themselves: 1 is no key, 5 is no element; nor is 27, which is 4 modulo 23
  pub beside-bad : keys_answer (4 ∷ 4 ∷ 9 ∷ 1 ∷ []) ≡ Err NoElement
  pub one-twice : keys_answer (1 ∷ 9 ∷ 2 ∷ 1 ∷ []) ≡ Err NoElement
  pub five-twice : keys_answer (5 ∷ 5 ∷ 9 ∷ 2 ∷ []) ≡ Err NoElement
  pub modulo : keys_answer (4 ∷ 27 ∷ 9 ∷ 2 ∷ []) ≡ Err NoElement
  -- every key that the group has, once: as many members as a round of it may have
  pub all-ten : keys_answer (2 ∷ 3 ∷ 4 ∷ 6 ∷ 8 ∷ 9 ∷ 12 ∷ 13 ∷ 16 ∷ 18 ∷ []) ≡ Ok tt
