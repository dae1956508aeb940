-- Commitments of group 1 with n = 4 and t = 2: carried ones, and some that no polynomial of degree below 2 carries.
-- They show that the claims on carried and on uncarried commitments speak of something.
use Rattle.std.specs.Prelude.{◌≡◌, List, [], ◌∷◌, ℕ, Err}
use Rattle.words.specs.Lists.{map}
use Rattle.words.specs.Checks.{Met}
use Rattle.group.specs.Power.{pow}
use Rattle.sharing.specs.Setting.{setting_in, round_checks}
use Rattle.sharing.specs.Answer.{degree_in}
use Rattle.sharing.specs.Carried.{Carries, Commitments, Passes, place}
use Rattle.sharing.specs.declared.Round.{Round}
use Rattle.sharing.specs.declared.Setting.{Setting}
use Rattle.words.specs.declared.refusal.Refusal.TheVariants.{DegreeFails}

abbrev pub small_round : Round
small_round = record { group = 1; n = 4; t = 2; round = 0; first_new_round = 0 }

abbrev pub small : Setting
small = setting_in [] small_round

-- the round is one that nothing refuses, and 3 + 5 times the member number carries 9, 16, 8, 4
abbrev pub CarriedFigures : Type 0
CarriedFigures = Met (round_checks [] small_round) × Carries small (3 ∷ 5 ∷ []) (9 ∷ 16 ∷ 8 ∷ 4 ∷ [])

-- no polynomial carries the commitments, and the place that they fix is the first
pub record FirstPlace (vs : List ℕ) : Type 0 where
  pub commitments : Commitments small vs
  pub uncarried : (f : List ℕ) → Carries small f vs → ⊥
  pub first : place small vs ≡ 0
  pub unit-refused : degree_in small vs (1 ∷ 0 ∷ []) ≡ Err DegreeFails

-- the commitments of the exponents 0, 7, 1, 0 are caught by the first place only: the unit of the last passes
abbrev pub first_only : List ℕ
first_only = map (pow 23 4) (0 ∷ 7 ∷ 1 ∷ 0 ∷ [])

abbrev pub FirstOnlyFigures : Type 0
FirstOnlyFigures = FirstPlace first_only × Passes small first_only (0 ∷ 1 ∷ [])
