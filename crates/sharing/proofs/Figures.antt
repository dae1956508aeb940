-- The figures of specs/Figures.antt, by computing. That no polynomial carries commitments follows from one check polynomial that does not pass.
use mathlib.Core.Path.{◌≡◌, refl}
use mathlib.Core.List.{List, [], ◌∷◌}
use Prim.Native.Nat.{ℕ}
use native.Mathlib.Omega.{arith}
use Rattle.words.specs.Checks.{Met}
use Rattle.field.specs.Residue.{add, mul, sub, inv}
use Rattle.group.specs.Power.{pow}
use Rattle.group.specs.Table.{groups_of, table_checks, is_group, group_of}
use Rattle.group.specs.Element.{is_element, is_exponent}
use Rattle.sharing.specs.Setting.{ProperSetting, in_range, round_figures, round_checks}
use Rattle.sharing.specs.Weights.{gaps_at, weight_at, weights_of, powers_product}
use Rattle.sharing.specs.Answer.{degree_figures, degree_equation, degree_product, degree_in}
use Rattle.sharing.specs.Carried.{powers_at, Carries, Commitments, CheckPolynomial, place}
use Rattle.sharing.specs.Figures.{small_round, small, CarriedFigures, FirstPlace, first_only, FirstOnlyFigures}
use Rattle.sharing.proofs.Rounds.{round-proper}
use Rattle.sharing.proofs.Theorems.{carried-passes}
use Rattle.std.specs.Prelude.{Err}
use Rattle.words.specs.declared.refusal.Refusal.TheVariants.{DegreeFails}

met : Met (round_checks [] small_round)
unfolding round_checks round_figures table_checks groups_of is_group in_range group_of
met = (refl, (refl, (refl, (refl, tt))))

pub small-proper : ProperSetting small
small-proper = round-proper [] small_round met

pub carried-figures : CarriedFigures
unfolding groups_of group_of powers_at pow add mul
carried-figures = (met, record { polynomial = record { size = refl; low = (omega arith, (omega arith, tt)) }; powers = refl })

-- a check polynomial that does not pass shows that no polynomial carries the commitments
pub refused-uncarried : (vs ds : List ℕ) → CheckPolynomial small ds → degree_in small vs ds ≡ Err DegreeFails → (f : List ℕ) → Carries small f vs → ⊥
refused-uncarried vs ds D e f K =
    let p = (carried-passes small small-proper f vs K).1 ds D in
    let z : ◌≡◌ {A = ℕ} 0 1 = cc in
    omega arith

-- the same of the unit of the first place
first-place : (vs : List ℕ) → Commitments small vs → place small vs ≡ 0 → degree_in small vs (1 ∷ 0 ∷ []) ≡ Err DegreeFails → FirstPlace vs
unfolding groups_of group_of
first-place vs C f e =
    record {
      commitments = C;
      uncarried = refused-uncarried vs (1 ∷ 0 ∷ []) (record { size = refl; low = (omega arith, (omega arith, tt)) }) e;
      first = f;
      unit-refused = e;
    }

pub first-only-figures : FirstOnlyFigures
unfolding place degree_in degree_figures degree_equation degree_product powers_product weights_of weight_at gaps_at is_element is_exponent groups_of group_of pow inv add mul sub
first-only-figures = (first-place first_only (record { size = refl; elements = refl }) refl refl, refl)
