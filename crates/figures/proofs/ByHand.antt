-- The table of specs/ByHand.antt, by computing; that 1 is an element of each group follows from its being proper.
use mathlib.Core.Path.{◌≡◌, refl}
use mathlib.Core.Bool.{Bool, true, false, ◌&&◌}
use mathlib.Core.List.{List, []}
use Prim.Native.Nat.{ℕ}
use Rattle.words.specs.Checks.{Met}
use Rattle.words.specs.Lists.{entry}
use Rattle.field.specs.Residue.{add, mul, sub, inv}
use Rattle.group.specs.Power.{pow}
use Rattle.group.specs.Table.{groups_of, table_checks, is_group, group_of, group_checks, in_group}
use Rattle.group.specs.Element.{is_element, is_generator, is_exponent}
use Rattle.group.specs.Answer.{power_outcome}
use Rattle.group.specs.declared.Group.{Group}
use Rattle.group.proofs.Powers.{one_power}
use Rattle.group.proofs.Elements.{root-element}
use Rattle.group.proofs.Answers.{met-sound}
use Rattle.sharing.specs.Setting.{in_range, round_figures, round_checks, judged, is_member}
use Rattle.sharing.specs.Weights.{gaps_at, weight_at, weights_of, lagrange_at, powers_product}
use Rattle.sharing.specs.Answer.{degree_product, degree_figures, degree_equation, degree_in, recovered, is_quorum, recovery_in, is_opening, opening_figures, opening_equation, opening_in, opening_outcome}
use Rattle.sharing.specs.Carried.{powers_at}
use Rattle.sharing.specs.Figures.{small_round}
use Rattle.sharing.proofs.Theorems.{round-by-setting}
use Rattle.sharing.proofs.Figures.{carried-figures}
use Rattle.records.specs.Keys.{is_key}
use Rattle.equality.specs.Equality.{announced, response, equality_outcome}
use Rattle.dealing.specs.Dealing.{written_v, written_Y, written_r}
use Rattle.figures.specs.ByHand.{ByHand}

one-element : (T : List ℕ) (k : ℕ) → Met (group_checks T k) → is_element (group_of (groups_of T) k) 1 ≡ true
one-element T k m =
    let G : Group = group_of (groups_of T) k in
    let P = (met-sound T k m).proper in
    root-element G P 1 P.prime-p.above-one (one_power G.p G.q P.prime-p.above-one)

one-no-key : (G : Group) → is_key G 1 ≡ false
unfolding is_generator is_key
one-no-key G = and-false (is_element G 1)
  where
    and-false : (b : Bool) → b && false ≡ false
    and-false true = refl
    and-false false = refl

pub by_hand : ByHand
unfolding add mul sub inv pow groups_of table_checks is_group group_of group_checks in_group is_element is_exponent in_range round_figures round_checks judged is_member gaps_at weight_at weights_of lagrange_at powers_product degree_product degree_figures degree_equation degree_in recovered is_quorum recovery_in is_opening opening_figures opening_equation opening_in opening_outcome powers_at entry announced response equality_outcome power_outcome written_v written_Y written_r
by_hand =
    record {
      over-round = round-by-setting [] small_round carried-figures.0;
      v = refl;
      true-shares = refl;
      secret = refl;
      recovery-1-2 = refl;
      recovery-4-2 = refl;
      recovery-2-2 = refl;
      weights-one = refl;
      weights-number = refl;
      product-one = refl;
      product-number = refl;
      changed-one = refl;
      changed-one-refused = refl;
      changed-eight-more = refl;
      changed-eight-more-passes = refl;
      opening-3 = refl;
      opening-4 = refl;
      opening-11 = refl;
      Y = refl;
      r = refl;
      a1 = refl;
      a2 = refl;
      response-7 = refl;
      response-8 = refl;
      base-22 = λ e. refl;
      power-22 = refl;
      exponent-10 = refl;
      exponent-11 = refl;
      round-10 = (refl, (refl, (refl, (refl, tt))));
      round-11 = λ vs u. refl;
      element-1 = one-element;
      key-1 = one-no-key;
    }
