-- A judged dealing: accepted exactly if its figures are proper and every equation holds, and where one fails refused by its number.
-- What is accepted has commitments for which the judge's own check polynomial passes.
use mathlib.Core.Path.{◌≡◌, refl, sym, ◌∙◌}
use mathlib.Core.Bool.{Bool, true}
use mathlib.Core.List.{List, ◌++◌}
use mathlib.Core.Logic.{inl, inr}
use Prim.Native.Nat.{ℕ, ◌≤◌}
use borrow.Author.Tests.{eqb-true, eq-eqb, ne_eqb}
use lib.Dec.{eqb}
use Rattle.words.specs.Lists.{all}
use Rattle.words.specs.Checks.{Check, outcome, Met, FirstUnmet}
use Rattle.words.proofs.Lists.{map-length, map-all, up-length}
use Rattle.words.proofs.Tests.{and-true, true-and, equal-true, true-equal, true-all}
use Rattle.words.proofs.Checks.{value-exactly, refused-exactly}
use Rattle.words.proofs.Stages.{met-both, rest-outcome, rest-first, front-outcome}
use Rattle.group.specs.Element.{is_element, is_exponent}
use Rattle.group.specs.declared.Group.{Group}
use Rattle.group.proofs.Elements.{exponent-true, true-exponent}
use Rattle.sharing.specs.Setting.{members}
use Rattle.sharing.specs.Carried.{Commitments}
use Rattle.sharing.specs.declared.Setting.{Setting}
use Rattle.sharing.proofs.Degree.{product-passes}
use Rattle.sharing.proofs.Theorems.{uncarried-one-value}
use Rattle.sharing.proofs.EachMember.{each-members, members-exactly, members-false}
use Rattle.records.specs.Layout.{is_line_record, dealer_of, member_of, round_of, member_record}
use Rattle.records.specs.Keys.{key_checks}
use Rattle.records.proofs.ProperKeys.{keys-proper}
use Rattle.challenge.specs.Message.{check_polynomial}
use Rattle.challenge.proofs.Challenges.{check-polynomial}
use Rattle.lines.specs.Lines.{address_checks, v_in, Y_in, r_in, c_in, vs_in, is_line_for, is_line_of, is_line_of_round, line_checks}
use Rattle.dealing.specs.Dealing.{judge_size_checks, dealing_form_checks, recomputed, range_checks, equation_checks, line_figure_checks, judge_dealing_checks, judge_dealing_in}
use Rattle.dealing.specs.Claims.{Line, PostedDealing, AcceptedDealing, DealingExactly, EquationRefused, DealingRefused, DealingOfOtherRound, AcceptedPasses, AcceptedUncarried}
use Rattle.dealing.proofs.Settled.{FormedDealing, met-formed, formed-met}
use Rattle.std.specs.Prelude.{Ok}
use Rattle.words.specs.declared.refusal.Refusal.TheVariants.{DegreeFails, ProofFails, OtherRound}

module _ (S : Setting) (d : ℕ) (ys b : List ℕ) where
  abbrev G : Group
  G = S.group

  abbrev equal_at : ℕ → Bool
  equal_at i = eqb (c_in b i) (recomputed S d ys (v_in b) (Y_in b) (r_in b) (c_in b))

  -- ---- the form of the line of member i
  line : (i : ℕ) → is_line_of d b i ≡ true → is_line_of_round S.round b i ≡ true → is_element G (v_in b i) ≡ true → is_element G (Y_in b i) ≡ true
      → is_exponent G (r_in b i) ≡ true → is_exponent G (c_in b i) ≡ true → Line S d b i
  unfolding is_line_for
  line i e o v Y r c =
      let l = member_record b i in
      let form = and-true (is_line_record l) _ e in
      let address = equal-true (dealer_of l) d (member_of l) i form.1 in
      record {
        kind = form.0;
        dealer = address.0;
        member = address.1;
        round = eqb-true (round_of l) S.round o;
        v-element = v;
        Y-element = Y;
        r-low = exponent-true G (r_in b i) r;
        c-low = exponent-true G (c_in b i) c;
      }

  line-form : (i : ℕ) → Line S d b i → is_line_of d b i ≡ true
  unfolding is_line_for
  line-form i L =
      let l = member_record b i in
      true-and (is_line_record l) _ L.kind (true-equal (dealer_of l) d (member_of l) i L.dealer L.member)

  -- ---- the stages before the equations are met exactly by figures that are proper one by one
  abbrev form : List Check
  form = dealing_form_checks S d ys b

  abbrev ranges : List Check
  ranges = range_checks S (v_in b) (Y_in b) (r_in b) (c_in b)

  abbrev equations : List Check
  equations = equation_checks S d ys (v_in b) (Y_in b) (r_in b) (c_in b)

  met-posted : Met form → Met ranges → PostedDealing S d ys b
  unfolding line_checks range_checks
  met-posted m k =
      let F = met-formed S d ys b m in
      let each : (f : ℕ → Bool) → all f (members S.n) ≡ true → (i : ℕ) → 1 ≤ i → i ≤ S.n → f i ≡ true = λ f. (members-exactly f S.n).0 in
      let elements = and-true (all (λ i. is_element G (v_in b i)) (members S.n)) _ k.0 in
      let exponents = and-true (all (λ i. is_exponent G (r_in b i)) (members S.n)) _ k.1.0 in
      record {
        dealer = F.dealer;
        keys-size = F.keys-size;
        keys = (keys-proper G ys).0 F.keys;
        size = F.size;
        lines = λ i h l.
            line i (each _ F.lines.0 i h l) (each _ F.lines.1.0 i h l) (each _ elements.0 i h l) (each _ elements.1 i h l) (each _ exponents.0 i h l) (each _ exponents.1 i h l);
      }

  module _ (P : PostedDealing S d ys b) where
    pub posted-formed : FormedDealing S d ys b
    unfolding line_checks
    posted-formed =
        record {
          dealer = P.dealer;
          keys-size = P.keys-size;
          size = P.size;
          keys = (keys-proper G ys).1 P.keys;
          lines = (
            (members-exactly (is_line_of d b) S.n).1 (λ i h l. line-form i (P.lines i h l)),
            ((members-exactly (is_line_of_round S.round b) S.n).1 (λ i h l. eq-eqb _ S.round (P.lines i h l).round), tt),
          );
        }

    form-met : Met form
    form-met = formed-met S d ys b posted-formed

    ranges-met : Met ranges
    unfolding range_checks
    ranges-met =
        let each : (f : ℕ → Bool) → ((i : ℕ) → Line S d b i → f i ≡ true) → all f (members S.n) ≡ true
        = λ f s. (members-exactly f S.n).1 (λ i h l. s i (P.lines i h l)) in
        let six = true-and _ _ (each _ (λ i L. L.v-element)) (each _ (λ i L. L.Y-element)) in
        let seven = true-and _ _ (each _ (λ i L. true-exponent G (r_in b i) L.r-low)) (each _ (λ i L. true-exponent G (c_in b i) L.c-low)) in
        (six, (seven, tt))

    -- so the equations decide
    equations-decide : judge_dealing_in S d ys b ≡ outcome equations tt
    unfolding judge_dealing_in
    equations-decide = sym (rest-outcome ranges equations ranges-met tt ∙ rest-outcome form (ranges ++ equations) form-met tt)

    equations-refused : EquationRefused S d ys b
    unfolding equation_checks vs_in
    equations-refused =
        record {
          nine = λ n. equations-decide ∙ (refused-exactly Unit equations tt DegreeFails).1 (inl (ne_eqb _ 1 n, refl));
          ten = λ e i h l n.
              equations-decide
              ∙ (refused-exactly Unit equations tt ProofFails).1 (inr (eq-eqb _ 1 e, inl (members-false equal_at S.n i h l (ne_eqb (c_in b i) _ n), refl)));
        }

  -- ---- accepted
  dealing-accepted : judge_dealing_in S d ys b ≡ Ok tt → AcceptedDealing S d ys b
  unfolding judge_dealing_in equation_checks vs_in
  dealing-accepted e =
      let m = met-both form (ranges ++ equations) ((value-exactly Unit (judge_dealing_checks S d ys b) tt).0 e) in
      let k = met-both ranges equations m.1 in
      let equal = (members-exactly equal_at S.n).0 k.1.1.0 in
      record {
        posted = met-posted m.0 k.0;
        degree = eqb-true _ 1 k.1.0;
        challenge = λ i h l. eqb-true (c_in b i) _ (equal i h l);
      }

  pub accepts-dealing : AcceptedDealing S d ys b → judge_dealing_in S d ys b ≡ Ok tt
  unfolding equation_checks vs_in
  accepts-dealing A =
      equations-decide A.posted
      ∙ (value-exactly Unit equations tt).1
      (eq-eqb _ 1 A.degree, ((members-exactly equal_at S.n).1 (λ i h l. eq-eqb (c_in b i) _ (A.challenge i h l)), tt))

  posted-commitments : PostedDealing S d ys b → Commitments S (vs_in S.n b)
  unfolding vs_in
  posted-commitments P =
      record {
        size = map-length (v_in b) (members S.n) ∙ up-length 1 S.n;
        elements =
            true-all (is_element G) (vs_in S.n b)
            (map-all (v_in b) (λ v. is_element G v ≡ true) (members S.n)
            (each-members (λ i. is_element G (v_in b i) ≡ true) S.n (λ i h l. (P.lines i h l).v-element)));
      }

pub dealing-exactly : DealingExactly
dealing-exactly S d ys b = (dealing-accepted S d ys b, accepts-dealing S d ys b)

pub dealing-refused : DealingRefused
dealing-refused = equations-refused

pub dealing-of-other-round : DealingOfOtherRound
unfolding judge_dealing_in dealing_form_checks line_checks
dealing-of-other-round S d ys b before i h l n =
    let front = address_checks S d ++ judge_size_checks S ys b in
    let keys = key_checks S.group ys in
    let other = members-false (is_line_of_round S.round b) S.n i h l (ne_eqb (round_of (member_record b i)) S.round n) in
    let lines : FirstUnmet OtherRound (line_checks S d b) = inr (before.form, inl (other, refl)) in
    let behind = rest-first keys (line_checks S d b) OtherRound before.keys lines in
    let formed = rest-first front (keys ++ line_checks S d b) OtherRound before.front behind in
    sym (front-outcome (dealing_form_checks S d ys b) (line_figure_checks S d ys b) OtherRound formed tt)

-- the figures' stage decides what is formed, on a board too, whose form and keys are judged
pub figures-decide : (S : Setting) (d : ℕ) (ys b : List ℕ) → FormedDealing S d ys b
    → outcome (line_figure_checks S d ys b) tt ≡ judge_dealing_in S d ys b
unfolding judge_dealing_in
figures-decide S d ys b F = rest-outcome (dealing_form_checks S d ys b) (line_figure_checks S d ys b) (formed-met S d ys b F) tt

-- ---- what demand 3 has of it
pub accepted-passes : AcceptedPasses
accepted-passes S P d ys b e =
    let A = dealing-accepted S d ys b e in
    let C = posted-commitments S d ys b A.posted in
    (C, product-passes S (vs_in S.n b) (check_polynomial S d (v_in b) (Y_in b)) C (check-polynomial S P d (v_in b) (Y_in b)) A.degree)

pub accepted-uncarried : AcceptedUncarried
accepted-uncarried S P d ys b e none ds p a =
    let s = accepted-passes S P d ys b e in
    (uncarried-one-value S P (vs_in S.n b) s.0 none).one_value ds (check_polynomial S d (v_in b) (Y_in b)) p s.1 a
