-- The theorems of one dealing's commitments, of a round's two numbers and of the table, as specs/Claims.antt states them.
use mathlib.Core.Path.{◌≡◌, refl, sym, ap, ◌∙◌, subst}
use mathlib.Core.Bool.{Bool, true, false, not, ◌&&◌}
use mathlib.Core.List.{List, ◌++◌}
use mathlib.Core.Logic.{⊎_elim}
use Prim.Native.Nat.{ℕ, zero, suc, ◌-◌, ◌≤◌, ◌<◌}
use native.Mathlib.Omega.{arith}
use borrow.Author.Tests.{eq-eqb, ne_eqb, leb-true, le-leb, lt-leb}
use lib.Dec.{leb, eqb}
use Rattle.words.specs.Checks.{Check, outcome, if_met}
use Rattle.words.proofs.Tests.{and-true, true-and, false-true}
use Rattle.words.proofs.Checks.{not-value}
use Rattle.group.specs.Power.{pow}
use Rattle.group.specs.Table.{group_of}
use Rattle.group.specs.declared.Group.{Group}
use Rattle.group.proofs.Table.{groups-outcome, groups-choice}
use Rattle.sharing.specs.Setting.{ProperSetting, takes_whole, setting_in, renumbered, in_round, with_numbers, round_figures, round_checks, judged, judged_else}
use Rattle.sharing.specs.Answer.{degree_product, degree_figures, degree_equation, degree_in, degree_outcome, is_opening, opening_figures, opening_equation, opening_in, opening_outcome, is_quorum, recovery_in, recovery_outcome}
use Rattle.sharing.specs.Weights.{gaps_at, weight_at, weights_of}
use Rattle.sharing.specs.Carried.{Commitments, secret_of, unit_of, place}
use Rattle.sharing.specs.Claims.{LinearCheck, AlwaysCarried, UncarriedOneValue, CarriedPasses, CarriedExactly, OpeningExactly, QuorumRecovers, SecretOfCommitments, RoundBySetting, SameAnswers, OneGroupAnswers, Rule, RuleAlone, GroupsAlone}
use Rattle.sharing.specs.declared.Setting.{Setting}
use Rattle.sharing.proofs.Generators.{Exponents, exponents}
use Rattle.sharing.proofs.Rounds.{round-proper, of-one-group, judged-in}
use Rattle.sharing.proofs.Degree.{passes-exactly}
use Rattle.sharing.proofs.Carried.{sums-carried, carried-commitments, carried-pass}
use Rattle.sharing.proofs.Secret.{shares-recover, secret-opens, opens-secret}
use Rattle.sharing.proofs.Place.{unit-polynomial, carried-or-one}
use Rattle.std.specs.Prelude.{Ok, is_ok}

-- the exponents of commitments to the base g
logarithms : (S : Setting) → ProperSetting S → (vs : List ℕ) → Commitments S vs
    → (es : List ℕ) × Exponents S.group S.group.g.0 vs es
logarithms S Y vs C =
    let P = Y.proper in
    exponents S.group P S.group.g.0 P.g-generates vs C.elements

pub linear-check : LinearCheck
linear-check S Y vs es ds C low powers D = passes-exactly S Y vs es C (record { low = low; powers = powers }) ds D

pub always-carried : AlwaysCarried
always-carried S Y n =
    let none : (k : ℕ) → k < S.n - S.t → ⊥ = λ k h. omega arith in
    (none, λ vs C. let e = logarithms S Y vs C in sums-carried S Y vs e.0 C e.1 (λ k h. absurd (none k h)))

pub uncarried-one-value : UncarriedOneValue
uncarried-one-value S Y vs C none =
    let e = logarithms S Y vs C in
    ⊎_elim (λ c. absurd (none c.0 c.1)) (λ o. o) (carried-or-one S Y vs e.0 C e.1)

pub carried-passes : CarriedPasses
carried-passes S Y f vs K = (carried-commitments S Y f vs K, carried-pass S Y f vs K)

pub carried-exactly : CarriedExactly
carried-exactly S Y vs C =
    let e = logarithms S Y vs C in (
      λ c k h. carried-pass S Y c.0 vs c.1 (unit_of S k) (unit-polynomial S Y k),
      λ pass.
          ⊎_elim (λ c. c) (λ o. absurd (not-value (ap is_ok o.unit-refused) (pass (place S vs) o.within)))
          (carried-or-one S Y vs e.0 C e.1),
    )

pub opening-exactly : OpeningExactly
opening-exactly S Y f vs K u = (opens-secret S Y f vs K u, λ e. ap (opening_in S vs) e ∙ secret-opens S Y f vs K)

pub quorum-recovers : QuorumRecovers
quorum-recovers S Y f vs K ms ss Q T =
    let r = shares-recover S Y f K.polynomial ms ss Q T in
    (r, λ u e. r ∙ ap (λ s. Ok (record { 0 = pow S.group.p S.group.h.0 s })) (sym (opens-secret S Y f vs K u e)))

pub secret-of-commitments : SecretOfCommitments
secret-of-commitments S Y f₁ f₂ vs K L = opens-secret S Y f₂ vs L (secret_of S f₁) (secret-opens S Y f₁ vs K)

pub round-by-setting : RoundBySetting
unfolding degree_outcome degree_in opening_outcome opening_in recovery_outcome recovery_in
round-by-setting T R m =
    record {
      proper-setting = round-proper T R m;
      degree = λ vs ds. judged-in T R _ _ m;
      opening = λ vs u. judged-in T R _ _ m;
      recovery = λ ms ss. judged-in T R _ _ m;
    }

-- each is computed without the numbers and the rule
renumbered-answers : (S : Setting) (number round : ℕ) (whole : Bool) → SameAnswers S (renumbered number round whole S)
unfolding degree_in degree_figures degree_equation degree_product weights_of weight_at gaps_at opening_in opening_figures opening_equation is_opening recovery_in is_quorum place
renumbered-answers S number round whole =
    record { degree = λ vs ds. refl; opening = λ vs u. refl; recovery = λ ms ss. refl; same_place = λ vs. refl }

pub one-group-answers : OneGroupAnswers
one-group-answers S T E = subst (SameAnswers S) (of-one-group S T E) (renumbered-answers S T.number T.round T.whole_digest)

-- ---- the rule
pub rule : Rule
unfolding takes_whole
rule first round = record { new = (new-to, new-from); in-round-zero = by_first first; without-first = refl }
  where
    new-to : not (eqb first 0) && leb first round ≡ true → (first ≡ 0 → ⊥) × (first ≤ round)
    new-to e =
        let a = and-true (not (eqb first 0)) (leb first round) e in
        (λ z. false-true (ap not (sym (eq-eqb first 0 z)) ∙ a.0), leb-true first round a.1)

    new-from : (first ≡ 0 → ⊥) × (first ≤ round) → not (eqb first 0) && leb first round ≡ true
    new-from w = true-and (not (eqb first 0)) (leb first round) (ap not (ne_eqb first 0 w.0)) (le-leb first round w.1)

    by_first : (k : ℕ) → not (eqb k 0) && leb k 0 ≡ false
    by_first zero = refl
    by_first (suc k) = simp (ne_eqb (suc k) 0 (λ z. omega arith), lt-leb (suc k) 0 (omega arith))

-- the checks of a round have neither of its two numbers in them
pub rule-alone : RuleAlone
unfolding round_figures round_checks judged judged_else
rule-alone T R first e =
    let same : setting_in T (with_numbers R.round first R) ≡ setting_in T R = λ j. in_round R.round (e j) (setting_in T R) in
    record {
      setting = same;
      answer = λ checks answer j. outcome (round_checks T R ++ checks (same j)) (answer (same j));
      lent = λ checks new old j. if_met (round_checks T R ++ checks (same j)) (new (same j)) old;
    }

-- ---- the table
pub groups-alone : GroupsAlone
unfolding judged judged_else round_checks
groups-alone T₁ T₂ R m₁ m₂ e =
    let among : List Group → Setting = λ Gs. record { group = group_of Gs R.group; number = R.group; n = R.n; t = R.t; round = R.round; whole_digest = takes_whole R.first_new_round R.round } in
    let figures : List Group → List Check = λ Gs. round_figures Gs R in
    record {
      setting = ap among e;
      answer = λ checks answer. groups-outcome T₁ T₂ m₁ m₂ e figures (λ Gs. checks (among Gs)) (λ Gs. answer (among Gs));
      lent = λ checks new old. groups-choice T₁ T₂ m₁ m₂ e figures (λ Gs. checks (among Gs)) (λ Gs. new (among Gs)) old;
    }
