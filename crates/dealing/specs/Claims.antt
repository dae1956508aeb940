-- What is claimed of dealings, judged and written: demand 2 for what a dealer posts, and what it gives demand 3. The claims are over a
-- setting, and DealingByRound reads them off over a table and a round; DistinctKeys speaks of these at once.
use Rattle.std.specs.Prelude.{◌≡◌, Bool, true, List, ◌++◌, ◌↔◌, ℕ, ◌*◌, ◌^◌, ◌<◌, ◌≤◌, length, get_or, Ok, Err}
use Rattle.words.specs.Lists.{Distinct, all}
use Rattle.words.specs.Checks.{Outcome, outcome, Met, without}
use Rattle.group.specs.Element.{is_element}
use Rattle.sharing.specs.Setting.{ProperSetting, setting_in, in_round, with_numbers, round_checks, judged, judged_else, members}
use Rattle.sharing.specs.Answer.{degree_product}
use Rattle.sharing.specs.Carried.{Carries, Commitments, Passes, place, AgreeOff}
use Rattle.sharing.specs.declared.Round.{Round}
use Rattle.sharing.specs.declared.Setting.{Setting}
use Rattle.records.specs.Layout.{is_line_record, dealer_of, member_of, round_of, member_record}
use Rattle.records.specs.Keys.{key_checks}
use Rattle.records.specs.Claims.{ProperKeys, KeyTwice}
use Rattle.challenge.specs.Message.{check_polynomial}
use Rattle.lines.specs.Lines.{address_checks, is_line_of, v_in, Y_in, r_in, c_in, vs_in}
use Rattle.dealing.specs.Dealing.{judge_size_checks, judge_dealing_checks, judge_dealing_in, judge_dealing_outcome, recomputed}
use Rattle.dealing.specs.Dealing.{written_dealing, write_size_checks, write_dealing_checks, write_dealing_in, write_dealing_outcome, lent_dealing_in, lent_dealing}
use Rattle.words.specs.declared.refusal.Refusal.TheVariants.{DegreeFails, ProofFails, OtherRound, SameKey}
use Rattle.words.specs.declared.refusal.Refusal.{Refusal}

-- ---- a posted dealing
-- the line of member i: its form and its figures
pub record Line (S : Setting) (d : ℕ) (b : List ℕ) (i : ℕ) : Type 0 where
  pub kind : is_line_record (member_record b i) ≡ true
  pub dealer : dealer_of (member_record b i) ≡ d
  pub member : member_of (member_record b i) ≡ i
  pub round : round_of (member_record b i) ≡ S.round
  pub v-element : is_element S.group (v_in b i) ≡ true
  pub Y-element : is_element S.group (Y_in b i) ≡ true
  pub r-low : r_in b i < S.group.q
  pub c-low : c_in b i < S.group.q

-- all that is asked of its figures but for the equations; of the keys, that each is one and that they are distinct
pub record PostedDealing (S : Setting) (d : ℕ) (ys b : List ℕ) : Type 0 where
  pub dealer : (1 ≤ d) × (d ≤ S.n)
  pub keys-size : length ys ≡ S.n
  pub keys : ProperKeys S.group ys
  pub size : length b ≡ 32 * S.n
  pub lines : (i : ℕ) → 1 ≤ i → i ≤ S.n → Line S d b i

-- the equation of the degree check, over the judge's own check polynomial
abbrev pub DegreeEquation : Setting → ℕ → List ℕ → Type 0
DegreeEquation S d b = degree_product S (vs_in S.n b) (check_polynomial S d (v_in b) (Y_in b)) ≡ 1

-- the equation of member i's line: its challenge is the one that the announcements of all lines give
abbrev pub LineEquation : Setting → ℕ → List ℕ → List ℕ → ℕ → Type 0
LineEquation S d ys b i = c_in b i ≡ recomputed S d ys (v_in b) (Y_in b) (r_in b) (c_in b)

pub record AcceptedDealing (S : Setting) (d : ℕ) (ys b : List ℕ) : Type 0 where
  pub posted : PostedDealing S d ys b
  pub degree : DegreeEquation S d b
  pub challenge : (i : ℕ) → 1 ≤ i → i ≤ S.n → LineEquation S d ys b i

-- a dealing is accepted exactly if every equation between posted figures holds
abbrev pub DealingExactly : Type 0
DealingExactly = (S : Setting) (d : ℕ) (ys b : List ℕ) → (judge_dealing_in S d ys b ≡ Ok tt) ↔ AcceptedDealing S d ys b

-- where an equation fails, the number says which: 9 the degree check's, and else 10 a line's
pub record EquationRefused (S : Setting) (d : ℕ) (ys b : List ℕ) : Type 0 where
  pub nine : (DegreeEquation S d b → ⊥) → judge_dealing_in S d ys b ≡ Err DegreeFails
  pub ten : DegreeEquation S d b → (i : ℕ) → 1 ≤ i → i ≤ S.n → (LineEquation S d ys b i → ⊥) → judge_dealing_in S d ys b ≡ Err ProofFails

abbrev pub DealingRefused : Type 0
DealingRefused = (S : Setting) (d : ℕ) (ys b : List ℕ) → PostedDealing S d ys b → EquationRefused S d ys b

-- ---- equal keys
-- where two members have one key, the judge refuses by 22 if nothing earlier refuses, which is the dealer and the sizes, and so does the
-- writer
abbrev pub JudgedKeyTwice : Type 0
JudgedKeyTwice =
    (S : Setting) (d : ℕ) (ys b : List ℕ) → Met (address_checks S d ++ judge_size_checks S ys b) → KeyTwice S.group ys
    → judge_dealing_in S d ys b ≡ Err SameKey

abbrev pub WrittenKeyTwice : Type 0
WrittenKeyTwice =
    (S : Setting) (d : ℕ) (ys f ws : List ℕ) (room : ℕ) → Met (address_checks S d ++ write_size_checks S ys f ws room) → KeyTwice S.group ys
    → write_dealing_in S d ys f ws room ≡ Err SameKey

-- ---- distinct keys
-- the judge without 22, in a setting and over a table and a round
abbrev pub judge_without22_in : Setting → ℕ → List ℕ → List ℕ → Outcome (Unit {0})
judge_without22_in S d ys b = outcome (without SameKey (judge_dealing_checks S d ys b)) tt

abbrev pub judge_without22 : List ℕ → Round → ℕ → List ℕ → List ℕ → Outcome (Unit {0})
judge_without22 T R d ys b = judged T R (λ S. without SameKey (judge_dealing_checks S d ys b)) (λ S. tt)

-- the writer without 22, and what it leaves in the lent bytes
abbrev pub write_without22 : List ℕ → Round → ℕ → List ℕ → List ℕ → List ℕ → ℕ → Outcome (Unit {0})
write_without22 T R d ys f ws room = judged T R (λ S. without SameKey (write_dealing_checks S d ys f ws room)) (λ S. tt)

abbrev pub lent_without22 : List ℕ → Round → ℕ → List ℕ → List ℕ → List ℕ → List ℕ → List ℕ
lent_without22 T R d ys f ws out =
    judged_else T R (λ S. without SameKey (write_dealing_checks S d ys f ws (length out))) (λ S. written_dealing S d ys f ws) out

-- with distinct keys judge and writer do what they would do without 22, over whatever table and round
pub record Without22 (T : List ℕ) (R : Round) (d : ℕ) (ys : List ℕ) : Type 0 where
  pub judged : (b : List ℕ) → judge_dealing_outcome T R d ys b ≡ judge_without22 T R d ys b
  pub written : (f ws : List ℕ) (room : ℕ) → write_dealing_outcome T R d ys f ws room ≡ write_without22 T R d ys f ws room
  pub lent : (f ws out : List ℕ) → lent_dealing T R d ys f ws out ≡ lent_without22 T R d ys f ws out

abbrev pub DistinctKeys : Type 0
DistinctKeys = (T : List ℕ) (R : Round) (d : ℕ) (ys : List ℕ) → Distinct ys → Without22 T R d ys

-- and so does the judge in every setting, which a board calls
abbrev pub JudgedDistinct : Type 0
JudgedDistinct = (S : Setting) (d : ℕ) (ys b : List ℕ) → Distinct ys → judge_dealing_in S d ys b ≡ judge_without22_in S d ys b

-- ---- rounds
-- the judge comes to the rounds of the lines: nothing earlier refuses, which is the dealer, the sizes, the keys, and the form of each line
pub record DealingUpToRound (S : Setting) (d : ℕ) (ys b : List ℕ) : Type 0 where
  pub front : Met (address_checks S d ++ judge_size_checks S ys b)
  pub keys : Met (key_checks S.group ys)
  pub form : all (is_line_of d b) (members S.n) ≡ true

-- then a dealing with a line of another round is refused by 17
abbrev pub DealingOfOtherRound : Type 0
DealingOfOtherRound =
    (S : Setting) (d : ℕ) (ys b : List ℕ) → DealingUpToRound S d ys b → (i : ℕ) → 1 ≤ i → i ≤ S.n → (round_of (member_record b i) ≡ S.round → ⊥)
    → judge_dealing_in S d ys b ≡ Err OtherRound

-- ---- from posted figures to demand 3
-- an accepted dealing has n elements as commitments, for which the judge's own check polynomial passes
abbrev pub AcceptedPasses : Type 0
AcceptedPasses =
    (S : Setting) → ProperSetting S → (d : ℕ) (ys b : List ℕ) → judge_dealing_in S d ys b ≡ Ok tt
    → Commitments S (vs_in S.n b) × Passes S (vs_in S.n b) (check_polynomial S d (v_in b) (Y_in b))

-- where no polynomial carries an accepted dealing, the judge's own check polynomial has, at the place that the commitments fix,
-- the one value that passes: what a dealer must hit
abbrev pub AcceptedUncarried : Type 0
AcceptedUncarried =
    (S : Setting) → ProperSetting S → (d : ℕ) (ys b : List ℕ) → judge_dealing_in S d ys b ≡ Ok tt
    → ((f : List ℕ) → Carries S f (vs_in S.n b) → ⊥)
    → (ds : List ℕ) → Passes S (vs_in S.n b) ds
    → AgreeOff (place S (vs_in S.n b)) ds (check_polynomial S d (v_in b) (Y_in b))
    → get_or ds (place S (vs_in S.n b)) 0 ≡ get_or (check_polynomial S d (v_in b) (Y_in b)) (place S (vs_in S.n b)) 0

-- ---- a written dealing, in a round whose number is a word, as every lent one is
-- what is written from proper figures is accepted with the same keys
abbrev pub DealingComplete : Type 0
DealingComplete =
    (S : Setting) → ProperSetting S → S.round < 2 ^ 32 → (d : ℕ) (ys f ws : List ℕ) → write_dealing_in S d ys f ws (32 * S.n) ≡ Ok tt
    → judge_dealing_in S d ys (written_dealing S d ys f ws) ≡ Ok tt

-- in the round that it is written for: in every other, under either rule, it is refused by 17
abbrev pub WrittenForOtherRound : Type 0
WrittenForOtherRound =
    (S : Setting) → ProperSetting S → S.round < 2 ^ 32 → (d : ℕ) (ys f ws : List ℕ) → write_dealing_in S d ys f ws (32 * S.n) ≡ Ok tt
    → (round : ℕ) → (round ≡ S.round → ⊥) → (whole : Bool)
    → judge_dealing_in (in_round round whole S) d ys (written_dealing S d ys f ws) ≡ Err OtherRound

-- and its polynomial carries it
abbrev pub WrittenCarried : Type 0
WrittenCarried =
    (S : Setting) → ProperSetting S → S.round < 2 ^ 32 → (d : ℕ) (ys f ws : List ℕ) → write_dealing_in S d ys f ws (32 * S.n) ≡ Ok tt
    → Carries S f (vs_in S.n (written_dealing S d ys f ws))

-- one polynomial, written for two rounds, has the same commitments in both, under whatever rules
abbrev pub SameCommitments : Type 0
SameCommitments =
    (S : Setting) → ProperSetting S → S.round < 2 ^ 32 → (d : ℕ) (ys f ws : List ℕ) → write_dealing_in S d ys f ws (32 * S.n) ≡ Ok tt
    → (round : ℕ) → round < 2 ^ 32 → (whole : Bool) (us : List ℕ) → write_dealing_in (in_round round whole S) d ys f us (32 * S.n) ≡ Ok tt
    → vs_in S.n (written_dealing S d ys f ws) ≡ vs_in S.n (written_dealing (in_round round whole S) d ys f us)

-- the lent bytes are accepted where nothing is refused
abbrev pub LentDealing : Type 0
LentDealing =
    (S : Setting) → ProperSetting S → S.round < 2 ^ 32 → (d : ℕ) (ys f ws out : List ℕ) → write_dealing_in S d ys f ws (length out) ≡ Ok tt
    → judge_dealing_in S d ys (lent_dealing_in S d ys f ws out) ≡ Ok tt

-- and stay as they were where a number is refused
abbrev pub LentDealingKept : Type 0
LentDealingKept =
    (S : Setting) (d : ℕ) (ys f ws out : List ℕ) (k : Refusal) → write_dealing_in S d ys f ws (length out) ≡ Err k
    → lent_dealing_in S d ys f ws out ≡ out

-- ---- over a table and a round
-- nothing is accepted or written where their checks refuse; else judge and writer do what they do in their setting, which is proper
pub record DealingOverRound (T : List ℕ) (R : Round) : Type 0 where
  pub judged-met : (d : ℕ) (ys b : List ℕ) → judge_dealing_outcome T R d ys b ≡ Ok tt → Met (round_checks T R)
  pub written-met : (d : ℕ) (ys f ws : List ℕ) (room : ℕ) → write_dealing_outcome T R d ys f ws room ≡ Ok tt → Met (round_checks T R)
  pub kept : (d : ℕ) (ys f ws out : List ℕ) (k : Refusal) → write_dealing_outcome T R d ys f ws (length out) ≡ Err k
      → lent_dealing T R d ys f ws out ≡ out
  pub proper : Met (round_checks T R) → ProperSetting (setting_in T R)
  pub judged-in : Met (round_checks T R) → (d : ℕ) (ys b : List ℕ) → judge_dealing_outcome T R d ys b ≡ judge_dealing_in (setting_in T R) d ys b
  pub written_in : Met (round_checks T R) → (d : ℕ) (ys f ws : List ℕ) (room : ℕ)
      → write_dealing_outcome T R d ys f ws room ≡ write_dealing_in (setting_in T R) d ys f ws room
  pub lent-in : Met (round_checks T R) → (d : ℕ) (ys f ws out : List ℕ)
      → lent_dealing T R d ys f ws out ≡ lent_dealing_in (setting_in T R) d ys f ws out
  -- what is written is accepted by a judge that takes the same figures of the round: its number, and the first round under the new rule
  pub complete : R.round < 2 ^ 32 → (d : ℕ) (ys f ws out : List ℕ) → write_dealing_outcome T R d ys f ws (length out) ≡ Ok tt
      → judge_dealing_outcome T R d ys (lent_dealing T R d ys f ws out) ≡ Ok tt
  -- in the round of any other number it is refused by 17, whichever round is the first under the new rule
  pub for-other-round : R.round < 2 ^ 32 → (d : ℕ) (ys f ws out : List ℕ) → write_dealing_outcome T R d ys f ws (length out) ≡ Ok tt
      → (round first : ℕ) → (round ≡ R.round → ⊥)
      → judge_dealing_outcome T (with_numbers round first R) d ys (lent_dealing T R d ys f ws out) ≡ Err OtherRound
  -- and so is every dealing with a line of another round, where nothing earlier refuses it
  pub of-other-round : Met (round_checks T R) → (d : ℕ) (ys b : List ℕ) → DealingUpToRound (setting_in T R) d ys b
      → (i : ℕ) → 1 ≤ i → i ≤ R.n → (round_of (member_record b i) ≡ R.round → ⊥) → judge_dealing_outcome T R d ys b ≡ Err OtherRound
  -- one polynomial, written for two rounds, has the same commitments in both, whichever rounds are the first under the new rule
  pub same-commitments : R.round < 2 ^ 32 → (d : ℕ) (ys f ws out : List ℕ) → write_dealing_outcome T R d ys f ws (length out) ≡ Ok tt
      → (round first : ℕ) → round < 2 ^ 32 → (us other : List ℕ)
      → write_dealing_outcome T (with_numbers round first R) d ys f us (length other) ≡ Ok tt
      → vs_in R.n (lent_dealing T R d ys f ws out) ≡ vs_in R.n (lent_dealing T (with_numbers round first R) d ys f us other)

abbrev pub DealingByRound : Type 0
DealingByRound = (T : List ℕ) (R : Round) → DealingOverRound T R
