-- The scope paper's section "Figures by hand" as one table, line by line and in its order, over the definitions that the contracts cite.
-- Group 1, n = 4, t = 2 and the polynomial 3 + 5 times the member number throughout; * marks what the paper stars.
use Rattle.std.specs.Prelude.{◌≡◌, true, false, List, [], ◌∷◌, ℕ, Ok, Err}
use Rattle.words.specs.Lists.{map}
use Rattle.words.specs.Checks.{Met}
use Rattle.words.specs.declared.refusal.Refusal.TheVariants.{OutOfRange, NoElement, NoExponent, NoMember, DegreeFails, ProofFails, WrongOpening}
use Rattle.group.specs.Power.{pow}
use Rattle.group.specs.Table.{groups_of, group_of, group_checks}
use Rattle.group.specs.Element.{is_element}
use Rattle.group.specs.Answer.{power_outcome}
use Rattle.group.specs.declared.Element.{Element}
use Rattle.group.specs.declared.Exponent.{Exponent}
use Rattle.group.specs.declared.Group.{Group}
use Rattle.sharing.specs.Setting.{round_checks, members}
use Rattle.sharing.specs.Weights.{weights_of}
use Rattle.sharing.specs.Answer.{degree_product, degree_in, recovery_in, opening_in, opening_outcome}
use Rattle.sharing.specs.Carried.{TrueShares, secret_of}
use Rattle.sharing.specs.Claims.{AnswersIn}
use Rattle.sharing.specs.Figures.{small_round, small}
use Rattle.sharing.specs.declared.Round.{Round}
use Rattle.records.specs.Keys.{is_key}
use Rattle.equality.specs.Equality.{announced, equality_outcome}
use Rattle.equality.specs.declared.Equality.{Equality}
use Rattle.dealing.specs.Dealing.{written_v, written_Y, written_r}

-- group 1
abbrev pub small_group : Group
small_group = small.group

-- 3 + 5 times the member number
abbrev pub polynomial : List ℕ
polynomial = 3 ∷ 5 ∷ []

-- its v, member by member
abbrev pub commitments : List ℕ
commitments = 9 ∷ 16 ∷ 8 ∷ 4 ∷ []

-- the same with the third v changed to 9
abbrev pub third_changed : List ℕ
third_changed = 9 ∷ 16 ∷ 9 ∷ 4 ∷ []

-- ---- check polynomials, n - t = 2 coefficients each
-- 1
abbrev pub one : List ℕ
one = 1 ∷ 0 ∷ []

-- the member number itself
abbrev pub number : List ℕ
number = 0 ∷ 1 ∷ []

-- 8 + the member number
abbrev pub eight_more : List ℕ
eight_more = 8 ∷ 1 ∷ []

-- ---- figures as the operations take them
-- an element by its number
abbrev pub element : ℕ → Element
element v = record { 0 = v }

-- an exponent by its number
abbrev pub exponent : ℕ → Exponent
exponent e = record { 0 = e }

-- a round of group 1 with n members and t = 2
abbrev pub round_with : ℕ → Round
round_with n = record { group = 1; n = n; t = 2; round = 0; first_new_round = 0 }

-- the proof of member 1's line, with the response r: v = 9 to the base g and Y = 8 to the base y = 12 under the challenge 5
abbrev pub proof_with : ℕ → Equality
proof_with r =
    record {
      b1 = small_group.g;
      x1 = element 9;
      b2 = element 12;
      x2 = element 8;
      a1 = element 18;
      a2 = element 3;
      c = exponent 5;
      r = exponent r;
    }

-- ---- the table
pub record ByHand : Type 0 where
  -- the setting below is that of the round, and over the round the operations answer what they answer in it
  pub over-round : AnswersIn small [] small_round
  -- ---- commitments, shares, secret
  -- * v = 9, 16, 8, 4
  pub v : map (written_v small_group polynomial) (members 4) ≡ commitments
  -- * true S = 13, 12, 4, 9
  pub true-shares : TrueShares small polynomial (members 4) (13 ∷ 12 ∷ 4 ∷ 9 ∷ [])
  -- * secret 16
  pub secret : pow small_group.p small_group.h.0 (secret_of small polynomial) ≡ 16
  -- ---- recovery
  -- * recovery from members 1, 2 gives 16
  pub recovery-1-2 : recovery_in small (1 ∷ 2 ∷ []) (13 ∷ 12 ∷ []) ≡ Ok (element 16)
  -- * from 4, 2 gives 16
  pub recovery-4-2 : recovery_in small (4 ∷ 2 ∷ []) (9 ∷ 12 ∷ []) ≡ Ok (element 16)
  -- member 2 twice: 8
  pub recovery-2-2 : recovery_in small (2 ∷ 2 ∷ []) (12 ∷ 12 ∷ []) ≡ Err NoMember
  -- ---- degree check
  -- * weights for check polynomial 1: 9, 6, 5, 2
  pub weights-one : weights_of small one ≡ 9 ∷ 6 ∷ 5 ∷ 2 ∷ []
  -- * for the member number itself: 9, 1, 4, 8
  pub weights-number : weights_of small number ≡ 9 ∷ 1 ∷ 4 ∷ 8 ∷ []
  -- * both products are 1
  pub product-one : degree_product small commitments one ≡ 1
  pub product-number : degree_product small commitments number ≡ 1
  -- ---- degree check with one commitment changed
  -- * third v changed to 9: check polynomial 1 gives 12, refused 9
  pub changed-one : degree_product small third_changed one ≡ 12
  pub changed-one-refused : degree_in small third_changed one ≡ Err DegreeFails
  -- * check polynomial 8 + member number gives 1 and passes
  pub changed-eight-more : degree_product small third_changed eight_more ≡ 1
  pub changed-eight-more-passes : degree_in small third_changed eight_more ≡ Ok tt
  -- ---- opening
  -- * opening 3 is right
  pub opening-3 : opening_in small commitments 3 ≡ Ok tt
  -- * 4 is refused 11
  pub opening-4 : opening_in small commitments 4 ≡ Err WrongOpening
  -- 11 is refused 7
  pub opening-11 : opening_in small commitments 11 ≡ Err NoExponent
  -- ---- proof of equal logarithms
  -- * y = 12, v = 9, Y = 8, nonce 3, c = 5: r = 7, a1 = 18, a2 = 3
  pub Y : written_Y small_group (12 ∷ []) polynomial 1 ≡ 8
  pub r : written_r small_group polynomial (3 ∷ []) 5 1 ≡ 7
  pub a1 : announced small_group small_group.g.0 9 5 7 ≡ 18
  pub a2 : announced small_group 12 8 5 7 ≡ 3
  pub response-7 : equality_outcome [] 1 (proof_with 7) ≡ Ok tt
  -- * r = 8 is refused 10
  pub response-8 : equality_outcome [] 1 (proof_with 8) ≡ Err ProofFails
  -- ---- elements, exponents, rounds
  -- * 22 is refused 6: its 11th power is 22
  pub base-22 : (e : ℕ) → power_outcome [] 1 (element 22) (exponent e) ≡ Err NoElement
  pub power-22 : pow small_group.p 22 11 ≡ 22
  -- exponent 10 of 4 gives 6; exponent 11: 7
  pub exponent-10 : power_outcome [] 1 (element 4) (exponent 10) ≡ Ok (element 6)
  pub exponent-11 : power_outcome [] 1 (element 4) (exponent 11) ≡ Err NoExponent
  -- n = 10 passes, 11: 2
  pub round-10 : Met (round_checks [] (round_with 10))
  pub round-11 : (vs : List ℕ) (u : ℕ) → opening_outcome [] (round_with 11) vs u ≡ Err OutOfRange
  -- ---- not of that section: 1 as a figure
  -- in each group of an accepted table v = 1 and Y = 1 are proper; as a key 1 is not
  pub element-1 : (T : List ℕ) (k : ℕ) → Met (group_checks T k) → is_element (group_of (groups_of T) k) 1 ≡ true
  pub key-1 : (G : Group) → is_key G 1 ≡ false
