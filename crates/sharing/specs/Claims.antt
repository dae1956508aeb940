-- What is claimed of one dealing's commitments: the sentences of demand 3 that speak of one dealing, over the three
-- operations' answers, for every proper setting. RoundBySetting reads them off for the tables and rounds whose checks
-- do not refuse. Then what is claimed of a round's two numbers, where they do not enter and the rule that they give, of the table, and of
-- sums of polynomials.
use Rattle.std.specs.Prelude.{◌≡◌, true, false, List, ◌↔◌, ℕ, ◌-◌, ◌≤◌, ◌<◌, get_or, Ok, Err}
use Rattle.words.specs.Lists.{All, Below, map}
use Rattle.words.specs.Checks.{Check, Met}
use Rattle.field.specs.Residue.{residue_ops}
use Rattle.field.specs.Polynomial.{value_at, dot}
use Rattle.group.specs.Power.{pow}
use Rattle.group.specs.Table.{groups_of, table_checks}
use Rattle.group.specs.Element.{is_element, Proper}
use Rattle.group.specs.declared.Group.{Group}
use Rattle.sharing.specs.Setting.{ProperSetting, OneGroup, takes_whole, setting_in, with_numbers, round_checks, judged, judged_else, members}
use Rattle.sharing.specs.Answer.{degree_in, opening_in, recovery_in, degree_outcome, opening_outcome, recovery_outcome}
use Rattle.sharing.specs.Carried.{Polynomial, Carries, Commitments, Quorum, TrueShares, secret_of, CheckPolynomial, Passes, unit_of, place, AgreeOff, sums_at}
use Rattle.sharing.specs.Sum.{product_of, sum_of}
use Rattle.sharing.specs.declared.Round.{Round}
use Rattle.sharing.specs.declared.Setting.{Setting}
use Rattle.words.specs.declared.refusal.Refusal.TheVariants.{DegreeFails}

-- the degree check is a linear form in the check polynomial: with es the exponents of the commitments to the base g, the check
-- polynomial ds passes exactly if the sum of ds_k times the k-th sum is 0 modulo q
abbrev pub LinearCheck : Type 0
LinearCheck =
    (S : Setting) → ProperSetting S → (vs es ds : List ℕ) → Commitments S vs → Below S.group.q es
    → vs ≡ map (pow S.group.p S.group.g.0) es → CheckPolynomial S ds
    → Passes S vs ds ↔ (dot (residue_ops S.group.q) ds (sums_at S es) ≡ 0)

-- A. With n = t there is no place, and some polynomial of degree below t carries any n elements.
abbrev pub AlwaysCarried : Type 0
AlwaysCarried =
    (S : Setting) → ProperSetting S → S.n ≡ S.t
    → ((k : ℕ) → k < S.n - S.t → ⊥) × ((vs : List ℕ) → Commitments S vs → (f : List ℕ) × Carries S f vs)

-- B. For n commitments in the group that no polynomial of degree below t carries, one place of the check polynomial, fixed by
-- the commitments alone, lets at most one of its q values pass, whatever stands in the other places.
pub record OneValue (S : Setting) (vs : List ℕ) : Type 0 where
  pub within : place S vs < S.n - S.t
  pub unit-refused : degree_in S vs (unit_of S (place S vs)) ≡ Err DegreeFails
  pub lower-pass : (k : ℕ) → k < place S vs → Passes S vs (unit_of S k)
  pub one_value : (ds₁ ds₂ : List ℕ) → Passes S vs ds₁ → Passes S vs ds₂ → AgreeOff (place S vs) ds₁ ds₂
      → get_or ds₁ (place S vs) 0 ≡ get_or ds₂ (place S vs) 0

abbrev pub UncarriedOneValue : Type 0
UncarriedOneValue =
    (S : Setting) → ProperSetting S → (vs : List ℕ) → Commitments S vs → ((f : List ℕ) → Carries S f vs → ⊥) → OneValue S vs

-- C. For n commitments that such a polynomial carries, every check polynomial passes.
abbrev pub CarriedPasses : Type 0
CarriedPasses =
    (S : Setting) → ProperSetting S → (f vs : List ℕ) → Carries S f vs
    → Commitments S vs × ((ds : List ℕ) → CheckPolynomial S ds → Passes S vs ds)

-- B and C together: n elements are carried by some polynomial of degree below t exactly if the unit check polynomial of every place
-- passes. So anybody can test by n - t degree checks whether commitments are carried.
abbrev pub CarriedExactly : Type 0
CarriedExactly =
    (S : Setting) → ProperSetting S → (vs : List ℕ) → Commitments S vs
    → ((f : List ℕ) × Carries S f vs) ↔ ((k : ℕ) → k < S.n - S.t → Passes S vs (unit_of S k))

-- D. An opening is accepted exactly when it is the polynomial's value at 0.
abbrev pub OpeningExactly : Type 0
OpeningExactly =
    (S : Setting) → ProperSetting S → (f vs : List ℕ) → Carries S f vs → (u : ℕ)
    → (opening_in S vs u ≡ Ok tt) ↔ (u ≡ secret_of S f)

-- E. Every list of t or more different members, in whatever order, with shares true to the polynomial, recovers h^s, the secret
-- that the accepted opening gives.
abbrev pub QuorumRecovers : Type 0
QuorumRecovers =
    (S : Setting) → ProperSetting S → (f vs : List ℕ) → Carries S f vs → (ms ss : List ℕ) → Quorum S ms → TrueShares S f ms ss
    → (recovery_in S ms ss ≡ Ok (record { 0 = pow S.group.p S.group.h.0 (secret_of S f) }))
    × ((u : ℕ) → opening_in S vs u ≡ Ok tt → recovery_in S ms ss ≡ Ok (record { 0 = pow S.group.p S.group.h.0 u }))

-- The secret is the commitments' alone: two polynomials that carry the same commitments have the same value at 0.
abbrev pub SecretOfCommitments : Type 0
SecretOfCommitments =
    (S : Setting) → ProperSetting S → (f₁ f₂ vs : List ℕ) → Carries S f₁ vs → Carries S f₂ vs → secret_of S f₁ ≡ secret_of S f₂

-- A table and a round that their checks do not refuse have a proper setting, in which each operation answers what it answers over them.
pub record AnswersIn (S : Setting) (T : List ℕ) (R : Round) : Type 0 where
  pub proper-setting : ProperSetting S
  pub degree : (vs ds : List ℕ) → degree_outcome T R vs ds ≡ degree_in S vs ds
  pub opening : (vs : List ℕ) (u : ℕ) → opening_outcome T R vs u ≡ opening_in S vs u
  pub recovery : (ms ss : List ℕ) → recovery_outcome T R ms ss ≡ recovery_in S ms ss

abbrev pub RoundBySetting : Type 0
RoundBySetting = (T : List ℕ) (R : Round) → Met (round_checks T R) → AnswersIn (setting_in T R) T R

-- Nothing of a setting but group, n and t enters the three operations and the place that commitments fix: neither the group's number nor
-- the round's nor the rule.
pub record SameAnswers (S T : Setting) : Type 0 where
  pub degree : (vs ds : List ℕ) → degree_in S vs ds ≡ degree_in T vs ds
  pub opening : (vs : List ℕ) (u : ℕ) → opening_in S vs u ≡ opening_in T vs u
  pub recovery : (ms ss : List ℕ) → recovery_in S ms ss ≡ recovery_in T ms ss
  pub same_place : (vs : List ℕ) → place S vs ≡ place T vs

abbrev pub OneGroupAnswers : Type 0
OneGroupAnswers = (S T : Setting) → OneGroup S T → SameAnswers S T

-- ---- the rule by which digests give exponents
-- It is new exactly if the first round under it is not 0 and the round is not below it; so never in round 0, and with 0 in no round.
pub record RuleOf (first round : ℕ) : Type 0 where
  pub new : (takes_whole first round ≡ true) ↔ ((first ≡ 0 → ⊥) × (first ≤ round))
  pub in-round-zero : takes_whole first 0 ≡ false
  pub without-first : takes_whole 0 round ≡ false

abbrev pub Rule : Type 0
Rule = (first round : ℕ) → RuleOf first round

-- Of the first round nothing else enters: where another one gives the round the same rule, every operation over the round answers the
-- same and leaves the same in a lent buffer.
pub record SameOver (T₁ : List ℕ) (R₁ : Round) (T₂ : List ℕ) (R₂ : Round) : Type 1 where
  pub setting : setting_in T₁ R₁ ≡ setting_in T₂ R₂
  pub answer : {A : Type 0} (checks : Setting → List Check) (answer : Setting → A)
      → judged T₁ R₁ checks answer ≡ judged T₂ R₂ checks answer
  pub lent : {A : Type 0} (checks : Setting → List Check) (new : Setting → A) (old : A)
      → judged_else T₁ R₁ checks new old ≡ judged_else T₂ R₂ checks new old

abbrev pub RuleAlone : Type 1
RuleAlone =
    (T : List ℕ) (R : Round) (first : ℕ) → takes_whole first R.round ≡ takes_whole R.first_new_round R.round
    → SameOver T (with_numbers R.round first R) T R

-- Of an accepted table nothing but its groups enters: another one with the same groups, or no bytes where these are the built-in ones,
-- gives every operation over a round the same answer.
abbrev pub GroupsAlone : Type 1
GroupsAlone =
    (T₁ T₂ : List ℕ) (R : Round) → Met (table_checks T₁) → Met (table_checks T₂) → groups_of T₁ ≡ groups_of T₂ → SameOver T₁ R T₂ R

-- ---- sums of polynomials, and products of elements
-- A sum of polynomials of degree below t is one: it has t coefficients below q.
abbrev pub SumPolynomial : Type 0
SumPolynomial = (S : Setting) → ProperSetting S → (fs : List (List ℕ)) → All (Polynomial S) fs → Polynomial S (sum_of S fs)

-- The sum's value at any x is the sum of the values at x, in the exponent of any element b: b to the sum's value is the product of the
-- b to the values.
abbrev pub SumValue : Type 0
SumValue =
    (S : Setting) → ProperSetting S → (b : ℕ) → is_element S.group b ≡ true
    → (ds : List ℕ) (f : ℕ → List ℕ) → All (λ d. Polynomial S (f d)) ds → (x : ℕ)
    → pow S.group.p b (value_at S.group.q (sum_of S (map f ds)) x)
    ≡ product_of S.group.p (map (λ d. pow S.group.p b (value_at S.group.q (f d) x)) ds)

-- If for each d of a list the polynomial f d carries the commitments v d, the sum of the polynomials carries the commitments that are
-- multiplied member by member.
abbrev pub SumCarries : Type 0
SumCarries =
    (S : Setting) → ProperSetting S → (ds : List ℕ) (f : ℕ → List ℕ) (v : ℕ → ℕ → ℕ)
    → All (λ d. Carries S (f d) (map (v d) (members S.n))) ds
    → Carries S (sum_of S (map f ds)) (map (λ i. product_of S.group.p (map (λ d. v d i) ds)) (members S.n))

-- h to the sum's value at 0 is the product of the h to the polynomials' values at 0.
abbrev pub SumSecret : Type 0
SumSecret =
    (S : Setting) → ProperSetting S → (ds : List ℕ) (f : ℕ → List ℕ) → All (λ d. Polynomial S (f d)) ds
    → pow S.group.p S.group.h.0 (secret_of S (sum_of S (map f ds)))
    ≡ product_of S.group.p (map (λ d. pow S.group.p S.group.h.0 (secret_of S (f d))) ds)

-- A product of elements is an element; that of none is 1.
abbrev pub ProductsElement : Type 0
ProductsElement =
    (G : Group) → Proper G → (xs : List ℕ) → All (λ x. is_element G x ≡ true) xs → is_element G (product_of G.p xs) ≡ true
