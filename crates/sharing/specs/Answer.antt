-- What the degree check, the opening and recovery answer: in a setting, and over a table and a round, whose own checks come first.
use Rattle.std.specs.Prelude.{Bool, ◌&&◌, List, [], ◌∷◌, ◌++◌, ℕ, ◌-◌, leb, eqb, length, take}
use Rattle.words.specs.Lists.{map, all, none_twice}
use Rattle.words.specs.Checks.{Check, ◌unless◌, Outcome, outcome}
use Rattle.group.specs.Power.{pow}
use Rattle.group.specs.Element.{is_element, is_exponent}
use Rattle.group.specs.declared.Element.{Element}
use Rattle.group.specs.declared.Group.{Group}
use Rattle.sharing.specs.Setting.{judged, is_member, members}
use Rattle.sharing.specs.Weights.{weights_of, lagrange_at, powers_product}
use Rattle.sharing.specs.declared.Round.{Round}
use Rattle.sharing.specs.declared.Setting.{Setting}
use Rattle.words.specs.declared.refusal.Refusal.TheVariants.{BadLength, NoElement, NoExponent, NoMember, DegreeFails, WrongOpening}

-- ---- degree check
-- the product of the commitments to their weights
unfoldable pub degree_product : Setting → List ℕ → List ℕ → ℕ
degree_product S vs ds = powers_product S.group.p vs (weights_of S ds)

-- n commitments in the group, and a check polynomial of n - t coefficients below q
unfoldable pub degree_figures : Setting → List ℕ → List ℕ → List Check
degree_figures S vs ds =
    BadLength unless (eqb (length vs) S.n && eqb (length ds) (S.n - S.t))
    ∷ NoElement unless all (is_element S.group) vs
    ∷ NoExponent unless all (is_exponent S.group) ds
    ∷ []

unfoldable pub degree_equation : Setting → List ℕ → List ℕ → List Check
degree_equation S vs ds = DegreeFails unless eqb (degree_product S vs ds) 1 ∷ []

abbrev pub degree_checks : Setting → List ℕ → List ℕ → List Check
degree_checks S vs ds = degree_figures S vs ds ++ degree_equation S vs ds

unfoldable pub degree_in : Setting → List ℕ → List ℕ → Outcome (Unit {0})
degree_in S vs ds = outcome (degree_checks S vs ds) tt

unfoldable pub degree_outcome : List ℕ → Round → List ℕ → List ℕ → Outcome (Unit {0})
degree_outcome T R vs ds = judged T R (λ S. degree_checks S vs ds) (λ S. tt)

-- ---- recovery
-- the product of the shares to Lagrange's coefficients
unfoldable pub recovered : Group → List ℕ → List ℕ → ℕ
recovered G ms ss = powers_product G.p ss (map (lagrange_at G ms) ms)

-- t or more members from 1 to n, none twice
unfoldable pub is_quorum : Setting → List ℕ → Bool
is_quorum S ms = leb S.t (length ms) && (all (is_member S.n) ms && none_twice ms)

abbrev pub recovery_checks : Setting → List ℕ → List ℕ → List Check
recovery_checks S ms ss =
    BadLength unless eqb (length ms) (length ss)
    ∷ NoMember unless is_quorum S ms
    ∷ NoElement unless all (is_element S.group) ss
    ∷ []

unfoldable pub recovery_in : Setting → List ℕ → List ℕ → Outcome Element
recovery_in S ms ss = outcome (recovery_checks S ms ss) (record { 0 = recovered S.group ms ss })

unfoldable pub recovery_outcome : List ℕ → Round → List ℕ → List ℕ → Outcome Element
recovery_outcome T R ms ss = judged T R (λ S. recovery_checks S ms ss) (λ S. record { 0 = recovered S.group ms ss })

-- ---- opening
-- g to the opening u is what the first t commitments give at 0
unfoldable pub is_opening : Setting → List ℕ → ℕ → Bool
is_opening S vs u = eqb (pow S.group.p S.group.g.0 u) (recovered S.group (members S.t) (take S.t vs))

-- n commitments in the group, and an exponent
unfoldable pub opening_figures : Setting → List ℕ → ℕ → List Check
opening_figures S vs u =
    BadLength unless eqb (length vs) S.n
    ∷ NoElement unless all (is_element S.group) vs
    ∷ NoExponent unless is_exponent S.group u
    ∷ []

unfoldable pub opening_equation : Setting → List ℕ → ℕ → List Check
opening_equation S vs u = WrongOpening unless is_opening S vs u ∷ []

abbrev pub opening_checks : Setting → List ℕ → ℕ → List Check
opening_checks S vs u = opening_figures S vs u ++ opening_equation S vs u

unfoldable pub opening_in : Setting → List ℕ → ℕ → Outcome (Unit {0})
opening_in S vs u = outcome (opening_checks S vs u) tt

unfoldable pub opening_outcome : List ℕ → Round → List ℕ → ℕ → Outcome (Unit {0})
opening_outcome T R vs u = judged T R (λ S. opening_checks S vs u) (λ S. tt)
