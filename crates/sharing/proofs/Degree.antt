-- The degree check by the exponents of the commitments: its product is g to a linear form in the check polynomial.
-- So it passes exactly if the form is 0.
use mathlib.Core.Path.{◌≡◌, sym, ap, ◌∙◌}
use mathlib.Core.Bool.{true}
use mathlib.Core.List.{List, []}
use mathlib.Core.Logic.{◌↔◌}
use Prim.Native.Nat.{ℕ, ◌-◌, ◌<◌}
use native.Mathlib.Omega.{arith}
use borrow.Author.Tests.{eq-eqb, ne_eqb, eqb-true}
use lib.ListN.{length, get_or}
use lib.Dec.{eqb}
use Rattle.words.specs.Lists.{All, Below, map, all, up_from}
use Rattle.words.specs.Choice.{pick}
use Rattle.words.specs.Checks.{Met}
use Rattle.words.proofs.Lists.{All-to, map-length, map-all, map_at, up-length, up-within, up_at}
use Rattle.words.proofs.Tests.{all_true, true-all, equal-true, true-equal, pick_true, pick-false}
use Rattle.words.proofs.Checks.{value-exactly}
use Rattle.words.proofs.Stages.{met-both, rest-outcome}
use Rattle.field.specs.Residue.{residue_ops}
use Rattle.field.specs.Polynomial.{dot, weights, scaled}
use Rattle.field.specs.Claims.{Nodes}
use Rattle.field.proofs.Theorems.{linear-form}
use Rattle.group.specs.Power.{pow}
use Rattle.group.specs.Element.{is_exponent}
use Rattle.group.specs.declared.Group.{Group}
use Rattle.group.proofs.Elements.{exponent-true, true-exponent}
use Rattle.sharing.specs.Setting.{ProperSetting, members}
use Rattle.sharing.specs.Weights.{weights_of, powers_product}
use Rattle.sharing.specs.Answer.{degree_product, degree_figures, degree_equation, degree_checks, degree_in}
use Rattle.sharing.specs.Carried.{Commitments, CheckPolynomial, Passes, sum_at, sums_at}
use Rattle.sharing.specs.declared.Setting.{Setting}
use Rattle.sharing.proofs.Others.{weights-divided}
use Rattle.sharing.proofs.Linear.{form-below}
use Rattle.sharing.proofs.Generators.{Exponents, one-exactly, product-is-power}
use Rattle.sharing.proofs.Rounds.{member-nodes}
use Rattle.std.specs.Prelude.{Ok, Err}
use Rattle.words.specs.declared.refusal.Refusal.TheVariants.{DegreeFails}

-- ---- exponents below q, as a test
module _ (G : Group) (es : List ℕ) where
  exponents-low : all (is_exponent G) es ≡ true → Below G.q es
  exponents-low h = All-to es (exponent-true G) (all_true (is_exponent G) es h)

  low-exponents : Below G.q es → all (is_exponent G) es ≡ true
  low-exponents h = true-all (is_exponent G) es (All-to es (true-exponent G) h)

-- ---- the two stages: the figures are met exactly if they are commitments and a check polynomial, and then the product decides
module _ (S : Setting) (vs ds : List ℕ) where
  pub figures-met : Met (degree_figures S vs ds) ↔ (Commitments S vs × CheckPolynomial S ds)
  unfolding degree_figures
  figures-met = (
    λ m.
        let s = equal-true (length vs) S.n (length ds) (S.n - S.t) m.0 in
        (record { size = s.0; elements = m.1.0 }, record { size = s.1; low = exponents-low S.group ds m.1.1.0 }),
    λ w. (
      true-equal (length vs) S.n (length ds) (S.n - S.t) w.0.size w.1.size,
      (w.0.elements, (low-exponents S.group ds w.1.low, tt)),
    ),
  )

  passed-stages : Passes S vs ds → Met (degree_figures S vs ds) × Met (degree_equation S vs ds)
  unfolding degree_in
  passed-stages e = met-both (degree_figures S vs ds) (degree_equation S vs ds) ((value-exactly Unit (degree_checks S vs ds) tt).0 e)

  pub passed-polynomial : Passes S vs ds → CheckPolynomial S ds
  passed-polynomial e = (figures-met.0 (passed-stages e).0).1

  pub passed-product : Passes S vs ds → degree_product S vs ds ≡ 1
  unfolding degree_equation
  passed-product e = eqb-true _ 1 (passed-stages e).1.0

  module _ (C : Commitments S vs) (D : CheckPolynomial S ds) where
    product-decides : degree_in S vs ds ≡ pick (eqb (degree_product S vs ds) 1) (Ok tt) (Err DegreeFails)
    unfolding degree_in degree_equation
    product-decides = sym (rest-outcome (degree_figures S vs ds) (degree_equation S vs ds) (figures-met.1 (C, D)) tt)

    pub product-passes : degree_product S vs ds ≡ 1 → Passes S vs ds
    product-passes e = product-decides ∙ pick_true (eqb (degree_product S vs ds) 1) _ _ (eq-eqb _ 1 e)

    -- what does not pass is refused 9
    pub refused-nine : (Passes S vs ds → ⊥) → degree_in S vs ds ≡ Err DegreeFails
    refused-nine n = product-decides ∙ pick-false (eqb (degree_product S vs ds) 1) _ _ (ne_eqb _ 1 (λ e. n (product-passes e)))

-- ---- the sums of the places
module _ (S : Setting) (es : List ℕ) where
  pub sums-length : length (sums_at S es) ≡ S.n - S.t
  unfolding sums_at
  sums-length = map-length (sum_at S es) (up_from 0 (S.n - S.t)) ∙ up-length 0 (S.n - S.t)

  pub sums-at : (k : ℕ) → k < S.n - S.t → get_or (sums_at S es) k 0 ≡ sum_at S es k
  unfolding sums_at
  sums-at k h =
      map_at (sum_at S es) (up_from 0 (S.n - S.t)) k 0 0 (omega (arith, up-length 0 (S.n - S.t)))
      ∙ ap (sum_at S es) (up_at 0 (S.n - S.t) k h ∙ omega arith)

  -- a fact of the sum at each place
  pub sums-all : (P : ℕ → Type 0) → ((k : ℕ) → k < S.n - S.t → P (sum_at S es k)) → All P (sums_at S es)
  unfolding sums_at
  sums-all P h =
      map-all (sum_at S es) P (up_from 0 (S.n - S.t))
      (All-to (up_from 0 (S.n - S.t)) (λ k s. h k s.1) (up-within 0 (S.n - S.t) (S.n - S.t) (omega arith)))

  pub sum_low : ProperSetting S → (k : ℕ) → sum_at S es k < S.group.q
  unfolding sum_at
  sum_low Y k =
      let O = residue_ops S.group.q in
      form-below S.group.q Y.proper.prime-q (scaled O k (members S.n) es) (weights O [] (members S.n))

-- ---- commitments by their exponents
module _ (S : Setting) (Y : ProperSetting S) (vs es : List ℕ) (C : Commitments S vs) (E : Exponents S.group S.group.g.0 vs es) where
  exponents-size : length es ≡ S.n
  exponents-size = sym (map-length (pow S.group.p S.group.g.0) es) ∙ ap length (sym E.powers) ∙ C.size

  pub nodes : Nodes S.group.q (members S.n) es
  nodes = member-nodes Y es E.low exponents-size

  module _ (ds : List ℕ) (D : CheckPolynomial S ds) where
    degree-form : degree_product S vs ds
        ≡ pow S.group.p S.group.g.0 (dot (residue_ops S.group.q) ds (sums_at S es))
    unfolding degree_product sums_at sum_at
    degree-form =
        let G : Group = S.group in
        let P = Y.proper in
        ap (λ l. powers_product G.p l (weights_of S ds)) E.powers
        ∙ product-is-power G P G.g.0 P.g-generates es (weights_of S ds)
        ∙ ap (pow G.p G.g.0)
        (weights-divided S P.prime-q.above-one es ds
        ∙ linear-form G.q P.prime-q (members S.n) es ds nodes.nodes-low E.low D.low
        ∙ ap (λ k. dot (residue_ops G.q) ds (map (sum_at S es) (up_from 0 k))) D.size)

    pub passes-exactly : Passes S vs ds ↔ (dot (residue_ops S.group.q) ds (sums_at S es) ≡ 0)
    passes-exactly =
        let G : Group = S.group in
        let P = Y.proper in
        let form : ℕ = dot (residue_ops G.q) ds (sums_at S es) in
        let o = one-exactly G P G.g.0 P.g-generates form (form-below G.q P.prime-q ds (sums_at S es)) in
        (λ e. o.0 (sym degree-form ∙ passed-product S vs ds e), λ z. product-passes S vs ds C D (degree-form ∙ o.1 z))
