-- Commitments that a polynomial of degree below t carries: they are those whose sums are all 0, so every check polynomial passes.
use mathlib.Core.Path.{◌≡◌, refl, sym, ap, ◌∙◌}
use mathlib.Core.List.{List, [], ◌∷◌}
use Prim.Native.Nat.{ℕ, ◌+◌, ◌-◌, ◌<◌}
use native.Mathlib.Omega.{arith}
use lib.ListN.{length}
use Rattle.words.specs.Lists.{map, all}
use Rattle.words.proofs.Lists.{All-each, map-length, map-all, map-comp, up-length}
use Rattle.field.specs.Prime.{Prime}
use Rattle.field.specs.Residue.{mul}
use Rattle.field.specs.Polynomial.{value_at}
use Rattle.field.proofs.Modular.{add-below}
use Rattle.field.proofs.Inverses.{positive}
use Rattle.field.proofs.Theorems.{low-degree}
use Rattle.group.specs.Power.{pow}
use Rattle.group.specs.Element.{is_element}
use Rattle.group.specs.declared.Group.{Group}
use Rattle.sharing.specs.Setting.{ProperSetting, members}
use Rattle.sharing.specs.Carried.{powers_at, Carries, Commitments, CheckPolynomial, Passes, sum_at, sums_at}
use Rattle.sharing.specs.declared.Setting.{Setting}
use Rattle.sharing.proofs.Linear.{form-zero}
use Rattle.sharing.proofs.Generators.{Exponents, powers-elements}
use Rattle.sharing.proofs.Degree.{sums-all, nodes, passes-exactly}

pub value-below : (q : ℕ) → Prime q → (f : List ℕ) (x : ℕ) → value_at q f x < q
value-below q P [] x = positive q P
value-below q P (a ∷ f) x = add-below q a (mul q x (value_at q f x)) (positive q P)

module _ (S : Setting) (Y : ProperSetting S) where
  places : S.t + (S.n - S.t) ≡ length (members S.n)
  places = omega (arith, up-length 1 S.n, Y.t-most)

  -- where the sums are 0 a polynomial carries the commitments
  pub sums-carried : (vs es : List ℕ) → Commitments S vs → Exponents S.group S.group.g.0 vs es
      → ((k : ℕ) → k < S.n - S.t → sum_at S es k ≡ 0) → (f : List ℕ) × Carries S f vs
  unfolding sum_at powers_at
  sums-carried vs es C E z =
      let G : Group = S.group in
      let r = (low-degree G.q Y.proper.prime-q (S.n - S.t) S.t (members S.n) es (nodes S Y vs es C E) places).0 z in (
        r.0,
        record {
          polynomial = record { size = r.1.size; low = r.1.low };
          powers =
              E.powers
              ∙ ap (map (pow G.p G.g.0)) (sym r.1.values)
              ∙ map-comp (value_at G.q r.0) (pow G.p G.g.0) (members S.n);
        },
      )

  module _ (f vs : List ℕ) (K : Carries S f vs) where
    abbrev values : List ℕ
    values = map (value_at S.group.q f) (members S.n)

    values-exponents : Exponents S.group S.group.g.0 vs values
    unfolding powers_at
    values-exponents =
        let G : Group = S.group in
        record {
          low =
              map-all (value_at G.q f) (λ x. x < G.q) (members S.n)
              (All-each (members S.n) (value-below G.q Y.proper.prime-q f));
          powers = K.powers ∙ sym (map-comp (value_at G.q f) (pow G.p G.g.0) (members S.n));
        }

    pub carried-commitments : Commitments S vs
    unfolding powers_at
    carried-commitments =
        let G : Group = S.group in
        record {
          size = ap length K.powers ∙ map-length _ (members S.n) ∙ up-length 1 S.n;
          elements =
              ap (all (is_element G)) K.powers
              ∙ powers-elements G Y.proper G.g.0 Y.proper.g-generates f (members S.n);
        }

    carried-sums : (k : ℕ) → k < S.n - S.t → sum_at S values k ≡ 0
    unfolding sum_at
    carried-sums =
        (low-degree S.group.q Y.proper.prime-q (S.n - S.t) S.t (members S.n) values
        (nodes S Y vs values carried-commitments values-exponents) places).1
        (f, record { size = K.polynomial.size; low = K.polynomial.low; values = refl })

    pub carried-pass : (ds : List ℕ) → CheckPolynomial S ds → Passes S vs ds
    carried-pass ds D =
        (passes-exactly S Y vs values carried-commitments values-exponents ds D).1
        (form-zero S.group.q Y.proper.prime-q ds (sums_at S values) (sums-all S values (λ z. z ≡ 0) carried-sums))
