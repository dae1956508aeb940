-- Recovery and the opening of carried commitments. By Lagrange's formula at zero, powers of a generator at t or more members give
-- the generator to the secret: h from the shares, and g from the first t commitments.
use mathlib.Core.Path.{◌≡◌, sym, ap, ◌∙◌}
use mathlib.Core.Bool.{true}
use mathlib.Core.List.{List}
use mathlib.Core.Logic.{◌↔◌}
use Prim.Native.Nat.{ℕ, ◌<◌}
use native.Mathlib.Nat.{mod-eq_of_lt}
use native.Mathlib.Omega.{arith}
use borrow.Author.Tests.{eq-eqb, eqb-true}
use lib.ListN.{length, take}
use Rattle.words.specs.Lists.{map, all}
use Rattle.words.specs.Checks.{Met}
use Rattle.words.proofs.Lists.{map-length, map-comp, take-map, up-take}
use Rattle.words.proofs.Checks.{value-exactly}
use Rattle.words.proofs.Stages.{both-met, met-both}
use Rattle.field.specs.Polynomial.{value_at}
use Rattle.field.proofs.Theorems.{value-at-zero}
use Rattle.group.specs.Power.{pow}
use Rattle.group.specs.Element.{is_element, Generator}
use Rattle.group.specs.declared.Element.{Element}
use Rattle.group.specs.declared.Group.{Group}
use Rattle.group.proofs.Elements.{exponent-true, true-exponent}
use Rattle.group.proofs.Logarithm.{same_power}
use Rattle.sharing.specs.Setting.{ProperSetting, members}
use Rattle.sharing.specs.Weights.{lagrange_at, powers_product}
use Rattle.sharing.specs.Answer.{recovered, recovery_checks, recovery_in, is_opening, opening_figures, opening_equation, opening_checks, opening_in}
use Rattle.sharing.specs.Carried.{powers_at, Polynomial, Carries, Commitments, Quorum, TrueShares, secret_of}
use Rattle.sharing.specs.declared.Setting.{Setting}
use Rattle.sharing.proofs.Others.{lagrange-at-zero}
use Rattle.sharing.proofs.Generators.{product-is-power, powers-elements}
use Rattle.sharing.proofs.Rounds.{true-quorum, first-quorum, quorum-low, quorum-nonzero}
use Rattle.sharing.proofs.Carried.{value-below, carried-commitments}
use Rattle.std.specs.Prelude.{Ok}

module _ (S : Setting) (Y : ProperSetting S) (f : List ℕ) (F : Polynomial S f) where
  pub recovered-secret : (b : ℕ) → Generator S.group b → (ms : List ℕ) → Quorum S ms
      → recovered S.group ms (powers_at S.group b f ms) ≡ pow S.group.p b (secret_of S f)
  unfolding recovered powers_at
  recovered-secret b B ms Q =
      let G : Group = S.group in
      let P = Y.proper in
      let vs : List ℕ = map (value_at G.q f) ms in
      let ls : List ℕ = map (lagrange_at G ms) ms in
      ap (λ l. powers_product G.p l ls) (sym (map-comp (value_at G.q f) (pow G.p b) ms))
      ∙ product-is-power G P b B vs ls
      ∙ ap (pow G.p b)
      (lagrange-at-zero G P.prime-q.above-one ms vs Q.distinct
      ∙ value-at-zero G.q P.prime-q f ms F.low (quorum-low Y Q) Q.distinct (quorum-nonzero Y Q) (omega (arith, F.size, Q.enough)))

  pub shares-recover : (ms ss : List ℕ) → Quorum S ms → TrueShares S f ms ss
      → recovery_in S ms ss ≡ Ok (record { 0 = pow S.group.p S.group.h.0 (secret_of S f) })
  unfolding recovery_in powers_at
  shares-recover ms ss Q T =
      let G : Group = S.group in
      let P = Y.proper in
      let h : ℕ = G.h.0 in
      let sizes : length ms ≡ length ss = sym (ap length T ∙ map-length _ ms) in
      let elements : all (is_element G) ss ≡ true = ap (all (is_element G)) T ∙ powers-elements G P h P.h-generates f ms in
      (value-exactly Element (recovery_checks S ms ss) (record { 0 = recovered G ms ss })).1
      (eq-eqb (length ms) (length ss) sizes, (true-quorum S ms Q, (elements, tt)))
      ∙ ap (λ v. Ok (record { 0 = v })) (ap (recovered G ms) T ∙ recovered-secret h P.h-generates ms Q)

-- an opening's figures are met exactly if they are commitments and an exponent
opening-figures : (S : Setting) (vs : List ℕ) (u : ℕ) → Met (opening_figures S vs u) ↔ (Commitments S vs × (u < S.group.q))
unfolding opening_figures
opening-figures S vs u = (
  λ m. (record { size = eqb-true (length vs) S.n m.0; elements = m.1.0 }, exponent-true S.group u m.1.1.0),
  λ w. (eq-eqb (length vs) S.n w.0.size, (w.0.elements, (true-exponent S.group u w.1, tt))),
)

module _ (S : Setting) (Y : ProperSetting S) (f vs : List ℕ) (K : Carries S f vs) where
  -- the first t commitments give g to the secret
  first-secret : recovered S.group (members S.t) (take S.t vs) ≡ pow S.group.p S.group.g.0 (secret_of S f)
  unfolding powers_at
  first-secret =
      let G : Group = S.group in
      let v : ℕ → ℕ = λ i. pow G.p G.g.0 (value_at G.q f i) in
      ap (recovered G (members S.t))
      (ap (take S.t) K.powers ∙ take-map v S.t (members S.n) ∙ ap (map v) (up-take 1 S.t S.n Y.t-most))
      ∙ recovered-secret S Y f K.polynomial G.g.0 Y.proper.g-generates (members S.t) (first-quorum Y)

  pub opens-secret : (u : ℕ) → opening_in S vs u ≡ Ok tt → u ≡ secret_of S f
  unfolding opening_in opening_equation is_opening
  opens-secret u e =
      let G : Group = S.group in
      let P = Y.proper in
      let c = met-both (opening_figures S vs u) (opening_equation S vs u) ((value-exactly Unit (opening_checks S vs u) tt).0 e) in
      let low = ((opening-figures S vs u).0 c.0).1 in
      let same = (same_power G P G.g.0 P.g-generates u (secret_of S f)).0 (eqb-true _ _ c.1.0 ∙ first-secret) in
      sym (mod-eq_of_lt low) ∙ same ∙ mod-eq_of_lt (value-below G.q P.prime-q f 0)

  pub secret-opens : opening_in S vs (secret_of S f) ≡ Ok tt
  unfolding opening_in opening_equation is_opening
  secret-opens =
      let u : ℕ = secret_of S f in
      let low = value-below S.group.q Y.proper.prime-q f 0 in
      (value-exactly Unit (opening_checks S vs u) tt).1
      (both-met (opening_figures S vs u) (opening_equation S vs u)
      ((opening-figures S vs u).1 (carried-commitments S Y f vs K, low)) (eq-eqb _ _ (sym first-secret), tt))
