-- The place that commitments fix. The unit check polynomial of a place passes exactly if the sum there is 0. So where every unit passes
-- a polynomial carries the commitments, and at the lowest place whose unit does not pass the sum is not 0, which leaves one value there.
use mathlib.Core.Path.{◌≡◌, refl, sym, ap, ◌∙◌}
use mathlib.Core.Bool.{Bool, true, false}
use mathlib.Core.List.{List}
use mathlib.Core.Logic.{◌↔◌, ◌⊎◌, inl, inr, ⊎_elim}
use Prim.Native.Nat.{ℕ, zero, suc, ◌+◌, ◌-◌, ◌%◌, ◌≤◌, ◌<◌}
use native.Mathlib.Nat.{mod-eq_of_lt, eq-zero-or-pos}
use native.Mathlib.Decide.{dec_le}
use native.Mathlib.Omega.{arith}
use lib.ListN.{length, get_or, replicate, length-replicate}
use Rattle.words.specs.Choice.{pick}
use Rattle.words.specs.Lists.{Below}
use Rattle.words.proofs.Checks.{is-value, not-value}
use Rattle.field.specs.Residue.{residue_ops}
use Rattle.field.specs.Polynomial.{dot}
use Rattle.sharing.specs.Setting.{ProperSetting}
use Rattle.sharing.specs.Answer.{degree_in}
use Rattle.sharing.specs.Carried.{Carries, Commitments, CheckPolynomial, Passes, unit_at, unit_of, lowest, place, AgreeOff, sum_at, sums_at}
use Rattle.sharing.specs.Claims.{OneValue}
use Rattle.sharing.specs.declared.Setting.{Setting}
use Rattle.sharing.proofs.Linear.{form-unit, form-one-value}
use Rattle.sharing.proofs.Generators.{Exponents}
use Rattle.sharing.proofs.Degree.{passed-polynomial, refused-nine, sums-length, sums-at, sums-all, sum_low, passes-exactly}
use Rattle.sharing.proofs.Carried.{sums-carried}
use Rattle.std.specs.Prelude.{is_ok}

-- ---- the lowest number at which a test is false
record Lowest (test : ℕ → Bool) (k m r : ℕ) : Type 0 where
  from : k ≤ r
  lower : (j : ℕ) → k ≤ j → j < r → test j ≡ true
  here : (r ≡ k + m) ⊎ ((r < k + m) × (test r ≡ false))

is-lowest : (test : ℕ → Bool) (k m : ℕ) → Lowest test k m (lowest test k m)
is-lowest test k zero = record { from = omega arith; lower = λ j h l. absurd (omega arith); here = inl (omega arith) }
is-lowest test k (suc m) = split (test k) refl (is-lowest test (suc k) m)
  where
    split : (b : Bool) → test k ≡ b → Lowest test (suc k) m (lowest test (suc k) m) → Lowest test k (suc m) (pick b (lowest test (suc k) m) k)
    split true e r =
        record {
          from = omega (arith, r.from);
          lower = λ j h l. elim (dec_le j k) [
            | yes w ↦ let s : j ≡ k = omega arith in ap test s ∙ e
            | no w ↦ r.lower j (omega arith) l
          ];
          here = ⊎_elim (λ w. inl (omega arith)) (λ w. inr (omega arith, w.1)) r.here;
        }
    split false e r = record { from = omega arith; lower = λ j h l. absurd (omega arith); here = inr (omega arith, e) }

-- ---- units are check polynomials
zeros-low : (q m : ℕ) → 1 < q → Below q (replicate m 0)
zeros-low q zero h = tt
zeros-low q (suc m) h = (omega arith, zeros-low q m h)

unit-low : (q k m : ℕ) → 1 < q → Below q (unit_at k m)
unit-low q k zero h = tt
unit-low q zero (suc m) h = (h, zeros-low q m h)
unit-low q (suc k) (suc m) h = (omega arith, unit-low q k m h)

unit-length : (k m : ℕ) → length (unit_at k m) ≡ m
unit-length k zero = refl
unit-length zero (suc m) = ap suc (length-replicate m 0)
unit-length (suc k) (suc m) = ap suc (unit-length k m)

pub unit-polynomial : (S : Setting) → ProperSetting S → (k : ℕ) → CheckPolynomial S (unit_of S k)
unit-polynomial S Y k =
    record { size = unit-length k (S.n - S.t); low = unit-low S.group.q k (S.n - S.t) Y.proper.prime-q.above-one }

module _ (S : Setting) (Y : ProperSetting S) (vs es : List ℕ) (C : Commitments S vs) (E : Exponents S.group S.group.g.0 vs es) where
  unit-exactly : (k : ℕ) → k < S.n - S.t → Passes S vs (unit_of S k) ↔ (sum_at S es k ≡ 0)
  unit-exactly k h =
      let p = passes-exactly S Y vs es C E (unit_of S k) (unit-polynomial S Y k) in
      let s : dot (residue_ops S.group.q) (unit_of S k) (sums_at S es) ≡ sum_at S es k =
      form-unit S.group.q Y.proper.prime-q k (S.n - S.t) (sums_at S es) (sums-length S es) h
      (sums-all S es (λ z. z < S.group.q) (λ j l. sum_low S es Y j))
      ∙ sums-at S es k h in
      (λ e. sym s ∙ p.0 e, λ z. p.1 (s ∙ z))

  -- one value passes at a place whose unit does not
  one_value : (k : ℕ) → k < S.n - S.t → (Passes S vs (unit_of S k) → ⊥)
      → (ds₁ ds₂ : List ℕ) → Passes S vs ds₁ → Passes S vs ds₂ → AgreeOff k ds₁ ds₂ → get_or ds₁ k 0 ≡ get_or ds₂ k 0
  one_value k h n ds₁ ds₂ p₁ p₂ a =
      let D₁ = passed-polynomial S vs ds₁ p₁ in
      let D₂ = passed-polynomial S vs ds₂ p₂ in
      let z : get_or (sums_at S es) k 0 % S.group.q ≡ sum_at S es k =
      ap (λ z. z % S.group.q) (sums-at S es k h) ∙ mod-eq_of_lt (sum_low S es Y k) in
      let nonzero : 0 < sum_at S es k = ⊎_elim (λ e. absurd (n ((unit-exactly k h).1 e))) (λ p. p) (eq-zero-or-pos (sum_at S es k)) in
      form-one-value S.group.q Y.proper.prime-q k ds₁ ds₂ (sums_at S es) (D₁.size ∙ sym D₂.size) (omega (arith, D₂.size))
      D₁.low D₂.low a (omega arith) ((passes-exactly S Y vs es C E ds₁ D₁).0 p₁) ((passes-exactly S Y vs es C E ds₂ D₂).0 p₂)

  pub carried-or-one : ((f : List ℕ) × Carries S f vs) ⊎ OneValue S vs
  unfolding place
  carried-or-one =
      let r = is-lowest (λ k. is_ok (degree_in S vs (unit_of S k))) 0 (S.n - S.t) in
      let lower : (k : ℕ) → k < place S vs → Passes S vs (unit_of S k) =
      λ k h. (is-value (degree_in S vs (unit_of S k)) (r.lower k (omega arith) h)).1 in
      ⊎_elim
      (λ w. inl (sums-carried S Y vs es C E (λ k h. (unit-exactly k h).0 (lower k (omega (arith, w))))))
      (λ w.
      let n : Passes S vs (unit_of S (place S vs)) → ⊥ = not-value w.1 in
      let in-range : place S vs < S.n - S.t = omega (arith, w.0) in
      inr (record {
        within = in-range;
        unit-refused = refused-nine S vs (unit_of S (place S vs)) C (unit-polynomial S Y (place S vs)) n;
        lower-pass = lower;
        one_value = one_value (place S vs) in-range n;
      }))
      r.here
