-- Products over the other members of a list, modulo a prime q: where no factor is 0 the product is not 0, and a product of quotients is
-- the quotient of two products, since the inverse of a product is the product of the inverses.
use mathlib.Core.Path.{◌≡◌, sym, ap, ◌∙◌}
use mathlib.Core.List.{List, [], ◌∷◌}
use mathlib.Core.Logic.{⊎_elim}
use Prim.Native.Nat.{ℕ, ◌*◌, ◌%◌, ◌<◌}
use native.Mathlib.Decide.{ℕ_discrete}
use native.Mathlib.Nat.{mod-eq_of_lt, eq-zero-or-pos}
use native.Mathlib.Omega.{arith}
use borrow.Author.Tests.{eq-eqb, ne_eqb}
use lib.Dec.{eqb}
use Rattle.words.specs.Lists.{All, Below}
use Rattle.words.proofs.Lists.{All-to, up-within}
use Rattle.words.proofs.Tests.{pick_true, pick-false}
use Rattle.field.specs.Residue.{mul, sub, inv}
use Rattle.field.specs.Prime.{Prime}
use Rattle.field.proofs.Modular.{mul_assoc, mul_comm, mul-one, mul-below, sub-below, sub-pos}
use Rattle.field.proofs.Inverses.{positive, euclid, mul-inv, inv_unique}
use Rattle.group.specs.declared.Group.{Group}
use Rattle.sharing.specs.Setting.{members}
use Rattle.sharing.specs.Weights.{product_over, gaps_at, lagrange_at}
use Rattle.sharing.specs.declared.Setting.{Setting}

-- ---- one factor
module _ (q : ℕ) (f : ℕ → ℕ) (i : ℕ) where
  pub self : (j : ℕ) (l : List ℕ) → i ≡ j → product_over q f i (j ∷ l) ≡ product_over q f i l
  self j l e = pick_true (eqb i j) _ _ (eq-eqb i j e)

  pub other : (j : ℕ) (l : List ℕ) → (i ≡ j → ⊥) → product_over q f i (j ∷ l) ≡ mul q (f j) (product_over q f i l)
  other j l n = pick-false (eqb i j) _ _ (ne_eqb i j n)

  pub others_below : 1 < q → (l : List ℕ) → product_over q f i l < q
  others_below h [] = h
  others_below h (j ∷ l) =
      elim (ℕ_discrete i j) [
        | yes e ↦ rw (self j l e) (others_below h l)
        | no n ↦ rw (other j l n) (mul-below q (f j) (product_over q f i l) (omega arith))
      ]

-- ---- products and inverses modulo a prime
-- a number from 1 to q - 1
abbrev Nonzero : ℕ → ℕ → Type 0
Nonzero q a = (0 < a) × (a < q)

module _ (q : ℕ) (P : Prime q) where
  not-zero : (a : ℕ) → Nonzero q a → 0 < a % q
  not-zero a u = rw (mod-eq_of_lt u.1) u.0

  mul-nonzero : (a b : ℕ) → Nonzero q a → Nonzero q b → Nonzero q (mul q a b)
  unfolding mul
  mul-nonzero a b u v = (
    ⊎_elim
        (λ e. absurd (⊎_elim (λ z. omega (arith, not-zero a u)) (λ z. omega (arith, not-zero b v)) (euclid q P a b e)))
        (λ h. h)
        (eq-zero-or-pos ((a * b) % q)),
    mul-below q a b (positive q P),
  )

  exchange : (a b c d : ℕ) → mul q (mul q a b) (mul q c d) ≡ mul q (mul q a c) (mul q b d)
  exchange a b c d =
      mul_assoc q a b (mul q c d)
      ∙ ap (mul q a) (sym (mul_assoc q b c d) ∙ ap (λ x. mul q x d) (mul_comm q b c) ∙ mul_assoc q c b d)
      ∙ sym (mul_assoc q a c (mul q b d))

  inv-mul : (a b : ℕ) → Nonzero q a → Nonzero q b → inv q (mul q a b) ≡ mul q (inv q a) (inv q b)
  inv-mul a b u v =
      let e = exchange a b (inv q a) (inv q b) ∙ (λ j. mul q (mul-inv q P a (not-zero a u) j) (mul-inv q P b (not-zero b v) j)) in
      sym
      (inv_unique q P (mul q a b) (mul q (inv q a) (inv q b)) (not-zero (mul q a b) (mul-nonzero a b u v))
      (mul-below q (inv q a) (inv q b) (positive q P)) (e ∙ mul-one q 1 P.above-one))

  -- ---- products over the others
  module _ (i : ℕ) where
    -- f is not 0 off i
    abbrev NonzeroOff : (ℕ → ℕ) → List ℕ → Type 0
    NonzeroOff f l = All (λ j. (i ≡ j → ⊥) → Nonzero q (f j)) l

    others-nonzero : (f : ℕ → ℕ) (l : List ℕ) → NonzeroOff f l → Nonzero q (product_over q f i l)
    others-nonzero f [] h = (omega arith, P.above-one)
    others-nonzero f (j ∷ l) h =
        elim (ℕ_discrete i j) [
          | yes e ↦ rw (self q f i j l e) (others-nonzero f l h.1)
          | no n ↦ rw (other q f i j l n) (mul-nonzero (f j) (product_over q f i l) (h.0 n) (others-nonzero f l h.1))
        ]

    quotient : (f g : ℕ → ℕ) (l : List ℕ) → NonzeroOff g l
        → mul q (product_over q f i l) (inv q (product_over q g i l)) ≡ product_over q (λ j. mul q (f j) (inv q (g j))) i l
    quotient f g [] h = mul-inv q P 1 (not-zero 1 (omega arith, P.above-one))
    quotient f g (j ∷ l) h =
        elim (ℕ_discrete i j) [
          | yes e ↦ (λ k. mul q (self q f i j l e k) (inv q (self q g i j l e k))) ∙ quotient f g l h.1 ∙ sym (self q fg i j l e)
          | no n ↦ (λ k. mul q (other q f i j l n k) ((ap (inv q) (other q g i j l n) ∙ inv-mul (g j) (product_over q g i l) (h.0 n) (others-nonzero g l h.1)) k))
              ∙ exchange (f j) (product_over q f i l) (inv q (g j)) (inv q (product_over q g i l))
              ∙ ap (mul q (mul q (f j) (inv q (g j)))) (quotient f g l h.1) ∙ sym (other q fg i j l n)
        ]
      where
        fg : ℕ → ℕ
        fg j = mul q (f j) (inv q (g j))

  -- ---- differences of members below q
  differences : (i : ℕ) (l : List ℕ) → i < q → Below q l → All (λ j. (i ≡ j → ⊥) → Nonzero q (sub q j i)) l
  differences i l h b = All-to l (λ j s n. (sub-pos q j i s h (λ e. n (sym e)), sub-below q j i (positive q P))) b

  -- the product of the differences from i is not 0
  pub differences-nonzero : (i : ℕ) (l : List ℕ) → i < q → Below q l → Nonzero q (product_over q (λ j. sub q j i) i l)
  differences-nonzero i l h b = others-nonzero i (λ j. sub q j i) l (differences i l h b)

-- ---- in a setting and in a group
pub gaps-nonzero : (S : Setting) → Prime S.group.q → (i : ℕ) → S.n < S.group.q → i < S.group.q → Nonzero S.group.q (gaps_at S i)
unfolding gaps_at
gaps-nonzero S P i l h =
    let q : ℕ = S.group.q in
    others-nonzero q P i (sub q i) (members S.n)
    (All-to (members S.n) (λ j s d. (sub-pos q i j h s.1 d, sub-below q i j (positive q P))) (up-within 1 S.n q (omega arith)))

-- Lagrange's coefficient is the quotient of the product of the numbers by that of the differences
pub lagrange-quotient : (G : Group) → Prime G.q → (i : ℕ) (l : List ℕ) → i < G.q → Below G.q l
    → mul G.q (product_over G.q (λ j. j) i l) (inv G.q (product_over G.q (λ j. sub G.q j i) i l)) ≡ lagrange_at G l i
unfolding lagrange_at
lagrange-quotient G P i l h b = quotient G.q P i (λ j. j) (λ j. sub G.q j i) l (differences G.q P i l h b)
