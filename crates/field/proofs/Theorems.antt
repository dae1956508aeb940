-- What specs/Claims.antt states of polynomials. Numbers below q are those of residues, and the residues modulo a prime are a field:
-- so each law of a field is one of numbers.
use mathlib.Core.Path.{◌≡◌, refl, sym, ap, ◌∙◌}
use mathlib.Core.List.{List, []}
use mathlib.Core.Logic.{◌↔◌}
use Prim.Native.Nat.{ℕ, suc, ◌+◌, ◌≤◌, ◌<◌}
use native.Mathlib.Omega.{arith}
use native.Mathlib.Nat.{not-suc-le-zero}
use lib.ListN.{length, get_or}
use Rattle.words.specs.Lists.{All, Distinct, Below, map, up_from}
use Rattle.words.proofs.Lists.{All-to, map_at, map-comp, map-length, map_same}
use Rattle.field.specs.Residue.{residue_ops}
use Rattle.field.specs.Polynomial.{eval, dot, divided, scaled, products, at_zero, value_at}
use Rattle.field.specs.Claims.{ResidueField, Nodes, Takes, DegreeLow, DegreeTop, Interpolation, LowDegree, LinearForm, ValueAtZero, RootBound}
use Rattle.field.proofs.Residues.{residues, lift, lift-numbers, lift-length, lift-distinct, lift-nonzero, numbers-below}
use Rattle.field.proofs.Weights.{divided-low, divided-eval}
use Rattle.field.proofs.Interpolate as I
use Rattle.field.proofs.LinearForm.{form}
use Rattle.field.proofs.AtZero as Z
use Rattle.field.proofs.Transfer.{eval-kept, values-kept, dot-kept, divided-kept, scaled-kept, products-kept, at_zero-kept}

module _ {q : ℕ} (R : ResidueField q) where
  open R use {Residue, number, ops, field, keeps, same}

  -- ---- what is computed of residues stands for what is computed of their numbers
  module _ (xs : List ℕ) (hx : Below q xs) where
    divided-is : (rs : List Residue) (ys : List ℕ) → map number rs ≡ ys → number (divided ops (lift R xs hx) rs) ≡ divided (residue_ops q) xs ys
    divided-is rs ys e = divided-kept keeps (lift R xs hx) rs ∙ (λ j. divided (residue_ops q) (lift-numbers R xs hx j) (e j))

    sum_is : (k : ℕ) (rs : List Residue) (ys : List ℕ) → map number rs ≡ ys
        → number (divided ops (lift R xs hx) (scaled ops k (lift R xs hx) rs)) ≡ divided (residue_ops q) xs (scaled (residue_ops q) k xs ys)
    sum_is k rs ys e =
        divided-is (scaled ops k (lift R xs hx) rs) (scaled (residue_ops q) k xs ys)
        (scaled-kept keeps k (lift R xs hx) rs ∙ (λ j. scaled (residue_ops q) k (lift-numbers R xs hx j) (e j)))

    values-is : (rs : List Residue) (cs : List ℕ) → map number rs ≡ cs → map number (map (eval ops rs) (lift R xs hx)) ≡ map (value_at q cs) xs
    values-is rs cs e = values-kept keeps rs (lift R xs hx) ∙ (λ j. map (value_at q (e j)) (lift-numbers R xs hx j))

  -- ---- a polynomial's values at distinct nodes
  module _ (cs xs : List ℕ) (hc : Below q cs) (hx : Below q xs) (d : Distinct xs) where
    evaluated : map number (map (eval ops (lift R cs hc)) (lift R xs hx)) ≡ map (value_at q cs) xs
    evaluated = values-is xs hx (lift R cs hc) cs (lift-numbers R cs hc)

    degree-low-in : length cs < length xs → divided (residue_ops q) xs (map (value_at q cs) xs) ≡ 0
    degree-low-in h =
        sym (divided-is xs hx (map (eval ops (lift R cs hc)) (lift R xs hx)) (map (value_at q cs) xs) evaluated)
        ∙ ap number (divided-low field (lift R cs hc) (lift R xs hx) (lift-distinct R xs hx d) (rw (lift-length R cs hc, lift-length R xs hx) h))
        ∙ keeps.at_zero

    degree-top-in : (k : ℕ) → length cs ≡ suc k → length xs ≡ suc k → divided (residue_ops q) xs (map (value_at q cs) xs) ≡ get_or cs k 0
    degree-top-in k n h =
        let fits : length (lift R cs hc) ≡ suc k = lift-length R cs hc ∙ n in
        sym (divided-is xs hx (map (eval ops (lift R cs hc)) (lift R xs hx)) (map (value_at q cs) xs) evaluated)
        ∙ ap number (divided-eval field k (lift R cs hc) (lift R xs hx) (lift-distinct R xs hx d) (lift-length R xs hx ∙ h) (omega arith))
        ∙ sym (map_at number (lift R cs hc) k ops.zero 0 (omega arith))
        ∙ ap (λ l. get_or l k 0) (lift-numbers R cs hc)

    value-at-zero-in : All (λ x. x ≡ 0 → ⊥) xs → length cs ≤ length xs → at_zero (residue_ops q) xs (map (value_at q cs) xs) ≡ value_at q cs 0
    value-at-zero-in z h =
        sym (at_zero-kept keeps (lift R xs hx) (map (eval ops (lift R cs hc)) (lift R xs hx))
        ∙ (λ j. at_zero (residue_ops q) (lift-numbers R xs hx j) (evaluated j)))
        ∙ ap number (Z.value-at-zero field (lift R cs hc) (lift R xs hx) (lift-distinct R xs hx d)
        (All-to (lift R xs hx) (λ a n e. n (sym e)) (lift-nonzero R xs hx z)) (rw (lift-length R cs hc, lift-length R xs hx) h))
        ∙ eval-kept keeps (lift R cs hc) ops.zero
        ∙ (λ j. value_at q (lift-numbers R cs hc j) (keeps.at_zero j))

  -- ---- any values
  low-degree-in : (m t : ℕ) (xs ys : List ℕ) → Nodes q xs ys → t + m ≡ length xs
      → ((k : ℕ) → k < m → divided (residue_ops q) xs (scaled (residue_ops q) k xs ys) ≡ 0) ↔ ((cs : List ℕ) × Takes q t cs xs ys)
  low-degree-in m t xs ys N s = (to, from)
    where
      hx : Below q xs
      hx = N.nodes-low

      law : (rs : List Residue) → length rs ≡ length (lift R xs hx)
          → ((k : ℕ) → k < m → divided ops (lift R xs hx) (scaled ops k (lift R xs hx) rs) ≡ ops.zero)
          ↔ ((cs : List Residue) × (length cs ≡ t) × (map (eval ops cs) (lift R xs hx) ≡ rs))
      law rs n = I.low-degree field m t (lift R xs hx) rs (lift-distinct R xs hx N.distinct) n (s ∙ sym (lift-length R xs hx))

      to : ((k : ℕ) → k < m → divided (residue_ops q) xs (scaled (residue_ops q) k xs ys) ≡ 0) → (cs : List ℕ) × Takes q t cs xs ys
      to z =
          let rs : List Residue = lift R ys N.values_low in
          let e : map number rs ≡ ys = lift-numbers R ys N.values_low in
          let r = (law rs (lift-length R ys N.values_low ∙ N.size ∙ sym (lift-length R xs hx))).0
          (λ k h. same _ _ (sum_is xs hx k rs ys e ∙ z k h ∙ sym keeps.at_zero)) in (
            map number r.0,
            record {
              size = map-length number r.0 ∙ r.1;
              low = numbers-below R r.0;
              values = sym (values-is xs hx r.0 (map number r.0) refl) ∙ ap (map number) r.2 ∙ e;
            },
          )

      from : (cs : List ℕ) × Takes q t cs xs ys → (k : ℕ) → k < m → divided (residue_ops q) xs (scaled (residue_ops q) k xs ys) ≡ 0
      from r k h =
          let c : List Residue = lift R r.0 r.1.low in
          let rs : List Residue = map (eval ops c) (lift R xs hx) in
          let e : map number rs ≡ ys = values-is xs hx c r.0 (lift-numbers R r.0 r.1.low) ∙ r.1.values in
          sym (sum_is xs hx k rs ys e)
          ∙ ap number ((law rs (map-length (eval ops c) (lift R xs hx))).1 (c, lift-length R r.0 r.1.low ∙ r.1.size, refl) k h)
          ∙ keeps.at_zero

  linear-form-in : (xs ys ds : List ℕ) → Below q xs → Below q ys → Below q ds
      → divided (residue_ops q) xs (products (residue_ops q) ys (map (value_at q ds) xs))
      ≡ dot (residue_ops q) ds (map (λ k. divided (residue_ops q) xs (scaled (residue_ops q) k xs ys)) (up_from 0 (length ds)))
  linear-form-in xs ys ds hx hy hd =
      let x : List Residue = lift R xs hx in
      let y : List Residue = lift R ys hy in
      let d : List Residue = lift R ds hd in
      let sum : ℕ → Residue = λ k. divided ops x (scaled ops k x y) in
      sym (divided-is xs hx (products ops y (map (eval ops d) x)) (products (residue_ops q) ys (map (value_at q ds) xs))
      (products-kept keeps y (map (eval ops d) x)
      ∙ (λ j. products (residue_ops q) (lift-numbers R ys hy j) (values-is xs hx d ds (lift-numbers R ds hd) j))))
      ∙ ap number (form field x y d)
      ∙ dot-kept keeps d (map sum (up_from 0 (length d)))
      ∙ (λ j. dot (residue_ops q) (lift-numbers R ds hd j) (map-comp sum number (up_from 0 (length d)) j))
      ∙ (λ j. dot (residue_ops q) ds (map (λ k. sum_is xs hx k y ys (lift-numbers R ys hy) j) (up_from 0 (lift-length R ds hd j))))

-- ---- at the field of residues
pub degree-low : DegreeLow
degree-low q P cs xs hc hx d h = degree-low-in (residues q P) cs xs hc hx d h

pub degree-top : DegreeTop
degree-top q P k cs xs hc hx d n h = degree-top-in (residues q P) cs xs hc hx d k n h

pub low-degree : LowDegree
low-degree q P m t xs ys N s = low-degree-in (residues q P) m t xs ys N s

pub interpolation : Interpolation
interpolation q P xs ys N = (low-degree q P 0 (length xs) xs ys N (omega arith)).0 (λ k h. absurd (not-suc-le-zero h))

pub linear-form : LinearForm
linear-form q P xs ys ds hx hy hd = linear-form-in (residues q P) xs ys ds hx hy hd

pub value-at-zero : ValueAtZero
value-at-zero q P cs xs hc hx d z h = value-at-zero-in (residues q P) cs xs hc hx d z h

-- values that are 0 are those of the polynomial with no coefficient
pub root-bound : RootBound
root-bound q P k cs xs hc hx d n h z =
    sym (degree-top q P k cs xs hc hx d n h)
    ∙ ap (divided (residue_ops q) xs) (map_same (value_at q cs) (value_at q []) xs z)
    ∙ degree-low q P [] xs tt hx d (omega arith)
