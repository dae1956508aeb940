-- The sum of polynomials has the sum of their values, by induction over the coefficients; in the exponent of an element it is a product.
use mathlib.Core.Path.{◌≡◌, refl, sym, ap, ◌∙◌}
use mathlib.Core.List.{List, [], ◌∷◌, head-eq_of_cons-eq, tail-eq_of_cons-eq}
use Prim.Native.Nat.{ℕ, zero, suc, ◌<◌}
use native.Mathlib.Nat.{mul-zero, zero-mod}
use native.Mathlib.Omega.{arith}
use lib.ListN.{length, replicate, length-replicate}
use Rattle.words.specs.Lists.{All, Below, map}
use Rattle.words.proofs.Lists.{All-each, All-to, All-both, map-all, map_same}
use Rattle.field.specs.Residue.{add, mul}
use Rattle.field.specs.Polynomial.{value_at}
use Rattle.field.proofs.Modular.{add_comm, add_assoc, add-zero, mul-add, add-below}
use Rattle.field.proofs.Inverses.{positive}
use Rattle.group.specs.Power.{pow}
use Rattle.group.specs.declared.Group.{Group}
use Rattle.group.proofs.Powers.{pow-none, one_power}
use Rattle.group.proofs.Elements.{root-element, generator-element, product-element, power-of-sum}
use Rattle.sharing.specs.Setting.{members}
use Rattle.sharing.specs.Carried.{powers_at, Polynomial}
use Rattle.sharing.specs.Sum.{product_of, sum_of_two, sum_of}
use Rattle.sharing.specs.Claims.{SumPolynomial, SumValue, SumCarries, SumSecret, ProductsElement}

module _ (q : ℕ) where
  -- ---- the value of the zero polynomial, and of a sum of two
  zero-term : (x : ℕ) → add q 0 (mul q x 0) ≡ 0
  unfolding add mul
  zero-term x = simp (mul-zero, zero-mod)

  zeros-value : (t x : ℕ) → value_at q (replicate t 0) x ≡ 0
  zeros-value zero x = refl
  zeros-value (suc t) x = ap (λ (v : ℕ). add q 0 (mul q x v)) (zeros-value t x) ∙ zero-term x

  add-add : (a b c d : ℕ) → add q (add q a b) (add q c d) ≡ add q (add q a c) (add q b d)
  add-add a b c d = rw (add_assoc q a b, ← add_assoc q b c d, add_comm q b c, add_assoc q c b d, ← add_assoc q a c)

  plus-value : 0 < q → (x : ℕ) (fs gs : List ℕ) → length fs ≡ length gs → value_at q (sum_of_two q fs gs) x ≡ add q (value_at q fs x) (value_at q gs x)
  plus-value h x [] [] e = sym (add-zero q 0 h)
  plus-value h x [] (g ∷ gs) e = absurd (omega arith)
  plus-value h x (f ∷ fs) [] e = absurd (omega arith)
  plus-value h x (f ∷ fs) (g ∷ gs) e =
      ap (λ (v : ℕ). add q (add q f g) (mul q x v)) (plus-value h x fs gs (omega arith))
      ∙ ap (add q (add q f g)) (mul-add q x (value_at q fs x) (value_at q gs x))
      ∙ add-add f g (mul q x (value_at q fs x)) (mul q x (value_at q gs x))

  -- ---- their coefficients
  plus-length : (fs gs : List ℕ) → length fs ≡ length gs → length (sum_of_two q fs gs) ≡ length gs
  plus-length [] gs e = e
  plus-length (f ∷ fs) [] e = absurd (omega arith)
  plus-length (f ∷ fs) (g ∷ gs) e = ap suc (plus-length fs gs (omega arith))

  zeros-below : 0 < q → (t : ℕ) → Below q (replicate t 0)
  zeros-below h zero = tt
  zeros-below h (suc t) = (h, zeros-below h t)

  plus-below : 0 < q → (fs gs : List ℕ) → Below q (sum_of_two q fs gs)
  plus-below h [] gs = tt
  plus-below h (f ∷ fs) [] = tt
  plus-below h (f ∷ fs) (g ∷ gs) = (add-below q f g h, plus-below h fs gs)

-- ---- the sum of many
pub sum-polynomial : SumPolynomial
sum-polynomial S Y [] a =
    record { size = length-replicate S.t 0; low = zeros-below S.group.q (positive S.group.q Y.proper.prime-q) S.t }
sum-polynomial S Y (f ∷ fs) a =
    let q : ℕ = S.group.q in
    let h = positive q Y.proper.prime-q in
    let r = sum-polynomial S Y fs a.1 in
    record { size = plus-length q f (sum_of S fs) (a.0.size ∙ sym r.size) ∙ r.size; low = plus-below q h f (sum_of S fs) }

pub sum-value : SumValue
sum-value S Y b e [] f a x =
    let G : Group = S.group in
    let P = Y.proper in
    ap (pow G.p b) (zeros-value G.q S.t x) ∙ pow-none G.p b P.prime-p.above-one
sum-value S Y b e (d ∷ ds) f a x =
    let G : Group = S.group in
    let P = Y.proper in
    let rest : List ℕ = sum_of S (map f ds) in
    let sizes : length (f d) ≡ length rest = a.0.size ∙ sym (sum-polynomial S Y (map f ds) (map-all f (Polynomial S) ds a.1)).size in
    ap (pow G.p b) (plus-value G.q (positive G.q P.prime-q) x (f d) rest sizes)
    ∙ power-of-sum G P b (value_at G.q (f d) x) (value_at G.q rest x) e
    ∙ ap (mul G.p (pow G.p b (value_at G.q (f d) x))) (sum-value S Y b e ds f a.1 x)

pub sum-secret : SumSecret
sum-secret S Y ds f a =
    let P = Y.proper in
    sum-value S Y S.group.h.0 (generator-element S.group P S.group.h.0 P.h-generates) ds f a 0

-- ---- commitments multiplied member by member
map_each : (v w : ℕ → ℕ) (ms : List ℕ) → map v ms ≡ map w ms → All (λ i. v i ≡ w i) ms
map_each v w [] e = tt
map_each v w (i ∷ ms) e = (head-eq_of_cons-eq e, map_each v w ms (tail-eq_of_cons-eq e))

products-each : (p : ℕ) (v w : ℕ → ℕ → ℕ) (ms ds : List ℕ) → All (λ d. map (v d) ms ≡ map (w d) ms) ds
    → All (λ i. product_of p (map (λ d. v d i) ds) ≡ product_of p (map (λ d. w d i) ds)) ms
products-each p v w ms [] a = All-each ms (λ i. refl)
products-each p v w ms (d ∷ ds) a =
    All-both ms (λ i e r. λ j. mul p (e j) (r j)) (map_each (v d) (w d) ms a.0) (products-each p v w ms ds a.1)

pub sum_carries : SumCarries
unfolding powers_at
sum_carries S Y ds f v a =
    let G : Group = S.group in
    let P = Y.proper in
    let g : ℕ = G.g.0 in
    let ms : List ℕ = members S.n in
    let w : ℕ → ℕ → ℕ = λ d i. pow G.p g (value_at G.q (f d) i) in
    let fs : All (λ d. Polynomial S (f d)) ds = All-to ds (λ d K. K.polynomial) a in
    let value = sum-value S Y g (generator-element G P g P.g-generates) ds f fs in
    record {
      polynomial = sum-polynomial S Y (map f ds) (map-all f (Polynomial S) ds fs);
      powers =
          map_same _ _ ms (All-to ms (λ i e. e ∙ sym (value i)) (products-each G.p v w ms ds (All-to ds (λ d K. K.powers) a)));
    }

-- ---- products of elements
pub products-element : ProductsElement
products-element G P [] a = root-element G P 1 P.prime-p.above-one (one_power G.p G.q P.prime-p.above-one)
products-element G P (x ∷ xs) a = product-element G P x (product_of G.p xs) a.0 (products-element G P xs a.1)
