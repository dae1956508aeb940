-- Logarithms: equal powers of a generator have equal exponents modulo q, and every element is a power of it.
-- x to the power q minus 1 has q coefficients after the constant, so an element beside the q powers of the generator would be a root too many.
use mathlib.Core.Path.{◌≡◌, refl, sym, ap, ◌∙◌}
use mathlib.Core.Bool.{true}
use mathlib.Core.List.{List, [], ◌∷◌}
use mathlib.Core.Logic.{◌⊎◌, inl, inr, ⊎_elim}
use Prim.Native.Nat.{ℕ, zero, suc, ◌-◌, ◌%◌, ◌≤◌, ◌<◌}
use native.Mathlib.Nat as N
use native.Mathlib.Nat.{mod-eq_of_lt, mul-zero, zero-add, zero-mod, eq-zero-or-pos}
use native.Mathlib.Decide.{ℕ_discrete}
use native.Mathlib.Omega.{arith}
use lib.ListN.{length, get_or}
use Rattle.words.specs.Lists.{All, Distinct, Below}
use Rattle.words.proofs.Lists.{All-to}
use Rattle.field.specs.Residue.{add, mul, neg, inv}
use Rattle.field.specs.Polynomial.{value_at}
use Rattle.field.proofs.Modular.{add_comm, add_assoc, add-zero, add-neg, add-below, mul_comm, mul-below, neg-below}
use Rattle.field.proofs.Inverses.{mul-inv}
use Rattle.field.proofs.Theorems.{root-bound}
use Rattle.group.specs.Power.{pow}
use Rattle.group.specs.Element.{is_element, Generator, Proper}
use Rattle.group.specs.Claims.{SamePower, ElementsArePowers, Logarithm, KnownLogarithm}
use Rattle.group.specs.declared.Group.{Group}
use Rattle.group.proofs.Powers.{pow_below, pow-none, pow-one, pow-next, one_power, pow-product, pow-period}
use Rattle.group.proofs.Elements.{element-true, generator-element, power-element, power-of-sum, power-of-product}

-- ---- the polynomial x to the power q minus 1, modulo p
-- the coefficients of x to the power k
abbrev monomial : ℕ → List ℕ
monomial zero = 1 ∷ []
monomial (suc k) = 0 ∷ monomial k

monomial-length : (k : ℕ) → length (monomial k) ≡ suc k
monomial-length zero = refl
monomial-length (suc k) = ap suc (monomial-length k)

monomial-top : (k : ℕ) → get_or (monomial k) k 0 ≡ 1
monomial-top zero = refl
monomial-top (suc k) = monomial-top k

module _ (p : ℕ) (h : 1 < p) where
  monomial-low : (k : ℕ) → Below p (monomial k)
  monomial-low zero = (h, tt)
  monomial-low (suc k) = (omega arith, monomial-low k)

  times_zero : (x : ℕ) → add p 1 (mul p x 0) ≡ 1
  unfolding add mul
  times_zero x = rw (mul-zero, zero-mod) (mod-eq_of_lt h)

  monomial-value : (k x : ℕ) → value_at p (monomial k) x ≡ pow p x k
  monomial-value zero x = times_zero x ∙ sym (pow-none p x h)
  monomial-value (suc k) x =
      ap (λ (y : ℕ). add p 0 (mul p x y)) (monomial-value k x)
      ∙ add_comm p 0 (mul p x (pow p x k))
      ∙ add-zero p (mul p x (pow p x k)) (mul-below p x (pow p x k) (omega arith))
      ∙ mul_comm p x (pow p x k)
      ∙ sym (pow-next p x k)

  abbrev unity : ℕ → List ℕ
  unity k = neg p 1 ∷ monomial k

  unity-root : (k x : ℕ) → pow p x (suc k) ≡ 1 → value_at p (unity k) x ≡ 0
  unity-root k x e =
      ap (λ (y : ℕ). add p (neg p 1) (mul p x y)) (monomial-value k x)
      ∙ ap (add p (neg p 1)) (mul_comm p x (pow p x k) ∙ sym (pow-next p x k) ∙ e)
      ∙ add_comm p (neg p 1) 1
      ∙ add-neg p 1 (omega arith)

-- ---- a generator has the order q
difference-zero : (q a c : ℕ) → 0 < q → add q (neg q a) c ≡ 0 → a % q ≡ c % q
unfolding add
difference-zero q a c h z =
    let s : add q a 0 ≡ a % q = rw N.add-zero in
    let t : add q 0 c ≡ c % q = rw zero-add in
    sym s ∙ ap (add q a) (sym z) ∙ sym (add_assoc q a (neg q a) c) ∙ ap (λ (x : ℕ). add q x c) (add-neg q a h) ∙ t

module _ (G : Group) (P : Proper G) (b : ℕ) (B : Generator G b) where
  -- b to the power c is 1 only at a multiple of q
  order-divides : (c : ℕ) → pow G.p b c ≡ 1 → c % G.q ≡ 0
  order-divides c e = ⊎_elim (λ z. z) (λ z. absurd (B.not-one (one z))) (eq-zero-or-pos (c % G.q))
    where
      one : 0 < c % G.q → b ≡ 1
      one z =
          let i = inv G.q c in
          sym (mod-eq_of_lt B.low)
          ∙ sym (pow-one G.p b)
          ∙ ap (pow G.p b) (sym (mul-inv G.q P.prime-q c z))
          ∙ power-of-product G P b c i (generator-element G P b B)
          ∙ ap (λ (x : ℕ). pow G.p x i) e
          ∙ one_power G.p i P.prime-p.above-one

  same-exponent : (a c : ℕ) → pow G.p b a ≡ pow G.p b c → a % G.q ≡ c % G.q
  same-exponent a c e =
      let z : 0 < G.q = omega (arith, P.prime-q.above-one) in
      let d = add G.q (neg G.q a) c in
      difference-zero G.q a c z (sym (mod-eq_of_lt (add-below G.q (neg G.q a) c z)) ∙ order-divides d (power z))
    where
      element : is_element G b ≡ true
      element = generator-element G P b B

      power : 0 < G.q → pow G.p b (add G.q (neg G.q a) c) ≡ 1
      power z =
          power-of-sum G P b (neg G.q a) c element
          ∙ ap (mul G.p (pow G.p b (neg G.q a))) (sym e)
          ∙ sym (power-of-sum G P b (neg G.q a) a element)
          ∙ ap (pow G.p b) (add_comm G.q (neg G.q a) a ∙ add-neg G.q a z)
          ∙ pow-none G.p b P.prime-p.above-one

  period : (a c : ℕ) → a % G.q ≡ c % G.q → pow G.p b a ≡ pow G.p b c
  period a c e = sym (same a) ∙ ap (pow G.p b) e ∙ same c
    where
      same : (a : ℕ) → pow G.p b (a % G.q) ≡ pow G.p b a
      same = pow-period G.p G.q b P.prime-p.above-one B.order

pub same_power : SamePower
same_power G P b B a e = (same-exponent G P b B a e, period G P b B a e)

-- ---- the powers of a generator, and an element beside them
module _ (G : Group) (P : Proper G) (b : ℕ) (B : Generator G b) where
  -- the powers with the exponents below k
  abbrev powers : ℕ → List ℕ
  powers zero = []
  powers (suc k) = pow G.p b k ∷ powers k

  powers-length : (k : ℕ) → length (powers k) ≡ k
  powers-length zero = refl
  powers-length (suc k) = ap suc (powers-length k)

  powers-low : (k : ℕ) → Below G.p (powers k)
  powers-low zero = tt
  powers-low (suc k) = (pow_below G.p b k (omega (arith, B.low)), powers-low k)

  one-exponent : (a c : ℕ) → a < G.q → c < G.q → pow G.p b a ≡ pow G.p b c → a ≡ c
  one-exponent a c h l e = sym (mod-eq_of_lt h) ∙ same-exponent G P b B a c e ∙ mod-eq_of_lt l

  powers-apart : (k a : ℕ) → k ≤ a → a < G.q → All (λ y. pow G.p b a ≡ y → ⊥) (powers k)
  powers-apart zero a h l = tt
  powers-apart (suc k) a h l = ((λ e. omega (arith, one-exponent a k l (omega arith) e)), powers-apart k a (omega arith) l)

  powers-distinct : (k : ℕ) → k ≤ G.q → Distinct (powers k)
  powers-distinct zero h = tt
  powers-distinct (suc k) h = (powers-apart k k (omega arith) h, powers-distinct k (omega arith))

  powers-order : (k : ℕ) → All (λ y. pow G.p y G.q ≡ 1) (powers k)
  powers-order zero = tt
  powers-order (suc k) =
      ((element-true G (pow G.p b k) (power-element G P b k (generator-element G P b B))).order, powers-order k)

  -- v is the power at an exponent below k, or none of these powers
  search-power : (v k : ℕ) → ((a : ℕ) × (a < k) × (v ≡ pow G.p b a)) ⊎ All (λ y. v ≡ y → ⊥) (powers k)
  search-power v zero = inr tt
  search-power v (suc k) =
      elim (ℕ_discrete v (pow G.p b k)) [
        | yes e ↦ inl (k, omega arith, e)
        | no n ↦ ⊎_elim (λ s. inl (s.0, omega (arith, s.1), s.2)) (λ s. inr (n, s)) (search-power v k)
      ]

  -- an element that is none of the q powers would be one root too many of x to the power q minus 1
  none_beside : (v k : ℕ) → suc k ≡ G.q → is_element G v ≡ true → All (λ y. v ≡ y → ⊥) (powers G.q) → ⊥
  none_beside v k e m n =
      let h : 1 < G.p = P.prime-p.above-one in
      let z : ◌≡◌ {A = ℕ} 0 1 =
      sym
      (root-bound G.p P.prime-p (suc k) (unity G.p h k) (v ∷ powers G.q)
      (neg-below G.p 1 (omega arith), monomial-low G.p h k)
      ((element-true G v m).low, powers-low G.q)
      (n, powers-distinct G.q (omega arith))
      (ap suc (monomial-length k))
      (ap suc (powers-length G.q ∙ sym e))
      (All-to (v ∷ powers G.q) (λ x r. unity-root G.p h k x (ap (pow G.p x) e ∙ r)) ((element-true G v m).order, powers-order G.q)))
      ∙ monomial-top k in
      omega arith

  logarithm : (v : ℕ) → is_element G v ≡ true → Logarithm G b v
  logarithm v m =
      ⊎_elim
      (λ s. record { log = s.0; low = s.1; power = s.2; only = λ a h e. one-exponent a s.0 h s.1 (sym e ∙ s.2) })
      (λ n. absurd (none_beside v (G.q - 1) (omega (arith, P.prime-q.above-one)) m n))
      (search-power v G.q)

  power-is-element : (v : ℕ) → Logarithm G b v → is_element G v ≡ true
  power-is-element v L = rw L.power (power-element G P b L.log (generator-element G P b B))

pub elements-are-powers : ElementsArePowers
elements-are-powers G P b B v = (logarithm G P b B v, power-is-element G P b B v)

-- ---- both generators
pub known-logarithm : KnownLogarithm
known-logarithm G L e =
    let p : ℕ = G.p in
    let g : ℕ = G.g.0 in
    sym (pow-product p g e L.log)
    ∙ ap (pow p g) (N.mul_comm e L.log)
    ∙ pow-product p g L.log e
    ∙ ap (λ (x : ℕ). pow p x e) (sym L.power)
