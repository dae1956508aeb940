-- Newton's interpolation, and the test of a low degree: the sums with node powers below m vanish exactly if a polynomial of m
-- coefficients fewer than nodes takes the values, for each sum that vanishes takes the leading coefficient away.
use mathlib.Core.Path.{◌≡◌, refl, sym, ap, ◌∙◌, fun_ext}
use mathlib.Core.List.{List, [], ◌∷◌, ◌++◌, head-eq_of_cons-eq, tail-eq_of_cons-eq}
use mathlib.Core.Logic.{◌↔◌}
use Prim.Native.Nat.{ℕ, zero, suc, ◌+◌, ◌-◌, ◌≤◌, ◌<◌}
use native.Mathlib.Omega.{arith}
use lib.ListN.{length, get_or, take, replicate, length-append, length-replicate, get_or-eq_default}
use lib.Seq.{get_or-append-add, length-take-le}
use Rattle.words.specs.Lists.{Distinct, map}
use Rattle.field.specs.Algebra.{Ops, Field}
use Rattle.field.specs.Polynomial.{eval, power, divided, scaled}
use Rattle.field.proofs.Solver.{Expr.nil, Expr.one, Expr.◌⊞◌, Expr.◌⊠◌, Expr.⊟◌, ◌==◌, solve, given}
use Rattle.field.proofs.Reciprocal.{sub-inv}
use Rattle.field.proofs.Divided.{Off}
use Rattle.field.proofs.Weights.{divided-eval}

module _ {K : Type 0} (O : Ops K) where
  open O use {zero as 𝟘, add as ◌⊕◌, mul as ◌⊗◌, neg as ⊖◌, inv}

  infixl 60 ◌⊕◌
  infixl 70 ◌⊗◌
  infix 80 ⊖◌
  -- the coefficients of y + (X - x) q
  abbrev newton : K → K → List K → List K
  newton x y [] = y ∷ []
  newton x y (q ∷ qs) = (y ⊕ ⊖ (x ⊗ q)) ∷ newton x q qs

  -- the slopes from x, where the value is y, to the other nodes
  abbrev slopes : K → K → List K → List K → List K
  slopes x y [] vs = []
  slopes x y (u ∷ us) [] = []
  slopes x y (u ∷ us) (v ∷ vs) = (v ⊕ ⊖ y) ⊗ inv (u ⊕ ⊖ x) ∷ slopes x y us vs

module _ {K : Type 0} {O : Ops K} (F : Field O) where
  open O use {zero as 𝟘, add as ◌⊕◌, mul as ◌⊗◌, neg as ⊖◌, inv}

  infixl 60 ◌⊕◌
  infixl 70 ◌⊗◌
  infix 80 ⊖◌
  -- ---- Newton's interpolation
  newton-length : (x y : K) (qs : List K) → length (newton O x y qs) ≡ suc (length qs)
  newton-length x y [] = refl
  newton-length x y (q ∷ qs) = ap suc (newton-length x q qs)

  newton-eval : (x y : K) (qs : List K) (u : K) → eval O (newton O x y qs) u ≡ y ⊕ (u ⊕ ⊖ x) ⊗ eval O qs u
  newton-eval x y [] u = solve F (x ∷ y ∷ u ∷ []) (λ x y u. y ⊞ u ⊠ nil == y ⊞ (u ⊞ ⊟ x) ⊠ nil) refl
  newton-eval x y (q ∷ qs) u =
      ap (λ v. y ⊕ ⊖ (x ⊗ q) ⊕ u ⊗ v) (newton-eval x q qs u)
      ∙ solve F (x ∷ y ∷ q ∷ u ∷ eval O qs u ∷ [])
      (λ x y q u e. y ⊞ ⊟ (x ⊠ q) ⊞ u ⊠ (q ⊞ (u ⊞ ⊟ x) ⊠ e) == y ⊞ (u ⊞ ⊟ x) ⊠ (q ⊞ u ⊠ e)) refl

  slopes-length : (x y : K) (us vs : List K) → length vs ≡ length us → length (slopes O x y us vs) ≡ length us
  slopes-length x y [] vs n = refl
  slopes-length x y (u ∷ us) [] n = absurd (omega arith)
  slopes-length x y (u ∷ us) (v ∷ vs) n = ap suc (slopes-length x y us vs (omega arith))

  -- a polynomial that takes the slopes leads to one that takes the values
  newton-values : (x y : K) (qs us vs : List K) → Off x us → length vs ≡ length us → map (eval O qs) us ≡ slopes O x y us vs
      → map (eval O (newton O x y qs)) us ≡ vs
  newton-values x y qs [] [] h n e = refl
  newton-values x y qs [] (v ∷ vs) h n e = absurd (omega arith)
  newton-values x y qs (u ∷ us) [] h n e = absurd (omega arith)
  newton-values x y qs (u ∷ us) (v ∷ vs) h n e =
      let i : K = inv (u ⊕ ⊖ x) in
      let here : eval O (newton O x y qs) u ≡ v =
      newton-eval x y qs u
      ∙ ap (λ s. y ⊕ (u ⊕ ⊖ x) ⊗ s) (head-eq_of_cons-eq e)
      ∙ given F (sub-inv F u x h.0)
      (solve F (x ∷ y ∷ u ∷ v ∷ i ∷ [])
      (λ x y u v i. y ⊞ (u ⊞ ⊟ x) ⊠ ((v ⊞ ⊟ y) ⊠ i) == v ⊞ (v ⊞ ⊟ y) ⊠ ((u ⊞ ⊟ x) ⊠ i ⊞ ⊟ one)) refl) in
      λ j. here j ∷ newton-values x y qs us vs h.1 (omega arith) (tail-eq_of_cons-eq e) j

  interpolate : (xs ys : List K) → Distinct xs → length ys ≡ length xs → (cs : List K) × (length cs ≡ length xs) × (map (eval O cs) xs ≡ ys)
  interpolate [] [] d n = ([], refl, refl)
  interpolate [] (y ∷ ys) d n = absurd (omega arith)
  interpolate (x ∷ xs) [] d n = absurd (omega arith)
  interpolate (x ∷ xs) (y ∷ ys) d n =
      let r = interpolate xs (slopes O x y xs ys) d.1 (slopes-length x y xs ys (omega arith)) in
      let first : eval O (newton O x y r.0) x ≡ y =
      newton-eval x y r.0 x ∙ solve F (x ∷ y ∷ eval O r.0 x ∷ []) (λ x y e. y ⊞ (x ⊞ ⊟ x) ⊠ e == y) refl in (
        newton O x y r.0,
        newton-length x y r.0 ∙ ap suc r.1,
        λ j. first j ∷ newton-values x y r.0 xs ys d.0 (omega arith) r.2 j,
      )

  -- ---- sums with node powers
  -- x to the power k times a polynomial
  raised-eval : (k : ℕ) (cs : List K) (x : K) → eval O (replicate k 𝟘 ++ cs) x ≡ power O x k ⊗ eval O cs x
  raised-eval zero cs x = solve F (eval O cs x ∷ []) (λ e. e == one ⊠ e) refl
  raised-eval (suc k) cs x =
      ap (λ v. 𝟘 ⊕ x ⊗ v) (raised-eval k cs x)
      ∙ solve F (x ∷ power O x k ∷ eval O cs x ∷ []) (λ x p e. nil ⊞ x ⊠ (p ⊠ e) == x ⊠ p ⊠ e) refl

  scaled-map : (k : ℕ) (f : K → K) (xs : List K) → scaled O k xs (map f xs) ≡ map (λ x. power O x k ⊗ f x) xs
  scaled-map k f [] = refl
  scaled-map k f (x ∷ xs) = ap (λ l. power O x k ⊗ f x ∷ l) (scaled-map k f xs)

  -- at k + t + 1 nodes, of at most t + 1 coefficients: the sum with the power k is the coefficient t
  moment : (k t : ℕ) (cs xs : List K) → Distinct xs → length xs ≡ suc (k + t) → length cs ≤ suc t
      → divided O xs (scaled O k xs (map (eval O cs) xs)) ≡ get_or cs t 𝟘
  moment k t cs xs d n h =
      let past : length (replicate k 𝟘 ++ cs) ≤ suc (k + t) = omega (arith, length-append (replicate k 𝟘) cs, length-replicate k 𝟘) in
      ap (divided O xs) (scaled-map k (eval O cs) xs ∙ ap (λ f. map f xs) (fun_ext (λ x. sym (raised-eval k cs x))))
      ∙ divided-eval F (k + t) (replicate k 𝟘 ++ cs) xs d n past
      ∙ ap (λ i. get_or (replicate k 𝟘 ++ cs) (i + t) 𝟘) (sym (length-replicate k 𝟘))
      ∙ get_or-append-add (replicate k 𝟘) cs t 𝟘

  -- a last coefficient that is zero can go
  take-eval : (t : ℕ) (cs : List K) (x : K) → length cs ≡ suc t → get_or cs t 𝟘 ≡ 𝟘 → eval O (take t cs) x ≡ eval O cs x
  take-eval t [] x n z = absurd (omega arith)
  take-eval zero (c ∷ []) x n z = given F (sym z) (solve F (c ∷ x ∷ []) (λ c x. nil == c ⊞ x ⊠ nil ⊞ one ⊠ (nil ⊞ ⊟ c)) refl)
  take-eval zero (c ∷ b ∷ cs) x n z = absurd (omega arith)
  take-eval (suc t) (c ∷ cs) x n z = ap (λ v. c ⊕ x ⊗ v) (take-eval t cs x (omega arith) z)

  -- each further sum that vanishes takes a coefficient away
  lower : (m t : ℕ) (xs ys : List K) → Distinct xs → length ys ≡ length xs → t + m ≡ length xs
      → ((k : ℕ) → k < m → divided O xs (scaled O k xs ys) ≡ 𝟘)
      → (cs : List K) × (length cs ≡ t) × (map (eval O cs) xs ≡ ys)
  lower zero t xs ys d n s z =
      let r = interpolate xs ys d n in
      (r.0, omega (arith, r.1), r.2)
  lower (suc m) t xs ys d n s z =
      let r = lower m (suc t) xs ys d n (omega arith) (λ k h. z k (omega arith)) in
      let top : get_or r.0 t 𝟘 ≡ 𝟘 =
      sym (moment m t r.0 xs d (omega arith) (omega (arith, r.1))) ∙ ap (λ l. divided O xs (scaled O m xs l)) r.2 ∙ z m (omega arith) in (
        take t r.0,
        length-take-le t r.0 (omega (arith, r.1)),
        ap (λ f. map f xs) (fun_ext (λ x. take-eval t r.0 x r.1 top)) ∙ r.2,
      )

  pub low-degree : (m t : ℕ) (xs ys : List K) → Distinct xs → length ys ≡ length xs → t + m ≡ length xs
      → ((k : ℕ) → k < m → divided O xs (scaled O k xs ys) ≡ 𝟘) ↔ ((cs : List K) × (length cs ≡ t) × (map (eval O cs) xs ≡ ys))
  low-degree m t xs ys d n s = (lower m t xs ys d n s, back)
    where
      back : (cs : List K) × (length cs ≡ t) × (map (eval O cs) xs ≡ ys) → (k : ℕ) → k < m → divided O xs (scaled O k xs ys) ≡ 𝟘
      back r k h =
          let past : length r.0 ≤ length xs - suc k = omega (arith, r.1) in
          ap (λ l. divided O xs (scaled O k xs l)) (sym r.2)
          ∙ moment k (length xs - suc k) r.0 xs d (omega arith) (omega arith)
          ∙ get_or-eq_default r.0 𝟘 past
