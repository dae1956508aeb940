-- The sum of values times a polynomial, with any weights, is a linear form in the polynomial's coefficients.
use mathlib.Core.Path.{◌≡◌, refl, ap, ◌∙◌}
use mathlib.Core.List.{List, [], ◌∷◌}
use Prim.Native.Nat.{ℕ, suc}
use lib.ListN.{length}
use Rattle.words.specs.Lists.{map, up_from}
use Rattle.field.specs.Algebra.{Ops, Field}
use Rattle.field.specs.Polynomial.{eval, power, dot, divided, scaled, products, weights}
use Rattle.field.proofs.Solver.{Expr.nil, Expr.one, Expr.◌⊞◌, Expr.◌⊠◌, ◌==◌, solve}

module _ {K : Type 0} {O : Ops K} (F : Field O) where
  open O use {zero as 𝟘, add as ◌⊕◌, mul as ◌⊗◌}

  infixl 60 ◌⊕◌
  infixl 70 ◌⊗◌
  form-zero : (k : ℕ) (xs ys ws : List K) → dot O (products O (scaled O k xs ys) (map (eval O []) xs)) ws ≡ 𝟘
  form-zero k [] ys ws = refl
  form-zero k (x ∷ xs) [] ws = refl
  form-zero k (x ∷ xs) (y ∷ ys) [] = refl
  form-zero k (x ∷ xs) (y ∷ ys) (w ∷ ws) =
      ap (λ v. power O x k ⊗ y ⊗ 𝟘 ⊗ w ⊕ v) (form-zero k xs ys ws)
      ∙ solve F (power O x k ∷ y ∷ w ∷ []) (λ p y w. p ⊠ y ⊠ nil ⊠ w ⊞ nil == nil) refl

  nothing : (c : K) → 𝟘 ≡ c ⊗ 𝟘 ⊕ 𝟘
  nothing c = solve F (c ∷ []) (λ c. nil == c ⊠ nil ⊞ nil) refl

  -- the lowest coefficient taken out
  form-cons : (k : ℕ) (c : K) (cs xs ys ws : List K)
      → dot O (products O (scaled O k xs ys) (map (eval O (c ∷ cs)) xs)) ws
      ≡ c ⊗ dot O (scaled O k xs ys) ws ⊕ dot O (products O (scaled O (suc k) xs ys) (map (eval O cs) xs)) ws
  form-cons k c cs [] ys ws = nothing c
  form-cons k c cs (x ∷ xs) [] ws = nothing c
  form-cons k c cs (x ∷ xs) (y ∷ ys) [] = nothing c
  form-cons k c cs (x ∷ xs) (y ∷ ys) (w ∷ ws) =
      let sum : K = dot O (scaled O k xs ys) ws in
      let rest : K = dot O (products O (scaled O (suc k) xs ys) (map (eval O cs) xs)) ws in
      ap (λ v. power O x k ⊗ y ⊗ (c ⊕ x ⊗ eval O cs x) ⊗ w ⊕ v) (form-cons k c cs xs ys ws)
      ∙ solve F (power O x k ∷ x ∷ y ∷ w ∷ c ∷ eval O cs x ∷ sum ∷ rest ∷ [])
      (λ p x y w c e s r. p ⊠ y ⊠ (c ⊞ x ⊠ e) ⊠ w ⊞ (c ⊠ s ⊞ r) == c ⊠ (p ⊠ y ⊠ w ⊞ s) ⊞ (x ⊠ p ⊠ y ⊠ e ⊠ w ⊞ r)) refl

  form-from : (k : ℕ) (cs xs ys ws : List K)
      → dot O (products O (scaled O k xs ys) (map (eval O cs) xs)) ws ≡ dot O cs (map (λ j. dot O (scaled O j xs ys) ws) (up_from k (length cs)))
  form-from k [] xs ys ws = form-zero k xs ys ws
  form-from k (c ∷ cs) xs ys ws =
      form-cons k c cs xs ys ws ∙ ap (λ v. c ⊗ dot O (scaled O k xs ys) ws ⊕ v) (form-from (suc k) cs xs ys ws)

  -- the values themselves are those times the power 0 of the nodes
  scaled-zero : (xs ys : List K) (f : K → K) → products O ys (map f xs) ≡ products O (scaled O 0 xs ys) (map f xs)
  scaled-zero [] [] f = refl
  scaled-zero [] (y ∷ ys) f = refl
  scaled-zero (x ∷ xs) [] f = refl
  scaled-zero (x ∷ xs) (y ∷ ys) f = λ j. solve F (y ∷ f x ∷ []) (λ y e. y ⊠ e == one ⊠ y ⊠ e) refl j ∷ scaled-zero xs ys f j

  pub form : (xs ys cs : List K)
      → divided O xs (products O ys (map (eval O cs) xs)) ≡ dot O cs (map (λ k. divided O xs (scaled O k xs ys)) (up_from 0 (length cs)))
  form xs ys cs = ap (divided O xs) (scaled-zero xs ys (eval O cs)) ∙ form-from 0 cs xs ys (weights O [] xs)
