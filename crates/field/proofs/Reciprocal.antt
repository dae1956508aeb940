-- Laws of inverses in a field, and of the differences of distinct elements.
use mathlib.Core.Path.{◌≡◌, refl, sym, ◌∙◌}
use mathlib.Core.List.{[], ◌∷◌}
use Rattle.field.specs.Algebra.{Ops, Field}
use Rattle.field.proofs.Ring.{mul-zero}
use Rattle.field.proofs.Solver.{Expr.nil, Expr.one, Expr.◌⊞◌, Expr.◌⊠◌, Expr.⊟◌, ◌==◌, solve, given}

module _ {K : Type 0} {O : Ops K} (F : Field O) where
  open O use {zero as 𝟘, one as 𝟙, add as ◌⊕◌, mul as ◌⊗◌, neg as ⊖◌, inv}
  open F use {mul-one, mul-inv, one-ne}

  infixl 60 ◌⊕◌
  infixl 70 ◌⊗◌
  infix 80 ⊖◌
  cancel-mul : (a b c : K) → (a ≡ 𝟘 → ⊥) → a ⊗ b ≡ a ⊗ c → b ≡ c
  cancel-mul a b c h e =
      given F e (given F (mul-inv a h)
      (solve F (a ∷ inv a ∷ b ∷ c ∷ []) (λ a i b c. b == c ⊞ i ⊠ (a ⊠ b ⊞ ⊟ (a ⊠ c)) ⊞ (c ⊞ ⊟ b) ⊠ (a ⊠ i ⊞ ⊟ one)) refl))

  pub mul-ne : (a b : K) → (a ≡ 𝟘 → ⊥) → (b ≡ 𝟘 → ⊥) → a ⊗ b ≡ 𝟘 → ⊥
  mul-ne a b ha hb e = hb (cancel-mul a b 𝟘 ha (e ∙ sym (mul-zero F a)))

  pub sub-ne : (x y : K) → (x ≡ y → ⊥) → x ⊕ ⊖ y ≡ 𝟘 → ⊥
  sub-ne x y h e = h (given F e (solve F (x ∷ y ∷ []) (λ x y. x == y ⊞ one ⊠ (x ⊞ ⊟ y ⊞ ⊟ nil)) refl))

  -- the inverse of a difference, which is not zero
  pub sub-inv : (x y : K) → (y ≡ x → ⊥) → (x ⊕ ⊖ y) ⊗ inv (x ⊕ ⊖ y) ≡ 𝟙
  sub-inv x y h = mul-inv (x ⊕ ⊖ y) (sub-ne x y (λ e. h (sym e)))

  pub inv_unique : (a b : K) → (a ≡ 𝟘 → ⊥) → a ⊗ b ≡ 𝟙 → inv a ≡ b
  inv_unique a b h e = cancel-mul a (inv a) b h (mul-inv a h ∙ sym e)

  pub inv-one : inv 𝟙 ≡ 𝟙
  inv-one = inv_unique 𝟙 𝟙 one-ne (mul-one 𝟙)

  pub inv-mul : (a b : K) → (a ≡ 𝟘 → ⊥) → (b ≡ 𝟘 → ⊥) → inv (a ⊗ b) ≡ inv a ⊗ inv b
  inv-mul a b ha hb =
      inv_unique (a ⊗ b) (inv a ⊗ inv b) (mul-ne a b ha hb)
      (given F (mul-inv a ha) (given F (mul-inv b hb)
      (solve F (a ∷ b ∷ inv a ∷ inv b ∷ [])
      (λ a b i j. a ⊠ b ⊠ (i ⊠ j) == one ⊞ b ⊠ j ⊠ (a ⊠ i ⊞ ⊟ one) ⊞ one ⊠ (b ⊠ j ⊞ ⊟ one))
      refl)))

  -- partial fractions: 1 / (y - a) (y - x) is the difference of 1 / (y - x) and 1 / (y - a), over x - a
  pub inv-split : (a x : K) → (a ≡ x → ⊥) → (y : K) → (a ≡ y → ⊥) → (x ≡ y → ⊥)
      → 𝟙 ⊗ inv (y ⊕ ⊖ a) ⊗ inv (y ⊕ ⊖ x) ≡ ⊖ inv (x ⊕ ⊖ a) ⊗ (𝟙 ⊗ inv (y ⊕ ⊖ a)) ⊕ inv (x ⊕ ⊖ a) ⊗ (𝟙 ⊗ inv (y ⊕ ⊖ x))
  inv-split a x hx y ha h =
      given F (sub-inv x a hx) (given F (sub-inv y a ha) (given F (sub-inv y x h)
      (solve F (a ∷ x ∷ y ∷ inv (x ⊕ ⊖ a) ∷ inv (y ⊕ ⊖ a) ∷ inv (y ⊕ ⊖ x) ∷ [])
      (λ a x y i p q. one ⊠ p ⊠ q == ⊟ i ⊠ (one ⊠ p) ⊞ i ⊠ (one ⊠ q)
      ⊞ ⊟ (p ⊠ q) ⊠ ((x ⊞ ⊟ a) ⊠ i ⊞ ⊟ one) ⊞ i ⊠ q ⊠ ((y ⊞ ⊟ a) ⊠ p ⊞ ⊟ one) ⊞ ⊟ (i ⊠ p) ⊠ ((y ⊞ ⊟ x) ⊠ q ⊞ ⊟ one))
      refl)))
