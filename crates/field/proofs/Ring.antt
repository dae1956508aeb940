-- Laws of a commutative ring that follow from those of the record Field: what the solver of ring equations rests on.
use mathlib.Core.Path.{◌≡◌, sym, ap, ◌∙◌}
use Rattle.field.specs.Algebra.{Ops, Field}

module _ {K : Type 0} {O : Ops K} (F : Field O) where
  open O use {zero as 𝟘, one as 𝟙, add as ◌⊕◌, mul as ◌⊗◌, neg as ⊖◌}
  open F use {add_assoc, add_comm, add-zero, add-neg, mul_assoc, mul_comm, mul-one, mul-add}

  infixl 60 ◌⊕◌
  infixl 70 ◌⊗◌
  infix 80 ⊖◌
  pub add_left_comm : (a b c : K) → a ⊕ (b ⊕ c) ≡ b ⊕ (a ⊕ c)
  add_left_comm a b c = rw (← add_assoc a b c, add_comm a b, add_assoc)

  pub mul_left_comm : (a b c : K) → a ⊗ (b ⊗ c) ≡ b ⊗ (a ⊗ c)
  mul_left_comm a b c = rw (← mul_assoc a b c, mul_comm a b, mul_assoc)

  pub zero-add : (a : K) → 𝟘 ⊕ a ≡ a
  zero-add a = add_comm 𝟘 a ∙ add-zero a

  pub one-mul : (a : K) → 𝟙 ⊗ a ≡ a
  one-mul a = mul_comm 𝟙 a ∙ mul-one a

  pub add-mul : (a b c : K) → (a ⊕ b) ⊗ c ≡ a ⊗ c ⊕ b ⊗ c
  add-mul a b c = rw (mul_comm (a ⊕ b) c, mul-add, mul_comm c a, mul_comm c b)

  pub neg_add_cancel : (a b : K) → ⊖ a ⊕ (a ⊕ b) ≡ b
  neg_add_cancel a b = rw (← add_assoc, add_comm (⊖ a) a, add-neg, zero-add)

  pub cancel : (a b c : K) → a ⊕ b ≡ a ⊕ c → b ≡ c
  cancel a b c e = sym (neg_add_cancel a b) ∙ ap (λ v. ⊖ a ⊕ v) e ∙ neg_add_cancel a c

  pub mul-zero : (a : K) → a ⊗ 𝟘 ≡ 𝟘
  mul-zero a = cancel (a ⊗ 𝟘) (a ⊗ 𝟘) 𝟘 (sym (mul-add a 𝟘 𝟘) ∙ ap (λ v. a ⊗ v) (add-zero 𝟘) ∙ sym (add-zero (a ⊗ 𝟘)))

  pub zero-mul : (a : K) → 𝟘 ⊗ a ≡ 𝟘
  zero-mul a = mul_comm 𝟘 a ∙ mul-zero a
