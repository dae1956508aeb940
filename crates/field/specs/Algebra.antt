-- The operations of a field, and the laws of a field over them. An inverse is asked only of what is not zero.
use Rattle.std.specs.Prelude.{◌≡◌}

pub record Ops (K : Type 0) : Type 0 where
  pub zero : K
  pub one : K
  pub add : K → K → K
  pub mul : K → K → K
  pub neg : K → K
  pub inv : K → K

pub record Field {K : Type 0} (O : Ops K) : Type 0 where
  pub is_set : IsSet K
  pub add_assoc : (a b c : K) → O.add (O.add a b) c ≡ O.add a (O.add b c)
  pub add_comm : (a b : K) → O.add a b ≡ O.add b a
  pub add-zero : (a : K) → O.add a O.zero ≡ a
  pub add-neg : (a : K) → O.add a (O.neg a) ≡ O.zero
  pub mul_assoc : (a b c : K) → O.mul (O.mul a b) c ≡ O.mul a (O.mul b c)
  pub mul_comm : (a b : K) → O.mul a b ≡ O.mul b a
  pub mul-one : (a : K) → O.mul a O.one ≡ a
  pub mul-add : (a b c : K) → O.mul a (O.add b c) ≡ O.add (O.mul a b) (O.mul a c)
  pub one-ne : O.one ≡ O.zero → ⊥
  pub mul-inv : (a : K) → (a ≡ O.zero → ⊥) → O.mul a (O.inv a) ≡ O.one
  pub eq-zero : (a : K) → Dec (a ≡ O.zero)

-- the operations of P keep those of O: h takes each of O's to the same of P
pub record Hom {A B : Type 0} (O : Ops A) (P : Ops B) (h : A → B) : Type 0 where
  pub at_zero : h O.zero ≡ P.zero
  pub at_one : h O.one ≡ P.one
  pub at-add : (a b : A) → h (O.add a b) ≡ P.add (h a) (h b)
  pub at_mul : (a b : A) → h (O.mul a b) ≡ P.mul (h a) (h b)
  pub at-neg : (a : A) → h (O.neg a) ≡ P.neg (h a)
  pub at-inv : (a : A) → h (O.inv a) ≡ P.inv (h a)
