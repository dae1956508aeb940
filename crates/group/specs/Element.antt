-- The tests of posted figures, and what a proper group is. Nothing says that p is 2q + 1.
use Rattle.std.specs.Prelude.{◌≡◌, Bool, not, ◌&&◌, ℕ, ◌<◌, leb, ltb, eqb}
use Rattle.field.specs.Prime.{Prime}
use Rattle.group.specs.Power.{pow}
use Rattle.group.specs.declared.Group.{Group}

-- v from 1 to p - 1 whose power q is 1
unfoldable pub is_element : Group → ℕ → Bool
is_element G v = leb 1 v && (ltb v G.p && eqb (pow G.p v G.q) 1)

-- an element other than 1: since q is prime, each element is a power of it
unfoldable pub is_generator : Group → ℕ → Bool
is_generator G b = is_element G b && not (eqb b 1)

unfoldable pub is_exponent : Group → ℕ → Bool
is_exponent G e = ltb e G.q

-- a residue other than 1 whose power q is 1
pub record Generator (G : Group) (b : ℕ) : Type 0 where
  pub low : b < G.p
  pub not-one : b ≡ 1 → ⊥
  pub order : pow G.p b G.q ≡ 1

pub record Proper (G : Group) : Type 0 where
  pub prime-p : Prime G.p
  pub prime-q : Prime G.q
  pub g-generates : Generator G G.g.0
  pub h-generates : Generator G G.h.0
