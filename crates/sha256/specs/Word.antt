-- FIPS 180-4, sections 3.2 and 4.1.2: operations on words of 32 bits, and the six functions of SHA-256.
-- Signs and names are the standard's, but for & (its ∧), bit_or (its ∨) and ⊞ (its +).
use Rattle.std.specs.Prelude.{ℕ, ◌+◌, ◌-◌, ◌*◌, ◌/◌, ◌%◌, ◌^◌, bit_and, bit_or, bit_xor}

-- 3.2, operation 1: bitwise and
infixl 50 ◌&◌
abbrev pub ◌&◌ : ℕ → ℕ → ℕ
x & y = bit_and x y

-- 3.2, operation 1: bitwise exclusive or
infixl 40 ◌⊕◌
abbrev pub ◌⊕◌ : ℕ → ℕ → ℕ
x ⊕ y = bit_xor x y

-- 3.2, operation 1: bitwise complement
infix 60 ¬◌
abbrev pub ¬◌ : ℕ → ℕ
¬ x = 2 ^ 32 - 1 - x

-- 3.2, operation 2: addition modulo 2^32
infixl 55 ◌⊞◌
abbrev pub ◌⊞◌ : ℕ → ℕ → ℕ
x ⊞ y = (x + y) % 2 ^ 32

-- 3.2, operation 3: x shifted right by n bits
abbrev pub SHR : ℕ → ℕ → ℕ
SHR n x = x / 2 ^ n

-- 3.2, operation 4: x rotated right by n bits
abbrev pub ROTR : ℕ → ℕ → ℕ
ROTR n x = bit_or (SHR n x) (x * 2 ^ (32 - n) % 2 ^ 32)

-- 4.1.2, (4.2)
abbrev pub Ch : ℕ → ℕ → ℕ → ℕ
Ch x y z = (x & y) ⊕ (¬ x & z)

-- 4.1.2, (4.3)
abbrev pub Maj : ℕ → ℕ → ℕ → ℕ
Maj x y z = (x & y) ⊕ (x & z) ⊕ (y & z)

-- 4.1.2, (4.4)
abbrev pub Σ₀ : ℕ → ℕ
Σ₀ x = ROTR 2 x ⊕ ROTR 13 x ⊕ ROTR 22 x

-- 4.1.2, (4.5)
abbrev pub Σ₁ : ℕ → ℕ
Σ₁ x = ROTR 6 x ⊕ ROTR 11 x ⊕ ROTR 25 x

-- 4.1.2, (4.6)
abbrev pub σ₀ : ℕ → ℕ
σ₀ x = ROTR 7 x ⊕ ROTR 18 x ⊕ SHR 3 x

-- 4.1.2, (4.7)
abbrev pub σ₁ : ℕ → ℕ
σ₁ x = ROTR 17 x ⊕ ROTR 19 x ⊕ SHR 10 x
