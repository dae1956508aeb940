-- What is claimed of tables of groups; and of powers and elements, for every proper group. A law on a generator b holds of g and of h.
use Rattle.std.specs.Prelude.{◌≡◌, true, List, [], ◌++◌, ◌↔◌, ℕ, suc, ◌-◌, ◌%◌, ◌^◌, ◌≤◌, ◌<◌, length}
use Rattle.words.specs.Lists.{All, Below}
use Rattle.words.specs.Checks.{Check, Met}
use Rattle.words.specs.Bytes.{record_bytes, records_in, record_at}
use Rattle.words.specs.declared.Record.{Record}
use Rattle.field.specs.Prime.{Prime}
use Rattle.field.specs.Residue.{add, mul}
use Rattle.group.specs.Power.{pow, halves_power}
use Rattle.group.specs.Table.{group_layout, group_at, groups_of, table_checks, in_group, in_group_else}
use Rattle.group.specs.Element.{is_element, Generator, Proper}
use Rattle.group.specs.declared.Group.{Group}

-- ---- tables of groups
-- from 2 to p - 1, with 1 as power q
pub record Chosen (G : Group) (b : ℕ) : Type 0 where
  pub above-one : 1 < b
  pub low : b < G.p
  pub order : pow G.p b G.q ≡ 1

-- a group as the request asks for it
pub record IsOwnGroup (G : Group) : Type 0 where
  pub prime-q : Prime G.q
  pub odd-q : G.q % 2 ≡ 1
  pub prime-p : Prime G.p
  pub divides : (G.p - 1) % G.q ≡ 0
  pub g-chosen : Chosen G G.g.0
  pub h-chosen : Chosen G G.h.0
  pub distinct : G.g.0 ≡ G.h.0 → ⊥

-- kind 7, this number, four figures, and 0 in words 6 and 7
abbrev pub IsOwnRecord : ℕ → Record → Type 0
IsOwnRecord number r = r ≡ group_layout number r.w2 r.w3 r.w4 r.w5

-- whole records, at most 8, numbered 1 upwards without gaps, each with a group as the request asks for it
pub record IsTable (T : List ℕ) : Type 0 where
  pub whole : length T % 32 ≡ 0
  pub most : records_in T ≤ 8
  pub records : (i : ℕ) → i < records_in T → IsOwnRecord (suc i) (record_at T i)
  pub groups : (i : ℕ) → i < records_in T → IsOwnGroup (group_at T i)

-- bytes are accepted as a table exactly if they are one
abbrev pub TableExactly : Type 0
TableExactly = (T : List ℕ) → Below 256 T → Met (table_checks T) ↔ IsTable T

-- and each group of an accepted table is proper, the built-in ones among them, which no bytes stand for
abbrev pub TableProper : Type 0
TableProper = (T : List ℕ) → Met (table_checks T) → All Proper (groups_of T)

-- of an accepted table nothing but its groups enters: another one with the same groups gives every operation the same answer, and leaves
-- the same in a lent list
pub record SameByTable (T₁ T₂ : List ℕ) : Type 1 where
  pub answer : {A : Type 0} (k : ℕ) (checks : Group → List Check) (answer : Group → A) → in_group T₁ k checks answer ≡ in_group T₂ k checks answer
  pub lent : {A : Type 0} (k : ℕ) (checks : Group → List Check) (new : Group → A) (old : A)
      → in_group_else T₁ k checks new old ≡ in_group_else T₂ k checks new old

abbrev pub SameGroups : Type 1
SameGroups =
    (T₁ T₂ : List ℕ) → Met (table_checks T₁) → Met (table_checks T₂) → groups_of T₁ ≡ groups_of T₂ → SameByTable T₁ T₂

-- the built-in groups as a table
abbrev pub built_in_table : List ℕ
built_in_table =
    record_bytes (group_layout 1 23 11 4 9)
    ++ record_bytes (group_layout 2 2039 1019 4 9)
    ++ record_bytes (group_layout 3 4294967087 2147483543 4 9)

-- it is accepted, as no bytes are, and has the same groups
abbrev pub BuiltInTable : Type 0
BuiltInTable = Met (table_checks []) × Met (table_checks built_in_table) × (groups_of built_in_table ≡ groups_of [])

-- the power from halves is the power
abbrev pub HalvesPower : Type 0
HalvesPower = (k p b e : ℕ) → 1 < p → e < 2 ^ k → halves_power k p b e ≡ pow p b e

-- g and h are elements
abbrev pub GeneratorElement : Type 0
GeneratorElement = (G : Group) → Proper G → (b : ℕ) → Generator G b → is_element G b ≡ true

-- ---- sums and products of exponents, modulo q
abbrev pub PowerOfSum : Type 0
PowerOfSum =
    (G : Group) → Proper G → (v a e : ℕ) → is_element G v ≡ true
    → pow G.p v (add G.q a e) ≡ mul G.p (pow G.p v a) (pow G.p v e)

abbrev pub PowerOfProduct : Type 0
PowerOfProduct =
    (G : Group) → Proper G → (v a e : ℕ) → is_element G v ≡ true
    → pow G.p v (mul G.q a e) ≡ pow G.p (pow G.p v a) e

-- the power of a product is the product of the powers
abbrev pub ProductOfPowers : Type 0
ProductOfPowers = (p v w e : ℕ) → pow p (mul p v w) e ≡ mul p (pow p v e) (pow p w e)

-- ---- equal powers have equal exponents modulo q
abbrev pub SamePower : Type 0
SamePower =
    (G : Group) → Proper G → (b : ℕ) → Generator G b → (a e : ℕ)
    → (pow G.p b a ≡ pow G.p b e) ↔ (a % G.q ≡ e % G.q)

-- ---- elements are the powers of a generator
-- the logarithm of v to the base b: one exponent below q
pub record Logarithm (G : Group) (b v : ℕ) : Type 0 where
  pub log : ℕ
  pub low : log < G.q
  pub power : v ≡ pow G.p b log
  pub only : (a : ℕ) → a < G.q → v ≡ pow G.p b a → a ≡ log

abbrev pub ElementsArePowers : Type 0
ElementsArePowers =
    (G : Group) → Proper G → (b : ℕ) → Generator G b → (v : ℕ) → (is_element G v ≡ true) ↔ Logarithm G b v

-- whoever knows the logarithm of h to the base g has, from a commitment to an exponent, h to that exponent: a power of the commitment
abbrev pub KnownLogarithm : Type 0
KnownLogarithm =
    (G : Group) (L : Logarithm G G.g.0 G.h.0) (e : ℕ)
    → pow G.p (pow G.p G.g.0 e) L.log ≡ pow G.p G.h.0 e

-- ---- elements stay elements
abbrev pub ProductElement : Type 0
ProductElement =
    (G : Group) → Proper G → (v w : ℕ) → is_element G v ≡ true → is_element G w ≡ true → is_element G (mul G.p v w) ≡ true

abbrev pub PowerElement : Type 0
PowerElement = (G : Group) → Proper G → (v e : ℕ) → is_element G v ≡ true → is_element G (pow G.p v e) ≡ true
