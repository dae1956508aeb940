-- What is claimed of one proof of equal logarithms, in every group: it is accepted exactly if both equations hold, and in every proper
-- group a written one is accepted. EqualityByNumber reads both off for the group of a number.
use Rattle.std.specs.Prelude.{◌≡◌, true, List, [], ◌∷◌, ◌↔◌, ℕ, ◌<◌, Ok}
use Rattle.words.specs.Lists.{All}
use Rattle.words.specs.Checks.{Met}
use Rattle.group.specs.Power.{pow}
use Rattle.group.specs.Table.{groups_of, group_of, group_checks}
use Rattle.group.specs.Element.{is_element, Proper}
use Rattle.group.specs.declared.Group.{Group}
use Rattle.equality.specs.Equality.{announced, response, equality_in, equality_outcome}
use Rattle.equality.specs.declared.Equality.{Equality}

-- the figures are proper and both equations hold
pub record Holds (G : Group) (E : Equality) : Type 0 where
  pub elements : All (λ v. is_element G v ≡ true) (E.b1.0 ∷ E.x1.0 ∷ E.b2.0 ∷ E.x2.0 ∷ E.a1.0 ∷ E.a2.0 ∷ [])
  pub c-low : E.c.0 < G.q
  pub r-low : E.r.0 < G.q
  pub first : E.a1.0 ≡ announced G E.b1.0 E.x1.0 E.c.0 E.r.0
  pub second : E.a2.0 ≡ announced G E.b2.0 E.x2.0 E.c.0 E.r.0

-- a proof is accepted exactly if it holds
abbrev pub EqualityExactly : Type 0
EqualityExactly = (G : Group) (E : Equality) → (equality_in G E ≡ Ok tt) ↔ Holds G E

-- the proof that the exponent e and the nonce w give under the challenge c
abbrev pub proof_of : Group → ℕ → ℕ → ℕ → ℕ → ℕ → Equality
proof_of G b1 b2 e w c =
    record {
      b1 = record { 0 = b1 };
      x1 = record { 0 = pow G.p b1 e };
      b2 = record { 0 = b2 };
      x2 = record { 0 = pow G.p b2 e };
      a1 = record { 0 = pow G.p b1 w };
      a2 = record { 0 = pow G.p b2 w };
      c = record { 0 = c };
      r = record { 0 = response G w c e };
    }

-- it is accepted, whatever the challenge
abbrev pub EqualityComplete : Type 0
EqualityComplete =
    (G : Group) → Proper G → (b1 b2 e w c : ℕ) → is_element G b1 ≡ true → is_element G b2 ≡ true → c < G.q
    → equality_in G (proof_of G b1 b2 e w c) ≡ Ok tt

-- a proof is accepted for a table and a number exactly if neither is refused and the group of the number, which is proper, accepts the proof
abbrev pub EqualityByNumber : Type 0
EqualityByNumber =
    (T : List ℕ) (k : ℕ) (E : Equality)
    → (equality_outcome T k E ≡ Ok tt)
    ↔ (Met (group_checks T k) × Proper (group_of (groups_of T) k) × (equality_in (group_of (groups_of T) k) E ≡ Ok tt))
