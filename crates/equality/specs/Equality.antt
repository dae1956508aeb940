-- Proofs that two elements are two bases to one exponent.
use Rattle.std.specs.Prelude.{Bool, ◌&&◌, List, [], ◌∷◌, ℕ, eqb}
use Rattle.words.specs.Lists.{all}
use Rattle.words.specs.Checks.{Check, ◌unless◌, Outcome, outcome}
use Rattle.field.specs.Residue.{mul, sub}
use Rattle.group.specs.Power.{pow}
use Rattle.group.specs.Table.{in_group}
use Rattle.group.specs.Element.{is_element, is_exponent}
use Rattle.group.specs.declared.Group.{Group}
use Rattle.equality.specs.declared.Equality.{Equality}
use Rattle.words.specs.declared.refusal.Refusal.TheVariants.{NoElement, NoExponent, ProofFails}

-- the announcement that the challenge c and the response r give for the element x to the base b: b^r times x^c
unfoldable pub announced : Group → ℕ → ℕ → ℕ → ℕ → ℕ
announced G b x c r = mul G.p (pow G.p b r) (pow G.p x c)

-- the response of the nonce w to the challenge c for the exponent e
unfoldable pub response : Group → ℕ → ℕ → ℕ → ℕ
response G w c e = sub G.q w (mul G.q c e)

-- both announcements are what the challenge and the response give
abbrev pub equations_hold : Group → Equality → Bool
equations_hold G E =
    eqb E.a1.0 (announced G E.b1.0 E.x1.0 E.c.0 E.r.0)
    && eqb E.a2.0 (announced G E.b2.0 E.x2.0 E.c.0 E.r.0)

-- ---- one proof judged
-- in a group
abbrev pub equality_checks : Group → Equality → List Check
equality_checks G E =
    NoElement unless all (is_element G) (E.b1.0 ∷ E.x1.0 ∷ E.b2.0 ∷ E.x2.0 ∷ E.a1.0 ∷ E.a2.0 ∷ [])
    ∷ NoExponent unless all (is_exponent G) (E.c.0 ∷ E.r.0 ∷ [])
    ∷ ProofFails unless equations_hold G E
    ∷ []

unfoldable pub equality_in : Group → Equality → Outcome (Unit {0})
equality_in G E = outcome (equality_checks G E) tt

-- in the group of number k of the table T
unfoldable pub equality_outcome : List ℕ → ℕ → Equality → Outcome (Unit {0})
equality_outcome T k E = in_group T k (λ G. equality_checks G E) (λ G. tt)
