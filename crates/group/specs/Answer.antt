-- What the operation power is to answer.
use Rattle.std.specs.Prelude.{List, [], ◌∷◌, ℕ}
use Rattle.words.specs.Checks.{Check, ◌unless◌, Outcome, outcome}
use Rattle.group.specs.Power.{pow}
use Rattle.group.specs.Table.{in_group}
use Rattle.group.specs.Element.{is_element, is_exponent}
use Rattle.group.specs.declared.Group.{Group}
use Rattle.group.specs.declared.Element.{Element}
use Rattle.group.specs.declared.Exponent.{Exponent}
use Rattle.words.specs.declared.refusal.Refusal.TheVariants.{NoElement, NoExponent}

-- ---- a power
-- in a group
abbrev pub power_checks : Group → Element → Exponent → List Check
power_checks G b e = NoElement unless is_element G b.0 ∷ NoExponent unless is_exponent G e.0 ∷ []

abbrev pub power_value : Group → Element → Exponent → Element
power_value G b e = record { 0 = pow G.p b.0 e.0 }

unfoldable pub power_in : Group → Element → Exponent → Outcome Element
power_in G b e = outcome (power_checks G b e) (power_value G b e)

-- in the group of a table's number
unfoldable pub power_outcome : List ℕ → ℕ → Element → Exponent → Outcome Element
power_outcome T k b e = in_group T k (λ G. power_checks G b e) (λ G. power_value G b e)
