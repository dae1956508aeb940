-- A table of one's own in figures: one group with p = 31 and q = 5, where p - 1 is not 2q; and tables with one figure of it changed.
use Rattle.std.specs.Prelude.{◌≡◌, List, ℕ, Ok, Err}
use Rattle.words.specs.Checks.{Outcome, outcome, Met}
use Rattle.words.specs.Bytes.{record_bytes}
use Rattle.words.specs.declared.refusal.Refusal.TheVariants.{UnknownGroup, NoElement, NotPrime, NoGenerator}
use Rattle.group.specs.Power.{pow}
use Rattle.group.specs.Table.{group_layout, table_checks}
use Rattle.group.specs.Answer.{power_outcome}
use Rattle.figures.specs.ByHand.{element, exponent}

-- the table of one group
abbrev pub table_of : ℕ → ℕ → ℕ → ℕ → List ℕ
table_of p q g h = record_bytes (group_layout 1 p q g h)

-- what is answered for it
abbrev pub table_answer : ℕ → ℕ → ℕ → ℕ → Outcome (Unit {0})
table_answer p q g h = outcome (table_checks (table_of p q g h)) tt

abbrev pub own_table : List ℕ
own_table = table_of 31 5 2 16

pub record OwnTable : Type 0 where
  -- it is accepted; 2 to the exponent 4 is 16 in its group 1, and it has no group 2
  pub accepted : Met (table_checks own_table)
  pub power : power_outcome own_table 1 (element 2) (exponent 4) ≡ Ok (element 16)
  pub no_second : power_outcome own_table 2 (element 2) (exponent 4) ≡ Err UnknownGroup
  -- 5 is the square of 6, and no element: as a base it is refused by 6, as g by 21
  pub square-5 : pow 31 6 2 ≡ 5
  pub base-5 : (e : ℕ) → power_outcome own_table 1 (element 5) (exponent e) ≡ Err NoElement
  pub g-5 : table_answer 31 5 5 16 ≡ Err NoGenerator
  -- h may be neither g nor 1
  pub h-2 : table_answer 31 5 2 2 ≡ Err NoGenerator
  pub h-1 : table_answer 31 5 2 1 ≡ Err NoGenerator
  -- 2 and 15 divide 30, but one is even and the other not prime; 7 does not divide it; 51 is not prime, though 5 divides 50
  pub q_2 : table_answer 31 2 2 16 ≡ Err NotPrime
  pub q-15 : table_answer 31 15 2 16 ≡ Err NotPrime
  pub q-7 : table_answer 31 7 2 16 ≡ Err NotPrime
  pub p-51 : table_answer 51 5 2 16 ≡ Err NotPrime
