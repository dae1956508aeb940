-- A dealing's lines: the figures of the members' records, and the form of these records.
use Rattle.std.specs.Prelude.{Bool, ◌&&◌, List, [], ◌∷◌, ℕ, eqb}
use Rattle.words.specs.Lists.{map, all}
use Rattle.words.specs.Checks.{Check, ◌unless◌}
use Rattle.words.specs.declared.Record.{Record}
use Rattle.sharing.specs.Setting.{is_member, members}
use Rattle.sharing.specs.declared.Setting.{Setting}
use Rattle.records.specs.Layout.{is_line_record, is_of_round, dealer_of, member_of, v_of, Y_of, r_of, c_of, member_record}
use Rattle.words.specs.declared.refusal.Refusal.TheVariants.{BadForm, NoMember, OtherRound}

-- the dealer d is a member: the first stage wherever a dealing is written, read or judged
unfoldable pub address_checks : Setting → ℕ → List Check
address_checks S d = NoMember unless is_member S.n d ∷ []

-- ---- the figures of member i in the lines b
unfoldable pub v_in : List ℕ → ℕ → ℕ
v_in b i = v_of (member_record b i)

unfoldable pub Y_in : List ℕ → ℕ → ℕ
Y_in b i = Y_of (member_record b i)

unfoldable pub r_in : List ℕ → ℕ → ℕ
r_in b i = r_of (member_record b i)

unfoldable pub c_in : List ℕ → ℕ → ℕ
c_in b i = c_of (member_record b i)

-- the commitments
unfoldable pub vs_in : ℕ → List ℕ → List ℕ
vs_in n b = map (v_in b) (members n)

-- ---- their form
-- a record is a line of the dealer d for member i
unfoldable pub is_line_for : ℕ → ℕ → Record → Bool
is_line_for d i r = is_line_record r && (eqb (dealer_of r) d && eqb (member_of r) i)

-- the record of member i is a line of the dealer d for him
abbrev pub is_line_of : ℕ → List ℕ → ℕ → Bool
is_line_of d b i = is_line_for d i (member_record b i)

-- the record of member i is of that round
abbrev pub is_line_of_round : ℕ → List ℕ → ℕ → Bool
is_line_of_round round b i = is_of_round round (member_record b i)

-- all lines by their form, and then all by their round
unfoldable pub line_checks : Setting → ℕ → List ℕ → List Check
line_checks S d b =
    BadForm unless all (is_line_of d b) (members S.n)
    ∷ OtherRound unless all (is_line_of_round S.round b) (members S.n)
    ∷ []
