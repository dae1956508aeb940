-- The records of a board and of round.set: one layout for each kind, the tests of their form, and records by member.
use Rattle.std.specs.Prelude.{Bool, List, [], ◌∷◌, ◌++◌, ℕ, ◌-◌, eqb}
use Rattle.words.specs.Bytes.{record_bytes, record_at, agrees}
use Rattle.words.specs.declared.Record.{Record}

-- ---- kinds
abbrev pub key_kind : ℕ
key_kind = 1

abbrev pub line_kind : ℕ
line_kind = 2

abbrev pub opening_kind : ℕ
opening_kind = 3

abbrev pub share_kind : ℕ
share_kind = 4

abbrev pub added_kind : ℕ
added_kind = 5

abbrev pub set_kind : ℕ
set_kind = 9

-- ---- layouts: the kind, the dealer, the member, then figures, and the round's number last; words that nothing names are 0
-- the key y of member i
abbrev pub key_layout : ℕ → ℕ → ℕ → Record
key_layout i y round = record { w0 = key_kind; w1 = 0; w2 = i; w3 = y; w4 = 0; w5 = 0; w6 = 0; w7 = round }

-- the line of dealer d for member i: a commitment v and an encrypted share Y with its proof, response r and challenge c
abbrev pub line_layout : ℕ → ℕ → ℕ → ℕ → ℕ → ℕ → ℕ → Record
line_layout d i v Y r c round = record { w0 = line_kind; w1 = d; w2 = i; w3 = v; w4 = Y; w5 = r; w6 = c; w7 = round }

-- the opening u of dealer d
abbrev pub opening_layout : ℕ → ℕ → ℕ → Record
opening_layout d u round = record { w0 = opening_kind; w1 = d; w2 = 0; w3 = u; w4 = 0; w5 = 0; w6 = 0; w7 = round }

-- a decrypted share Z, the paper's S, of dealer d and member i with its proof, challenge c and response r: an opened share, or an added
-- share, which is of kind 5 and dealer 0
abbrev pub share_layout : ℕ → ℕ → ℕ → ℕ → ℕ → ℕ → ℕ → Record
share_layout kind d i Z c r round = record { w0 = kind; w1 = d; w2 = i; w3 = Z; w4 = c; w5 = r; w6 = 0; w7 = round }

-- the round: the group's number g, n and t, the round's own number in word 4, and the first round under the new rule in word 5
abbrev pub set_layout : ℕ → ℕ → ℕ → ℕ → ℕ → Record
set_layout g n t round first = record { w0 = set_kind; w1 = g; w2 = n; w3 = t; w4 = round; w5 = first; w6 = 0; w7 = 0 }

-- ---- the figures of a record
abbrev pub dealer_of : Record → ℕ
dealer_of r = r.w1

abbrev pub member_of : Record → ℕ
member_of r = r.w2

abbrev pub round_of : Record → ℕ
round_of r = r.w7

-- of a key
abbrev pub y_of : Record → ℕ
y_of r = r.w3

-- of a line
abbrev pub v_of : Record → ℕ
v_of r = r.w3

abbrev pub Y_of : Record → ℕ
Y_of r = r.w4

abbrev pub r_of : Record → ℕ
r_of r = r.w5

abbrev pub c_of : Record → ℕ
c_of r = r.w6

-- of an opening
abbrev pub u_of : Record → ℕ
u_of r = r.w3

-- of an opened or added share
abbrev pub Z_of : Record → ℕ
Z_of r = r.w3

abbrev pub share_c : Record → ℕ
share_c r = r.w4

abbrev pub share_r : Record → ℕ
share_r r = r.w5

-- of round.set
abbrev pub set_group : Record → ℕ
set_group r = r.w1

abbrev pub set_n : Record → ℕ
set_n r = r.w2

abbrev pub set_t : Record → ℕ
set_t r = r.w3

abbrev pub set_round : Record → ℕ
set_round r = r.w4

abbrev pub set_first : Record → ℕ
set_first r = r.w5

-- ---- form: a record agrees with its kind's layout of its own figures, its own round among them
abbrev pub is_key_record : Record → Bool
is_key_record r = agrees r (key_layout (member_of r) (y_of r) (round_of r))

abbrev pub is_line_record : Record → Bool
is_line_record r = agrees r (line_layout (dealer_of r) (member_of r) (v_of r) (Y_of r) (r_of r) (c_of r) (round_of r))

abbrev pub is_opening_record : Record → Bool
is_opening_record r = agrees r (opening_layout (dealer_of r) (u_of r) (round_of r))

abbrev pub is_share_record : ℕ → Record → Bool
is_share_record kind r = agrees r (share_layout kind (dealer_of r) (member_of r) (Z_of r) (share_c r) (share_r r) (round_of r))

abbrev pub is_set_record : Record → Bool
is_set_record r = agrees r (set_layout (set_group r) (set_n r) (set_t r) (set_round r) (set_first r))

-- ---- round: it is tested behind the form, by 17
abbrev pub is_of_round : ℕ → Record → Bool
is_of_round round r = eqb (round_of r) round

-- ---- many
-- the record of member i among the members' records
abbrev pub member_record : List ℕ → ℕ → Record
member_record b i = record_at b (i - 1)

-- the bytes of the record of each member of a list
unfoldable pub records_bytes : (ℕ → Record) → List ℕ → List ℕ
records_bytes f [] = []
records_bytes f (i ∷ is) = record_bytes (f i) ++ records_bytes f is
