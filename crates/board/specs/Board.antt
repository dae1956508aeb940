-- The board's records: their form and order, the keys, a dealer's lines and opening, and what is refused before verdicts.
use Rattle.std.specs.Prelude.{Bool, true, false, not, ◌&&◌, List, [], ◌∷◌, ◌++◌, ℕ, zero, suc, ◌+◌, ◌-◌, ◌*◌, ◌%◌, length, take, drop, leb, ltb, eqb}
use Rattle.words.specs.Choice.{pick}
use Rattle.words.specs.Lists.{map, all}
use Rattle.words.specs.Checks.{Check, ◌unless◌, Outcome}
use Rattle.words.specs.Bytes.{records_in, record_at}
use Rattle.words.specs.declared.Record.{Record}
use Rattle.sharing.specs.Setting.{judged, judged_else, is_member, members}
use Rattle.sharing.specs.declared.Round.{Round}
use Rattle.sharing.specs.declared.Setting.{Setting}
use Rattle.records.specs.Layout.{key_kind, line_kind, opening_kind, share_kind, added_kind, dealer_of, member_of, y_of}
use Rattle.records.specs.Layout.{is_key_record, is_line_record, is_opening_record, is_share_record, is_of_round}
use Rattle.records.specs.Keys.{key_checks}
use Rattle.board.specs.Search.{first}
use Rattle.words.specs.declared.refusal.Refusal.TheVariants.{BadLength, BadForm, OutOfOrder, NoMember, Incomplete, OtherRound}

-- ---- form and order
-- a record of the table: its kind known, its dealer and member in range or 0 as the table has it, its spare words zero
unfoldable pub is_shaped : ℕ → Record → Bool
is_shaped n r =
    pick (is_key_record r) (is_member n (member_of r))
    (pick (is_line_record r) (is_member n (dealer_of r) && is_member n (member_of r))
    (pick (is_opening_record r) (is_member n (dealer_of r))
    (pick (is_share_record share_kind r) (is_member n (dealer_of r) && is_member n (member_of r))
    (pick (is_share_record added_kind r) (eqb (dealer_of r) 0 && is_member n (member_of r)) false))))

-- a record's address is its kind, dealer and member; r is below the address k, d, m: by kind, then dealer, then member
unfoldable pub is_below : Record → ℕ → ℕ → ℕ → Bool
is_below r k d m = pick (eqb r.w0 k) (pick (eqb (dealer_of r) d) (ltb (member_of r) m) (ltb (dealer_of r) d)) (ltb r.w0 k)

-- s is above r
abbrev pub is_above : Record → Record → Bool
is_above r s = is_below r s.w0 (dealer_of s) (member_of s)

-- the record i is the first or above the one before
abbrev pub in_order : List ℕ → ℕ → Bool
in_order b i = pick (eqb i 0) true (is_above (record_at b (i - 1)) (record_at b i))

-- the record i: 4 a shape that is none of the table's, 17 another round, and then 5
abbrev pub one_record_checks : Setting → List ℕ → ℕ → List Check
one_record_checks S b i =
    BadForm unless is_shaped S.n (record_at b i)
    ∷ OtherRound unless is_of_round S.round (record_at b i)
    ∷ OutOfOrder unless in_order b i
    ∷ []

-- record by record, for m records from the record i on
abbrev pub record_checks : Setting → List ℕ → ℕ → ℕ → List Check
record_checks S b i zero = []
record_checks S b i (suc m) = one_record_checks S b i ++ record_checks S b (suc i) m

-- whole records, at most 2,048
abbrev pub length_checks : List ℕ → List Check
length_checks b = BadLength unless (eqb (length b % 32) 0 && leb (records_in b) 2048) ∷ []

-- and each in form, of the round, and above the one before
unfoldable pub form_checks : Setting → List ℕ → List Check
form_checks S b = length_checks b ++ record_checks S b 0 (records_in b)

-- ---- records by their address
-- the place of an address: the first record that is not below it, the number of records where there is none
unfoldable pub place_of : List ℕ → ℕ → ℕ → ℕ → ℕ
place_of b k d m = first (λ i. not (is_below (record_at b i) k d m)) 0 (records_in b)

-- r has the address k, d, m
unfoldable pub is_at : Record → ℕ → ℕ → ℕ → Bool
is_at r k d m = eqb r.w0 k && (eqb (dealer_of r) d && eqb (member_of r) m)

-- where the record with this address stands, the number of records where there is none
unfoldable pub record_place : List ℕ → ℕ → ℕ → ℕ → ℕ
record_place b k d m = first (λ i. is_at (record_at b i) k d m) 0 (records_in b)

-- ---- keys
-- where the key record of member m stands, the number of records where there is none
abbrev pub key_place : List ℕ → ℕ → ℕ
key_place b m = record_place b key_kind 0 m

-- member m has one
abbrev pub has_key : List ℕ → ℕ → Bool
has_key b m = ltb (key_place b m) (records_in b)

unfoldable pub key_in : List ℕ → ℕ → ℕ
key_in b m = y_of (record_at b (key_place b m))

abbrev pub keys_in : ℕ → List ℕ → List ℕ
keys_in n b = map (key_in b) (members n)

-- 12 a key missing, then 6 a bad key and 22 two equal ones
unfoldable pub board_key_checks : Setting → List ℕ → List Check
board_key_checks S b = Incomplete unless all (has_key b) (members S.n) ∷ key_checks S.group (keys_in S.n b)

-- ---- what is refused before verdicts: 3; record by record 4, 17 and 5; 12, 6 and 22
unfoldable pub board_checks : Setting → List ℕ → List Check
board_checks S b = form_checks S b ++ board_key_checks S b

-- ---- a dealer's lines
-- members are at most 31, so his lines stand from the place of member 0 to that of member 32
abbrev pub lines_start : List ℕ → ℕ → ℕ
lines_start b d = place_of b line_kind d 0

abbrev pub lines_end : List ℕ → ℕ → ℕ
lines_end b d = place_of b line_kind d 32

unfoldable pub line_count : List ℕ → ℕ → ℕ
line_count b d = lines_end b d - lines_start b d

-- the part of the board that holds them
unfoldable pub lines_of : List ℕ → ℕ → List ℕ
lines_of b d = take (32 * lines_end b d - 32 * lines_start b d) (drop (32 * lines_start b d) b)

-- the checks of both operations on a dealer's lines
unfoldable pub lines_checks : Setting → ℕ → List ℕ → List Check
lines_checks S d b = NoMember unless is_member S.n d ∷ form_checks S b

-- whether his lines can be told
unfoldable pub lines_outcome : List ℕ → Round → ℕ → List ℕ → Outcome (Unit {0})
lines_outcome T R d b = judged T R (λ S. lines_checks S d b) (λ S. tt)

-- the part that is handed back: empty where a check refuses
unfoldable pub lines_part : List ℕ → Round → ℕ → List ℕ → List ℕ
lines_part T R d b = judged_else T R (λ S. lines_checks S d b) (λ S. lines_of b d) []

-- how many bytes behind the board's start that part begins: where his lines do or would, at the start itself where the number is refused
unfoldable pub lines_at : List ℕ → Round → ℕ → List ℕ → ℕ
lines_at T R d b = judged_else T R (λ S. lines_checks S d b) (λ S. 32 * lines_start b d) 0

-- the place so many bytes behind a place in memory, which is a block and an offset in it
abbrev pub behind : ℕ → ℕ × ℕ → ℕ × ℕ
behind k p = (p.0, k + p.1)

-- ---- a dealer's opening: where its record stands, the number of records where there is none
abbrev pub opening_place : List ℕ → ℕ → ℕ
opening_place b d = record_place b opening_kind d 0
