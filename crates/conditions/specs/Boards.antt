-- Boards of round 0, group 1 with four members and threshold 2, record by record. Their bytes are the files of the same names in tests/forged.
use Rattle.std.specs.Prelude.{List, ◌++◌, ℕ}
use Rattle.words.specs.Bytes.{record_bytes}
use Rattle.records.specs.Layout.{share_kind, added_kind, key_layout, line_layout, opening_layout, share_layout}

-- ---- the bytes of a record of each kind
abbrev pub key : ℕ → ℕ → List ℕ
key i y = record_bytes (key_layout i y 0)

abbrev pub line : ℕ → ℕ → ℕ → ℕ → ℕ → ℕ → List ℕ
line d i v Y r c = record_bytes (line_layout d i v Y r c 0)

abbrev pub opening : ℕ → ℕ → List ℕ
opening d u = record_bytes (opening_layout d u 0)

abbrev pub share : ℕ → ℕ → ℕ → ℕ → ℕ → List ℕ
share d i Z c r = record_bytes (share_layout share_kind d i Z c r 0)

abbrev pub added : ℕ → ℕ → ℕ → ℕ → List ℕ
added i Z c r = record_bytes (share_layout added_kind 0 i Z c r 0)

-- ---- what the boards are made of
abbrev pub keys : List ℕ
keys = key 1 8 ++ (key 2 12 ++ (key 3 4 ++ key 4 16))

-- the first dealer's lines, of the polynomial 3 + 5 times the member number
abbrev pub first_lines : List ℕ
first_lines = line 1 1 9 4 3 2 ++ (line 1 2 16 6 8 2 ++ (line 1 3 8 8 7 2 ++ line 1 4 4 16 4 2))

-- his lines of the exponents 8, 2, 1, 3, which no polynomial of degree below 2 takes
abbrev pub uncarried_lines : List ℕ
uncarried_lines = line 1 1 9 4 5 10 ++ (line 1 2 16 6 3 10 ++ (line 1 3 4 4 0 10 ++ line 1 4 18 2 9 10))

-- the second dealer's lines, of the polynomial 6 + 4 times the member number
abbrev pub second_lines : List ℕ
second_lines = line 2 1 6 3 5 7 ++ (line 2 2 18 3 0 7 ++ (line 2 3 8 8 7 7 ++ line 2 4 1 1 2 7))

-- the keys, the first dealer's lines, those of the second, and behind them openings and shares
abbrev pub board_of : List ℕ → List ℕ → List ℕ
board_of first behind = keys ++ (first ++ (second_lines ++ behind))

-- ---- the boards: the second dealer has opened 6 on each
-- the first dealer has opened 3
abbrev pub opened_board : List ℕ
opened_board = board_of first_lines (opening 1 3 ++ opening 2 6)

-- he is silent, and members 1 and 2 have opened their shares of his dealing
abbrev pub silent_board : List ℕ
silent_board = board_of first_lines (opening 2 6 ++ (share 1 1 13 9 4 ++ share 1 2 12 5 6))

-- the same, but member 1 has forged his share: 6 in place of 13
abbrev pub forged_board : List ℕ
forged_board = board_of first_lines (opening 2 6 ++ (share 1 1 6 2 4 ++ share 1 2 12 5 6))

-- no polynomial carries the first dealing, and members 1 and 2 have opened their shares of it
abbrev pub uncarried_low : List ℕ
uncarried_low = board_of uncarried_lines (opening 2 6 ++ (share 1 1 13 9 4 ++ share 1 2 12 5 6))

-- the same, but members 1 and 3 have opened theirs
abbrev pub uncarried_high : List ℕ
uncarried_high = board_of uncarried_lines (opening 2 6 ++ (share 1 1 13 9 4 ++ share 1 3 9 3 6))

-- ---- boards with added shares: the first dealer is silent, and nobody has opened a share of his dealing
-- members 1 and 2 have posted added shares
abbrev pub added_board : List ℕ
added_board = board_of first_lines (opening 2 6 ++ (added 1 4 4 7 ++ added 2 8 4 8))

-- the same, but member 1 has forged his: 16 in place of 4
abbrev pub forged_added : List ℕ
forged_added = board_of first_lines (opening 2 6 ++ (added 1 16 2 3 ++ added 2 8 4 8))
