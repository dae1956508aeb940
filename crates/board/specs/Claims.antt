-- What is claimed of boards before verdicts: keys, lines and rounds.
use Rattle.std.specs.Prelude.{◌≡◌, true, List, ◌++◌, ℕ, ◌+◌, ◌*◌, ◌<◌, ◌≤◌, length}
use Rattle.words.specs.Lists.{all}
use Rattle.words.specs.Checks.{Met, FirstUnmet}
use Rattle.words.specs.Bytes.{records_in, record_at}
use Rattle.sharing.specs.Setting.{ProperSetting, members}
use Rattle.sharing.specs.declared.Setting.{Setting}
use Rattle.records.specs.Layout.{key_kind, line_kind, dealer_of, member_of, round_of, member_record}
use Rattle.records.specs.Keys.{is_key}
use Rattle.records.specs.Claims.{KeyTwice}
use Rattle.board.specs.Board.{is_shaped, record_checks, length_checks, form_checks, board_checks, key_place, has_key, key_in, keys_in, lines_start, lines_end, line_count, lines_of}
use Rattle.words.specs.declared.refusal.Refusal.TheVariants.{OtherRound, SameKey}

-- ---- keys
-- the record at key_place is the one key record of member m, and holds a key that no other member has
pub record ExactKey (S : Setting) (b : List ℕ) (m : ℕ) : Type 0 where
  pub inside : key_place b m < records_in b
  pub kind : (record_at b (key_place b m)).w0 ≡ key_kind
  pub member : member_of (record_at b (key_place b m)) ≡ m
  pub only : (i : ℕ) → i < records_in b → (record_at b i).w0 ≡ key_kind → member_of (record_at b i) ≡ m → i ≡ key_place b m
  pub proper : is_key S.group (key_in b m) ≡ true
  pub own : (k : ℕ) → 1 ≤ k → k ≤ S.n → key_in b k ≡ key_in b m → k ≡ m

abbrev pub KeysExact : Type 0
KeysExact = (S : Setting) (b : List ℕ) → Met (board_checks S b) → (m : ℕ) → 1 ≤ m → m ≤ S.n → ExactKey S b m

-- two members with one key refuse a board by 22 where nothing earlier does: its form and order, a key missing, or one that is none
abbrev pub BoardKeyTwice : Type 0
BoardKeyTwice =
    (S : Setting) (b : List ℕ) → Met (form_checks S b) → all (has_key b) (members S.n) ≡ true → KeyTwice S.group (keys_in S.n b)
    → FirstUnmet SameKey (board_checks S b)

-- ---- a dealer's lines
-- the part of the board holds exactly the dealer's lines, in place; where he has n, each member's line stands at the member's place
pub record ExactLines (n : ℕ) (b : List ℕ) (d : ℕ) : Type 0 where
  pub inside : lines_end b d ≤ records_in b
  pub rising : lines_start b d ≤ lines_end b d
  pub only-lines : (i : ℕ) → lines_start b d ≤ i → i < lines_end b d → ((record_at b i).w0 ≡ line_kind) × (dealer_of (record_at b i) ≡ d)
  pub all_lines : (i : ℕ) → i < records_in b → (record_at b i).w0 ≡ line_kind → dealer_of (record_at b i) ≡ d → (lines_start b d ≤ i) × (i < lines_end b d)
  pub size : length (lines_of b d) ≡ 32 * line_count b d
  pub in_place : (k : ℕ) → k < line_count b d → record_at (lines_of b d) k ≡ record_at b (lines_start b d + k)
  pub by-member : line_count b d ≡ n → (i : ℕ) → 1 ≤ i → i ≤ n → member_of (member_record (lines_of b d) i) ≡ i

-- on every board of which the form and order of records is not refused
abbrev pub LinesExact : Type 0
LinesExact = (S : Setting) (b : List ℕ) → ProperSetting S → Met (form_checks S b) → (d : ℕ) → ExactLines S.n b d

-- ---- rounds
-- where nothing of form and order is refused, every record is of the round
abbrev pub RecordsOfRound : Type 0
RecordsOfRound = (S : Setting) (b : List ℕ) → Met (form_checks S b) → (i : ℕ) → i < records_in b → round_of (record_at b i) ≡ S.round

-- a record of another round refuses a board by 17 where nothing earlier does: the length, a record before it, and its own form
abbrev pub BoardOfOtherRound : Type 0
BoardOfOtherRound =
    (S : Setting) (b : List ℕ) (i : ℕ) → i < records_in b → Met (length_checks b ++ record_checks S b 0 i) → is_shaped S.n (record_at b i) ≡ true
    → (round_of (record_at b i) ≡ S.round → ⊥) → FirstUnmet OtherRound (form_checks S b)
