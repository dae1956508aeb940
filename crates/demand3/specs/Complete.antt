-- Completeness on a board: what is written with proper figures and stands on a board is accepted there and true, and a board with enough
-- of it ends in the product of the h^s. In every proper setting of a round whose number is a word, by the judges of this repository; the
-- last line reads it off for tables and rounds.
use Rattle.std.specs.Prelude.{◌≡◌, Bool, true, List, ◌⊎◌, ℕ, ◌*◌, ◌^◌, ◌<◌, ◌≤◌, length, take, drop, Ok}
use Rattle.words.specs.Lists.{All, map, entry}
use Rattle.words.specs.Checks.{Outcome, Met}
use Rattle.words.specs.Bytes.{records_in, record_at}
use Rattle.field.specs.Polynomial.{value_at}
use Rattle.group.specs.Power.{pow}
use Rattle.group.specs.declared.Element.{Element}
use Rattle.sharing.specs.Setting.{ProperSetting, setting_in, round_checks, members}
use Rattle.sharing.specs.Carried.{Carries, Quorum, secret_of}
use Rattle.sharing.specs.declared.Round.{Round}
use Rattle.sharing.specs.declared.Setting.{Setting}
use Rattle.sharing.specs.Sum.{product_of}
use Rattle.records.specs.Layout.{opening_layout, member_of, Z_of}
use Rattle.lines.specs.Lines.{Y_in}
use Rattle.dealing.specs.Dealing.{write_dealing_in, written_dealing}
use Rattle.share.specs.declared.ShareForm.{ShareForm}
use Rattle.share.specs.Share.{opened_form, added_form, key_of, write_share_in, written_share}
use Rattle.board.specs.Board.{board_checks, key_in, keys_in, lines_of}
use Rattle.verdicts.specs.Shares.{Judges, judges, is_share_in}
use Rattle.verdicts.specs.Verdict.{is_accepted, commitments_of, is_share_by, secret_by}
use Rattle.verdicts.specs.Added.{accepted_dealers, multiplied}
use Rattle.verdicts.specs.Draw.{draw_in, draw_outcome}
use Rattle.verdicts.specs.declared.Secret.TheVariants.{Opened}
use Rattle.demand3.specs.Claims.{RightlyOpened, power_of_h, SomeStuck, AllRecoverable, AddedTrue, secrets_of, sum_on}

-- ---- what stands on a board
-- the lines of the dealer d are what the writer writes, with the board's keys, from the polynomial f and some nonces
pub record WrittenLines (S : Setting) (b : List ℕ) (d : ℕ) (f : List ℕ) : Type 0 where
  pub nonces : List ℕ
  pub writes : write_dealing_in S d (keys_in S.n b) f nonces (32 * S.n) ≡ Ok tt
  pub written : lines_of b d ≡ written_dealing S d (keys_in S.n b) f nonces

-- a record is the opening u of the dealer d
pub record OpeningOn (S : Setting) (b : List ℕ) (d u : ℕ) : Type 0 where
  pub at : ℕ
  pub inside : at < records_in b
  pub opening : record_at b at ≡ opening_layout d u S.round

-- the record i is what the writer writes for member m, in the form F, from Y, the secret key of his key on the board and some nonce
pub record WrittenShare (S : Setting) (b : List ℕ) (F : ShareForm) (Y m i : ℕ) : Type 0 where
  pub secret-key : ℕ
  pub nonce : ℕ
  pub key : key_in b m ≡ key_of S.group secret-key
  pub writes : write_share_in S F m Y secret-key nonce 32 ≡ Ok tt
  pub written : take 32 (drop (32 * i) b) ≡ written_share S F m Y secret-key nonce

-- as an opened share of the dealing of d, from the Y in the line for him
abbrev pub OpenedOn : Setting → List ℕ → ℕ → ℕ → ℕ → Type 0
OpenedOn S b d m i = WrittenShare S b (opened_form d) (Y_in (lines_of b d) m) m i

-- as an added share, from the product of the Y in his lines of all accepted dealings
abbrev pub AddedOn : Setting → List ℕ → ℕ → ℕ → Type 0
AddedOn S b m i = WrittenShare S b added_form (entry (multiplied judges S b Y_in) m) m i

-- t or more different members have one each, where On m i says that the record i is that of member m
pub record QuorumOn (S : Setting) (On : ℕ → ℕ → Type 0) : Type 0 where
  pub of : List ℕ
  pub quorum : Quorum S of
  pub each : All (λ m. (i : ℕ) × On m i) of

-- the record i is an accepted added share
abbrev pub is_added_by : Judges → Setting → List ℕ → ℕ → Bool
is_added_by J S b i = is_share_in J S b added_form (multiplied J S b Y_in) i

-- ---- true dealings
-- the dealing of d is true to the polynomial f: f carries its commitments, and each Y is the member's key to the value of f at him
pub record TrueDealing (S : Setting) (b : List ℕ) (d : ℕ) (f : List ℕ) : Type 0 where
  pub carries : Carries S f (commitments_of S b d)
  pub encrypted : (m : ℕ) → 1 ≤ m → m ≤ S.n → Y_in (lines_of b d) m ≡ pow S.group.p (key_in b m) (value_at S.group.q f m)

-- C holds of each dealer whose dealing is accepted
abbrev pub EachAccepted : Setting → List ℕ → (ℕ → Type 0) → Type 0
EachAccepted S b C = (d : ℕ) → 1 ≤ d → d ≤ S.n → is_accepted judges S b d ≡ true → C d

-- every accepted dealing is true, that of d to the polynomial f d
abbrev pub AllTrue : Setting → List ℕ → (ℕ → List ℕ) → Type 0
AllTrue S b f = EachAccepted S b (λ d. TrueDealing S b d (f d))

-- ---- one record, or one dealer's lines: written, it is accepted on the board, and it is true
pub record CompleteOn (S : Setting) (b : List ℕ) : Type 0 where
  pub lines : (d : ℕ) (f : List ℕ) → WrittenLines S b d f → (is_accepted judges S b d ≡ true) × TrueDealing S b d f
  pub opening : (d : ℕ) (f : List ℕ) → Carries S f (commitments_of S b d) → OpeningOn S b d (secret_of S f)
      → RightlyOpened S b d × (secret_by judges S b d ≡ Opened (record { 0 = power_of_h S.group (secret_of S f) }))
  -- with a secret key and a nonce a member can write an opened share of every accepted dealing, and an added share
  pub can-open : (d m x w : ℕ) → is_accepted judges S b d ≡ true → 1 ≤ m → m ≤ S.n → 1 ≤ x → x < S.group.q → w < S.group.q
      → write_share_in S (opened_form d) m (Y_in (lines_of b d) m) x w 32 ≡ Ok tt
  pub can-add : (m x w : ℕ) → 1 ≤ m → m ≤ S.n → 1 ≤ x → x < S.group.q → w < S.group.q
      → write_share_in S added_form m (entry (multiplied judges S b Y_in) m) x w 32 ≡ Ok tt
  -- an opened share is accepted, and it is true where the dealing is
  pub opened : (d m i : ℕ) → OpenedOn S b d m i
      → (is_share_by judges S b d i ≡ true)
      × ((f : List ℕ) → TrueDealing S b d f → Z_of (record_at b i) ≡ power_of_h S.group (value_at S.group.q f m))
  -- an added share is accepted, and it is true to the sum where the accepted dealings are true
  pub added : (m i : ℕ) → AddedOn S b m i
      → (is_added_by judges S b i ≡ true)
      × ((f : ℕ → List ℕ) → AllTrue S b f → Z_of (record_at b i) ≡ power_of_h S.group (value_at S.group.q (sum_on judges S b f) m))

-- on every board whose verdicts are reached
abbrev pub CompleteOnBoard : Type 0
CompleteOnBoard = (S : Setting) → ProperSetting S → S.round < 2 ^ 32 → (b : List ℕ) → Met (board_checks S b) → CompleteOn S b

-- ---- whole boards
-- every accepted dealing is true and every accepted share of it is written; it is opened, or t or more members have opened shares of it
pub record WrittenBoard (S : Setting) (b : List ℕ) (f : ℕ → List ℕ) : Type 0 where
  pub reached : Met (board_checks S b)
  pub dealings : AllTrue S b f
  pub shares : (d i : ℕ) → is_accepted judges S b d ≡ true → i < records_in b → is_share_by judges S b d i ≡ true
      → OpenedOn S b d (member_of (record_at b i)) i
  pub revealed : EachAccepted S b (λ d. OpeningOn S b d (secret_of S (f d)) ⊎ QuorumOn S (OpenedOn S b d))

-- every accepted dealing is true, one is stuck, and every accepted added share is written; t or more members have one
pub record WrittenStuck (S : Setting) (b : List ℕ) (f : ℕ → List ℕ) : Type 0 where
  pub reached : Met (board_checks S b)
  pub dealings : AllTrue S b f
  pub stuck : SomeStuck judges S b
  pub shares : (i : ℕ) → i < records_in b → is_added_by judges S b i ≡ true → AddedOn S b (member_of (record_at b i)) i
  pub enough : QuorumOn S (AddedOn S b)

abbrev pub EitherWritten : Setting → List ℕ → (ℕ → List ℕ) → Type 0
EitherWritten S b f = WrittenBoard S b f ⊎ WrittenStuck S b f

-- what is answered for such boards, draw b for the board b: each meets a hypothesis of demand 3 and, where t or more dealings are accepted,
-- ends in the product of their h^s. Where every member has written lines, all are accepted, and it is the product over all members
pub record WrittenEnds (S : Setting) (draw : List ℕ → Outcome Element) (b : List ℕ) (f : ℕ → List ℕ) : Type 0 where
  pub recoverable : WrittenBoard S b f → AllRecoverable judges S b f
  pub added_true : WrittenStuck S b f → AddedTrue judges S b f
  pub ends : EitherWritten S b f → S.t ≤ length (accepted_dealers judges S b) → draw b ≡ Ok (record { 0 = secrets_of judges S b f })
  pub all-dealt : EitherWritten S b f → ((d : ℕ) → 1 ≤ d → d ≤ S.n → WrittenLines S b d (f d))
      → draw b ≡ Ok (record { 0 = product_of S.group.p (map (λ d. power_of_h S.group (secret_of S (f d))) (members S.n)) })

abbrev pub WrittenBoardsEnd : Type 0
WrittenBoardsEnd =
    (S : Setting) → ProperSetting S → S.round < 2 ^ 32 → (b : List ℕ) (f : ℕ → List ℕ) → WrittenEnds S (draw_in judges S) b f

-- over a table and a round that their checks do not refuse, as the board judge answers
abbrev pub WrittenByRound : Type 0
WrittenByRound =
    (T : List ℕ) (R : Round) → Met (round_checks T R) → R.round < 2 ^ 32 → (b : List ℕ) (f : ℕ → List ℕ)
    → WrittenEnds (setting_in T R) (draw_outcome judges T R) b f
