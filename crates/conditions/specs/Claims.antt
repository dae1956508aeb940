-- Why the conditions of the sentence on two boards stand: there are boards that meet them all, and without either of the two that the
-- judges do not test, that polynomials carry the dealings and that accepted shares are true, two boards may end in two draws. The same of
-- added shares.
use Rattle.std.specs.Prelude.{◌≡◌, true, List, [], ◌∷◌, ℕ, ◌<◌, ◌≤◌, eqb, length, Ok}
use Rattle.words.specs.Choice.{pick}
use Rattle.words.specs.Checks.{Met}
use Rattle.words.specs.Bytes.{records_in, record_at}
use Rattle.group.specs.Power.{pow}
use Rattle.sharing.specs.Setting.{ProperSetting}
use Rattle.sharing.specs.Carried.{Carries}
use Rattle.sharing.specs.Figures.{small_round, small}
use Rattle.records.specs.Layout.{member_of, Z_of}
use Rattle.lines.specs.Lines.{v_in}
use Rattle.board.specs.Board.{board_checks, lines_of}
use Rattle.verdicts.specs.Shares.{judges}
use Rattle.verdicts.specs.Verdict.{is_accepted, commitments_of, is_share_by}
use Rattle.verdicts.specs.Added.{accepted_dealers, multiplied, added_by}
use Rattle.verdicts.specs.Draw.{draw_outcome}
use Rattle.demand3.specs.Claims.{Revealed, power_of_h, SomeStuck, AllRecoverable, AddedTrue, SameDealings}
use Rattle.conditions.specs.Boards.{opened_board, silent_board, forged_board, uncarried_low, uncarried_high, added_board, forged_added}

-- the polynomials 3 + 5 times the member number for dealer 1, and 6 + 4 times it for the others
abbrev pub polynomial_of : ℕ → List ℕ
polynomial_of d = pick (eqb d 1) (3 ∷ 5 ∷ []) (6 ∷ 4 ∷ [])

-- what the board judge answers for a board of group 1 with n = 4 and t = 2, whose setting is that of all these claims
abbrev pub DrawIs : List ℕ → ℕ → Type 0
DrawIs b v = draw_outcome judges [] small_round b ≡ Ok (record { 0 = v })

-- ---- the conditions are met: where the first dealer has opened and where he is silent, the draw is 2
pub record ConditionsMet : Type 0 where
  pub proper : ProperSetting small
  pub opened : AllRecoverable judges small opened_board polynomial_of
  pub silent : AllRecoverable judges small silent_board polynomial_of
  pub same : SameDealings judges small small opened_board silent_board
  pub count : 2 ≤ length (accepted_dealers judges small opened_board)
  pub draws : DrawIs opened_board 2 × DrawIs silent_board 2

-- ---- all other conditions, on one board: verdicts are reached, t or more dealings are accepted, and each is rightly opened or has t
-- or more accepted shares
pub record OtherConditions (b : List ℕ) : Type 0 where
  pub reached : Met (board_checks small b)
  pub count : 2 ≤ length (accepted_dealers judges small b)
  pub revealed : (d : ℕ) → 1 ≤ d → d ≤ 4 → is_accepted judges small b d ≡ true → Revealed judges small b d

-- two such boards with the same accepted dealings
abbrev pub Compared : List ℕ → List ℕ → Type 0
Compared b c = OtherConditions b × OtherConditions c × SameDealings judges small small b c

-- every accepted dealing is carried by a polynomial of degree below t
abbrev pub EachCarried : List ℕ → Type 0
EachCarried b = (d : ℕ) → 1 ≤ d → d ≤ 4 → is_accepted judges small b d ≡ true → (f : List ℕ) × Carries small f (commitments_of small b d)

-- every accepted share is true to its line: it is h to the exponent of the line's commitment
abbrev pub AllTrue : List ℕ → Type 0
AllTrue b = (d i : ℕ) → i < records_in b → is_share_by judges small b d i ≡ true
    → (e : ℕ) × (v_in (lines_of b d) (member_of (record_at b i)) ≡ pow small.group.p small.group.g.0 e)
    × (Z_of (record_at b i) ≡ power_of_h small.group e)

-- ---- that polynomials carry the dealings cannot be dropped: none carries that of dealer 1, all shares are true, and the draws are 2 and 9
abbrev pub CarriedNeeded : Type 0
CarriedNeeded =
    ((f : List ℕ) → Carries small f (commitments_of small uncarried_low 1) → ⊥)
    × Compared uncarried_low uncarried_high × AllTrue uncarried_low × AllTrue uncarried_high × DrawIs uncarried_low 2 × DrawIs uncarried_high 9

-- ---- that accepted shares are true cannot be dropped: all dealings are carried, and the draws are 2 and 9
abbrev pub TrueNeeded : Type 0
TrueNeeded = Compared silent_board forged_board × EachCarried silent_board × EachCarried forged_board × DrawIs silent_board 2 × DrawIs forged_board 9

-- ---- added shares: the conditions are met where the first dealer is silent and his dealing is stuck, and the draw is 2 too
pub record AddedMet : Type 0 where
  pub added : AddedTrue judges small added_board polynomial_of
  pub same : SameDealings judges small small opened_board added_board
  pub count : 2 ≤ length (accepted_dealers judges small added_board)
  pub draw : DrawIs added_board 2
  -- the commitments multiplied, which 9 + 9 times the member number carries
  pub multiplied-vs : multiplied judges small added_board v_in ≡ 8 ∷ 12 ∷ 18 ∷ 4 ∷ []
  pub sum_carries : Carries small (9 ∷ 9 ∷ []) (8 ∷ 12 ∷ 18 ∷ 4 ∷ [])

-- all conditions on a board that ends by added shares but that these are true
pub record OtherAdded (b : List ℕ) : Type 0 where
  pub reached : Met (board_checks small b)
  pub carried : EachCarried b
  pub stuck : SomeStuck judges small b
  pub enough : 2 ≤ length (added_by judges small b)

-- that added shares are true cannot be dropped: the draws are 2 and 9
abbrev pub AddedTrueNeeded : Type 0
AddedTrueNeeded =
    OtherAdded added_board × OtherAdded forged_added × SameDealings judges small small added_board forged_added × DrawIs added_board 2 × DrawIs forged_added 9
