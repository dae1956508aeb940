-- A dealer's accepted lines, and a share and its form, as the functions below a verdict ask for them.
use Rattle.std.specs.Prelude.{◌≡◌, true, List, ◌⊎◌, ℕ, ◌<◌, length, Ok}
use Rattle.words.specs.Lists.{all}
use Rattle.words.specs.Checks.{Met}
use Rattle.words.specs.Bytes.{records_in, record_at}
use Rattle.group.specs.Element.{is_element}
use Rattle.sharing.specs.Setting.{ProperSetting}
use Rattle.sharing.specs.declared.Setting.{Setting}
use Rattle.records.specs.Layout.{share_kind, added_kind, dealer_of}
use Rattle.share.specs.Share.{is_dealer}
use Rattle.share.specs.declared.ShareForm.{ShareForm}
use Rattle.board.specs.Board.{board_checks}
use Rattle.verdicts.specs.Shares.{judges}
use Rattle.verdicts.specs.Verdict.{dealing_answer}

-- in a proper setting verdicts are reached, and the judge of dealings accepts the lines of the dealer d
pub record LinesOn (S : Setting) (b : List ℕ) (d : ℕ) : Type 0 where
  pub proper : ProperSetting S
  pub reached : Met (board_checks S b)
  pub accepted : dealing_answer judges S b d ≡ Ok tt

-- in a proper setting verdicts are reached, the form is one of the two, and there is an element for each member
pub record SharesOn (S : Setting) (b : List ℕ) (F : ShareForm) (Ys : List ℕ) : Type 0 where
  pub proper : ProperSetting S
  pub reached : Met (board_checks S b)
  pub kind : (F.kind ≡ share_kind) ⊎ (F.kind ≡ added_kind)
  pub dealer : is_dealer S.n F ≡ true
  pub size : length Ys ≡ S.n
  pub elements : all (is_element S.group) Ys ≡ true

-- the record i is a share in this form
pub record ShareOf (b : List ℕ) (F : ShareForm) (i : ℕ) : Type 0 where
  pub inside : i < records_in b
  pub kind : (record_at b i).w0 ≡ F.kind
  pub dealer : dealer_of (record_at b i) ≡ F.dealer
