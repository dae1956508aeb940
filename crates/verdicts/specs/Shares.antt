-- Accepted shares in a form, and what the t lowest members who have one recover. The judges are a parameter: nothing here depends on how
-- they work.
use Rattle.std.specs.Prelude.{Bool, ◌&&◌, List, [], ◌∷◌, ℕ, ◌*◌, length, take, drop, leb, eqb, is_ok}
use Rattle.words.specs.Lists.{map, up_from, entry}
use Rattle.words.specs.Checks.{◌unless◌, Outcome, outcome}
use Rattle.words.specs.Bytes.{records_in, record_at}
use Rattle.group.specs.declared.Element.{Element}
use Rattle.group.specs.declared.Group.{Group}
use Rattle.sharing.specs.Answer.{recovered}
use Rattle.sharing.specs.declared.Setting.{Setting}
use Rattle.records.specs.Layout.{dealer_of, member_of, Z_of}
use Rattle.dealing.specs.Dealing.{judge_dealing_in}
use Rattle.share.specs.Share.{judge_share_in}
use Rattle.share.specs.declared.ShareForm.{ShareForm}
use Rattle.board.specs.Search.{filter}
use Rattle.board.specs.Board.{key_in}
use Rattle.words.specs.declared.refusal.Refusal.TheVariants.{StillStuck}

-- the judge of dealings, of setting, dealer, keys and lines; the judge of shares, of setting, form, member, y, Y and record
pub record Judges : Type 0 where
  pub dealing : Setting → ℕ → List ℕ → List ℕ → Outcome (Unit {0})
  pub share : Setting → ShareForm → ℕ → ℕ → ℕ → List ℕ → Outcome Element

-- the judges of this repository, of the crates dealing and share
abbrev pub judges : Judges
judges = record { dealing = judge_dealing_in; share = judge_share_in }

-- ---- the shares of a form F, with the encrypted shares Ys of the members
-- what the judge of shares answers for the record i with the key of its member and his encrypted share
unfoldable pub share_answer : Judges → Setting → List ℕ → ShareForm → List ℕ → ℕ → Outcome Element
share_answer J S b F Ys i =
    let m = member_of (record_at b i) in
    J.share S F m (key_in b m) (entry Ys m) (take 32 (drop (32 * i) b))

-- the record i is an accepted one
unfoldable pub is_share_in : Judges → Setting → List ℕ → ShareForm → List ℕ → ℕ → Bool
is_share_in J S b F Ys i =
    eqb (record_at b i).w0 F.kind && (eqb (dealer_of (record_at b i)) F.dealer && is_ok (share_answer J S b F Ys i))

-- the records of the accepted ones, by ascending member
unfoldable pub shares_in : Judges → Setting → List ℕ → ShareForm → List ℕ → List ℕ
shares_in J S b F Ys = filter (is_share_in J S b F Ys) (up_from 0 (records_in b))

-- ---- recovery
-- from the shares in the records is
abbrev pub recovered_from : Group → List ℕ → List ℕ → ℕ
recovered_from G b is = recovered G (map (λ i. member_of (record_at b i)) is) (map (λ i. Z_of (record_at b i)) is)

-- from the first t of them, refused by 13 where there are fewer
unfoldable pub from_lowest : Setting → List ℕ → List ℕ → Outcome Element
from_lowest S b is = outcome (StillStuck unless leb S.t (length is) ∷ []) (record { 0 = recovered_from S.group b (take S.t is) })
