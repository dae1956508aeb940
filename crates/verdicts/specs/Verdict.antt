-- The verdict on each dealer, by the two judges.
use Rattle.std.specs.Prelude.{Bool, true, false, ◌&&◌, List, ℕ, ltb, eqb, Ok, Err, is_ok}
use Rattle.words.specs.Choice.{pick}
use Rattle.words.specs.Lists.{map}
use Rattle.words.specs.Checks.{Outcome}
use Rattle.words.specs.Bytes.{records_in, record_at}
use Rattle.group.specs.Power.{pow}
use Rattle.group.specs.declared.Element.{Element}
use Rattle.sharing.specs.Setting.{members}
use Rattle.sharing.specs.Answer.{opening_in}
use Rattle.sharing.specs.declared.Setting.{Setting}
use Rattle.records.specs.Layout.{u_of}
use Rattle.lines.specs.Lines.{vs_in, Y_in}
use Rattle.share.specs.Share.{opened_form}
use Rattle.board.specs.Board.{keys_in, line_count, lines_of, opening_place}
use Rattle.verdicts.specs.Shares.{Judges, is_share_in, shares_in, from_lowest}
use Rattle.verdicts.specs.declared.Secret.{Secret}
use Rattle.verdicts.specs.declared.Secret.TheVariants.{Opened, Recovered, Stuck}
use Rattle.verdicts.specs.declared.Verdict.{Verdict}
use Rattle.verdicts.specs.declared.Verdict.TheVariants.{None, Refused, Accepted}
use Rattle.words.specs.declared.refusal.Refusal.TheVariants.{Incomplete}

-- ---- one dealer's dealing
-- what the judge of dealings answers for his lines and the board's keys
abbrev pub dealing_answer : Judges → Setting → List ℕ → ℕ → Outcome (Unit {0})
dealing_answer J S b d = J.dealing S d (keys_in S.n b) (lines_of b d)

-- he has n lines that the judge of dealings accepts
unfoldable pub is_accepted : Judges → Setting → List ℕ → ℕ → Bool
is_accepted J S b d = eqb (line_count b d) S.n && is_ok (dealing_answer J S b d)

-- the commitments in his lines
abbrev pub commitments_of : Setting → List ℕ → ℕ → List ℕ
commitments_of S b d = vs_in S.n (lines_of b d)

-- the encrypted shares in them
unfoldable pub encrypted_of : Setting → List ℕ → ℕ → List ℕ
encrypted_of S b d = map (Y_in (lines_of b d)) (members S.n)

-- ---- his accepted shares
-- the record i is an opened share of the dealer d that the judge of shares accepts, with the Y of its member's line
abbrev pub is_share_by : Judges → Setting → List ℕ → ℕ → ℕ → Bool
is_share_by J S b d i = is_share_in J S b (opened_form d) (encrypted_of S b d) i

abbrev pub shares_by : Judges → Setting → List ℕ → ℕ → List ℕ
shares_by J S b d = shares_in J S b (opened_form d) (encrypted_of S b d)

-- ---- how the secret of an accepted dealing came
abbrev pub secret_from : Outcome Element → Secret
secret_from (Ok v) = Recovered v
secret_from (Err k) = Stuck

-- from the t lowest members with accepted shares, stuck where there are fewer
unfoldable pub from_shares : Judges → Setting → List ℕ → ℕ → Secret
from_shares J S b d = secret_from (from_lowest S b (shares_by J S b d))

-- his opening, where there is one, is accepted for his commitments
unfoldable pub is_opened : Setting → List ℕ → ℕ → Bool
is_opened S b d =
    ltb (opening_place b d) (records_in b)
    && is_ok (opening_in S (commitments_of S b d) (u_of (record_at b (opening_place b d))))

-- a right opening counts first
unfoldable pub secret_by : Judges → Setting → List ℕ → ℕ → Secret
secret_by J S b d =
    pick (is_opened S b d)
    (Opened (record { 0 = pow S.group.p S.group.h.0 (u_of (record_at b (opening_place b d))) }))
    (from_shares J S b d)

-- ---- the verdict: none without lines, 12 with some but not n, else what the judge of dealings answers
abbrev pub verdict_from : Outcome (Unit {0}) → Secret → Verdict
verdict_from (Ok u) s = Accepted s
verdict_from (Err k) s = Refused k

unfoldable pub verdict_on : Judges → Setting → List ℕ → ℕ → Verdict
verdict_on J S b d =
    pick (eqb (line_count b d) 0) None
    (pick (eqb (line_count b d) S.n) (verdict_from (dealing_answer J S b d) (secret_by J S b d)) (Refused Incomplete))

-- accepted and stuck
abbrev pub is_stuck : Verdict → Bool
is_stuck None = false
is_stuck (Refused k) = false
is_stuck (Accepted (Opened v)) = false
is_stuck (Accepted (Recovered v)) = false
is_stuck (Accepted Stuck) = true

abbrev pub verdicts_on : Judges → Setting → List ℕ → List Verdict
verdicts_on J S b = map (verdict_on J S b) (members S.n)
