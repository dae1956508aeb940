-- A decrypted share as it is written and as it is judged: in a setting, and over a round, whose own checks come first. Its form says
-- whether it is an opened share, of one dealing, or an added share, of all accepted dealings of a board together.
-- The decrypted share, the paper's S, is Z here, for S is the setting.
use Rattle.std.specs.Prelude.{Bool, ◌&&◌, List, [], ◌∷◌, ◌++◌, ℕ, length, eqb}
use Rattle.words.specs.Choice.{pick}
use Rattle.words.specs.Checks.{Check, ◌unless◌, Outcome, outcome, if_met}
use Rattle.words.specs.Bytes.{record_bytes, record_in}
use Rattle.words.specs.declared.Record.{Record}
use Rattle.field.specs.Residue.{inv}
use Rattle.group.specs.Power.{pow}
use Rattle.group.specs.Element.{is_element, is_exponent}
use Rattle.group.specs.declared.Element.{Element}
use Rattle.group.specs.declared.Group.{Group}
use Rattle.sharing.specs.Setting.{judged, judged_else, is_member}
use Rattle.sharing.specs.declared.Round.{Round}
use Rattle.sharing.specs.declared.Setting.{Setting}
use Rattle.records.specs.Layout.{share_kind, added_kind, share_layout, is_share_record, is_of_round, dealer_of, member_of, Z_of, share_c, share_r}
use Rattle.records.specs.Keys.{is_key, is_secret_key}
use Rattle.challenge.specs.Message.{challenge_of, share_message, share_tag, added_tag}
use Rattle.equality.specs.Equality.{announced, response}
use Rattle.share.specs.declared.ShareForm.{ShareForm}
use Rattle.words.specs.declared.refusal.Refusal.TheVariants.{BadLength, BadForm, NoElement, NoExponent, NoMember, ProofFails, OtherRound}

-- ---- forms
-- a share of the dealing of d
abbrev pub opened_form : ℕ → ShareForm
opened_form d = record { tag = share_tag; kind = share_kind; dealer = d }

-- a share of all accepted dealings together, which has no dealer
abbrev pub added_form : ShareForm
added_form = record { tag = added_tag; kind = added_kind; dealer = 0 }

-- the dealer is a member, and 0 of an added share
unfoldable pub is_dealer : ℕ → ShareForm → Bool
is_dealer n F = pick (eqb F.kind added_kind) (eqb F.dealer 0) (is_member n F.dealer)

-- the dealer is one, and i is a member
unfoldable pub members_checks : Setting → ShareForm → ℕ → List Check
members_checks S F i = NoMember unless (is_dealer S.n F && is_member S.n i) ∷ []

-- ---- written: from Y, the secret key x and the nonce w
-- the key of a secret key
unfoldable pub key_of : Group → ℕ → ℕ
key_of G x = pow G.p G.h.0 x

-- Z = Y^(1/x)
unfoldable pub share_of : Group → ℕ → ℕ → ℕ
share_of G Y x = pow G.p Y (inv G.q x)

-- the challenge over the announcements h^w and Z^w
unfoldable pub written_share_c : Setting → ShareForm → ℕ → ℕ → ℕ → ℕ → ℕ
written_share_c S F i Y x w =
    let G = S.group in
    let Z = share_of G Y x in
    challenge_of S (share_message F.tag S F.dealer i (key_of G x) Y Z (pow G.p G.h.0 w) (pow G.p Z w))

unfoldable pub written_share_record : Setting → ShareForm → ℕ → ℕ → ℕ → ℕ → Record
written_share_record S F i Y x w =
    let c = written_share_c S F i Y x w in
    share_layout F.kind F.dealer i (share_of S.group Y x) c (response S.group w c x) S.round

unfoldable pub written_share : Setting → ShareForm → ℕ → ℕ → ℕ → ℕ → List ℕ
written_share S F i Y x w = record_bytes (written_share_record S F i Y x w)

-- with room for so many bytes
unfoldable pub write_share_checks : Setting → ShareForm → ℕ → ℕ → ℕ → ℕ → ℕ → List Check
write_share_checks S F i Y x w room =
    members_checks S F i ++
    (BadLength unless eqb room 32
    ∷ NoElement unless is_element S.group Y
    ∷ NoExponent unless (is_secret_key S.group x && is_exponent S.group w)
    ∷ [])

unfoldable pub write_share_in : Setting → ShareForm → ℕ → ℕ → ℕ → ℕ → ℕ → Outcome (Unit {0})
write_share_in S F i Y x w room = outcome (write_share_checks S F i Y x w room) tt

unfoldable pub write_share_outcome : List ℕ → Round → ShareForm → ℕ → ℕ → ℕ → ℕ → ℕ → Outcome (Unit {0})
write_share_outcome T R F i Y x w room = judged T R (λ S. write_share_checks S F i Y x w room) (λ S. tt)

-- what the lent bytes hold afterwards
unfoldable pub lent_after_share_in : Setting → ShareForm → ℕ → ℕ → ℕ → ℕ → List ℕ → List ℕ
lent_after_share_in S F i Y x w out = if_met (write_share_checks S F i Y x w (length out)) (written_share S F i Y x w) out

unfoldable pub lent_after_share : List ℕ → Round → ShareForm → ℕ → ℕ → ℕ → ℕ → List ℕ → List ℕ
lent_after_share T R F i Y x w out = judged_else T R (λ S. write_share_checks S F i Y x w (length out)) (λ S. written_share S F i Y x w) out

-- ---- judged: the record r, with the key y of its member and the Y of that member's line
-- the challenge that the posted figures give
unfoldable pub share_recomputed : Setting → ShareForm → ℕ → ℕ → ℕ → Record → ℕ
share_recomputed S F i y Y r =
    let G = S.group in
    challenge_of S
    (share_message F.tag S F.dealer i y Y (Z_of r) (announced G G.h.0 y (share_c r) (share_r r)) (announced G (Z_of r) Y (share_c r) (share_r r)))

-- 32 bytes, a key and an element
unfoldable pub share_input_checks : Group → ℕ → ℕ → List ℕ → List Check
share_input_checks G y Y b = BadLength unless eqb (length b) 32 ∷ NoElement unless (is_key G y && is_element G Y) ∷ []

-- a record of a share of i in this form
abbrev pub is_share_for : ShareForm → ℕ → Record → Bool
is_share_for F i r = is_share_record F.kind r && (eqb (dealer_of r) F.dealer && eqb (member_of r) i)

-- and then of that round
unfoldable pub share_form_checks : ℕ → ShareForm → ℕ → Record → List Check
share_form_checks round F i r = BadForm unless is_share_for F i r ∷ OtherRound unless is_of_round round r ∷ []

-- all that comes before the figures: on a board it is settled before shares are judged
unfoldable pub share_admission_checks : Setting → ShareForm → ℕ → ℕ → ℕ → List ℕ → List Check
share_admission_checks S F i y Y b = members_checks S F i ++ share_input_checks S.group y Y b ++ share_form_checks S.round F i (record_in b)

unfoldable pub share_figure_checks : Setting → ShareForm → ℕ → ℕ → ℕ → Record → List Check
share_figure_checks S F i y Y r =
    NoElement unless is_element S.group (Z_of r)
    ∷ NoExponent unless (is_exponent S.group (share_c r) && is_exponent S.group (share_r r))
    ∷ ProofFails unless eqb (share_c r) (share_recomputed S F i y Y r)
    ∷ []

abbrev pub judge_share_checks : Setting → ShareForm → ℕ → ℕ → ℕ → List ℕ → List Check
judge_share_checks S F i y Y b = share_admission_checks S F i y Y b ++ share_figure_checks S F i y Y (record_in b)

-- an accepted share answers its Z
unfoldable pub judge_share_figures_in : Setting → ShareForm → ℕ → ℕ → ℕ → Record → Outcome Element
judge_share_figures_in S F i y Y r = outcome (share_figure_checks S F i y Y r) (record { 0 = Z_of r })

unfoldable pub judge_share_in : Setting → ShareForm → ℕ → ℕ → ℕ → List ℕ → Outcome Element
judge_share_in S F i y Y b = outcome (judge_share_checks S F i y Y b) (record { 0 = Z_of (record_in b) })

unfoldable pub judge_share_outcome : List ℕ → Round → ShareForm → ℕ → ℕ → ℕ → List ℕ → Outcome Element
judge_share_outcome T R F i y Y b = judged T R (λ S. judge_share_checks S F i y Y b) (λ S. record { 0 = Z_of (record_in b) })
