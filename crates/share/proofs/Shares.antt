-- Shares, opened or added: accepted exactly if their figures are proper and the challenge is the recomputed one, and what is written is
-- accepted.
-- The response gives back the announcements of the nonce, so the challenge is recomputed over the same message.
use mathlib.Core.Path.{◌≡◌, refl, sym, ap, ◌∙◌, subst}
use mathlib.Core.Bool.{Bool, true}
use mathlib.Core.List.{List, ◌++◌}
use mathlib.Core.Logic.{inl, inr}
use Prim.Native.Nat.{ℕ, ◌^◌, ◌<◌}
use native.Mathlib.Omega.{arith}
use borrow.Author.Tests.{ne_eqb}
use lib.ListN.{length}
use Rattle.words.specs.Lists.{Below}
use Rattle.words.specs.Checks.{Check, Met, FirstUnmet}
use Rattle.words.specs.Bytes.{record_words, record_in}
use Rattle.words.specs.declared.Record.{Record}
use Rattle.words.proofs.Checks.{value-exactly, refused-exactly, if-met, if-unmet}
use Rattle.words.proofs.Stages.{both-met, met-both, rest-outcome, rest-first, front-outcome}
use Rattle.words.proofs.Bytes.{record-length, read_back}
use Rattle.field.specs.Residue.{inv}
use Rattle.group.specs.Power.{pow}
use Rattle.group.specs.Element.{is_element}
use Rattle.group.specs.declared.Element.{Element}
use Rattle.group.specs.declared.Group.{Group}
use Rattle.group.proofs.Elements.{power-element}
use Rattle.sharing.specs.Setting.{ProperSetting, takes_whole, setting_in, in_round, with_numbers, round_figures, round_checks, judged, judged_else}
use Rattle.sharing.specs.declared.Round.{Round}
use Rattle.sharing.specs.declared.Setting.{Setting}
use Rattle.sharing.proofs.Rounds.{round-proper, judged-in, judged-else-in, judged-exactly, member-word, element-word, exponent-word}
use Rattle.records.specs.Layout.{round_of, Z_of}
use Rattle.challenge.specs.Message.{challenge_of, share_message}
use Rattle.equality.specs.Equality.{announced, response}
use Rattle.share.specs.declared.ShareForm.{ShareForm}
use Rattle.share.specs.Share.{key_of, share_of, written_share_c, written_share_record, written_share, write_share_checks, write_share_in, write_share_outcome, lent_after_share_in, lent_after_share}
use Rattle.share.specs.Share.{members_checks, share_input_checks, share_form_checks, share_recomputed, share_admission_checks, share_figure_checks, judge_share_checks, judge_share_figures_in, judge_share_in, judge_share_outcome}
use Rattle.share.specs.Claims.{AcceptedShare, ShareExactly, FiguresDecide, ShareOfOtherRound, ShareComplete, ShareForOtherRound, LentShare, LentShareKept, SharesByRound}
use Rattle.words.proofs.Records.{laid-agrees}
use Rattle.challenge.proofs.Challenges.{challenge-low}
use Rattle.equality.proofs.Equal.{response-low, announced-back}
use Rattle.share.proofs.Settled.{dealer-most, WritableShare, admission-exactly, admission-stages, figures-exactly, write-settled}
use Rattle.share.proofs.Keys.{h-element, key-proper, share-to-x}
use Rattle.std.specs.Prelude.{Ok, Err}
use Rattle.words.specs.declared.refusal.Refusal.TheVariants.{OtherRound}

-- ---- judged
pub share-exactly : ShareExactly
unfolding judge_share_in
share-exactly S F i y Y b =
    let r = record_in b in
    let front = share_admission_checks S F i y Y b in
    let figures = share_figure_checks S F i y Y r in
    let all-met = value-exactly Element (front ++ figures) (record { 0 = Z_of r }) in (
      λ e.
          let m = met-both front figures (all-met.0 e) in
          record { admitted = (admission-exactly S F i y Y b).0 m.0; holds = (figures-exactly S F i y Y r).0 m.1 },
      λ A. all-met.1 (both-met front figures ((admission-exactly S F i y Y b).1 A.admitted) ((figures-exactly S F i y Y r).1 A.holds)),
    )

pub share-of-other-round : ShareOfOtherRound
unfolding judge_share_in share_admission_checks share_form_checks
share-of-other-round S F i y Y b before n =
    let r = record_in b in
    let numbers = members_checks S F i in
    let inputs = share_input_checks S.group y Y b in
    let round : FirstUnmet OtherRound (share_form_checks S.round F i r) = inr (before.form, inl (ne_eqb (round_of r) S.round n, refl)) in
    let met = both-met numbers inputs before.numbers before.inputs in
    let front = rest-first (numbers ++ inputs) (share_form_checks S.round F i r) OtherRound met round in
    sym (front-outcome (share_admission_checks S F i y Y b) (share_figure_checks S F i y Y r) OtherRound front (record { 0 = Z_of r }))

pub figures-decide : FiguresDecide
unfolding judge_share_in judge_share_figures_in
figures-decide S F i y Y b A =
    rest-outcome (share_admission_checks S F i y Y b) (share_figure_checks S F i y Y (record_in b)) ((admission-exactly S F i y Y b).1 A) (record { 0 = Z_of (record_in b) })

-- ---- written
module _ (S : Setting) (P : ProperSetting S) (word : S.round < 2 ^ 32) (F : ShareForm) (kind : F.kind < 2 ^ 32) (i Y x w room : ℕ) (W : WritableShare S F i Y x w room) where
  abbrev G : Group
  G = S.group

  abbrev Z : ℕ
  Z = share_of G Y x

  abbrev y : ℕ
  y = key_of G x

  abbrev c : ℕ
  c = written_share_c S F i Y x w

  abbrev written : Record
  written = written_share_record S F i Y x w

  Z-element : is_element G Z ≡ true
  unfolding share_of
  Z-element = power-element G P.proper Y (inv G.q x) W.Y-element

  c-low : c < G.q
  unfolding written_share_c
  c-low = challenge-low S P _

  -- the announcements are those of the nonce
  announced-h : announced G G.h.0 y c (response G w c x) ≡ pow G.p G.h.0 w
  unfolding key_of
  announced-h = announced-back G P.proper G.h.0 w c x (h-element G P.proper)

  announced-Z : announced G Z Y c (response G w c x) ≡ pow G.p Z w
  announced-Z =
      ap (λ (v : ℕ). announced G Z v c (response G w c x)) (sym (share-to-x G P.proper x W.x-some W.x-low Y W.Y-element))
      ∙ announced-back G P.proper Z w c x Z-element

  recomputed-same : share_recomputed S F i y Y written ≡ c
  unfolding share_recomputed written_share_record written_share_c
  recomputed-same = λ j. challenge_of S (share_message F.tag S F.dealer i y Y Z (announced-h j) (announced-Z j))

  written-proper : AcceptedShare S F i y Y (written_share S F i Y x w) written
  unfolding written_share written_share_record
  written-proper =
      record {
        admitted =
            record {
              dealer = W.dealer;
              member = W.member;
              size = record-length written;
              key = key-proper G P.proper x W.x-some W.x-low;
              Y-element = W.Y-element;
              kind = laid-agrees written;
              dealer-word = refl;
              member-word = refl;
              round = refl;
            };
        holds = record { Z-element = Z-element; c-low = c-low; r-low = response-low G P.proper w c x; challenge = sym recomputed-same };
      }

  words : Below (2 ^ 32) (record_words written)
  unfolding written_share_record
  words =
      let spare : 0 < 2 ^ 32 = omega arith in
      let r-low = response-low G P.proper w c x in (
        kind,
        (
          member-word P F.dealer (dealer-most S.n F W.dealer),
          (
            member-word P i W.member.1,
            (
              element-word P Z Z-element,
              (exponent-word P c c-low, (exponent-word P (response G w c x) r-low, (spare, (word, tt)))),
            ),
          ),
        ),
      )

  read-written : record_in (written_share S F i Y x w) ≡ written
  unfolding written_share
  read-written = read_back written words

  pub written-accepted : judge_share_in S F i y Y (written_share S F i Y x w) ≡ Ok (record { 0 = Z })
  unfolding written_share_record
  written-accepted =
      let b : List ℕ = written_share S F i Y x w in
      (share-exactly S F i y Y b).1 (subst (AcceptedShare S F i y Y b) (sym read-written) written-proper)
      ∙ ap (λ (r : Record). Ok (record { 0 = Z_of r })) read-written

  -- in the round of another number, under either rule
  pub refused-elsewhere : (round : ℕ) → (round ≡ S.round → ⊥) → (whole : Bool)
      → judge_share_in (in_round round whole S) F i y Y (written_share S F i Y x w) ≡ Err OtherRound
  unfolding members_checks written_share_record
  refused-elsewhere round n whole =
      let b : List ℕ = written_share S F i Y x w in
      let A = (subst (AcceptedShare S F i y Y b) (sym read-written) written-proper).admitted in
      let m = admission-stages S F i y Y b A in
      share-of-other-round (in_round round whole S) F i y Y b (record { numbers = m.numbers; inputs = m.inputs; form = m.form })
      (λ e. n (sym e ∙ A.round))

pub share-complete : ShareComplete
unfolding write_share_in
share-complete S P k F l i Y x w e =
    written-accepted S P k F l i Y x w 32 (write-settled S F i Y x w 32 ((value-exactly Unit (write_share_checks S F i Y x w 32) tt).0 e))

pub share-for-other-round : ShareForOtherRound
unfolding write_share_in
share-for-other-round S P k F l i Y x w e =
    refused-elsewhere S P k F l i Y x w 32 (write-settled S F i Y x w 32 ((value-exactly Unit (write_share_checks S F i Y x w 32) tt).0 e))

-- ---- the lent bytes
pub lent-share : LentShare
unfolding write_share_in lent_after_share_in
lent-share S P k F l i Y x w out e =
    let checks = write_share_checks S F i Y x w (length out) in
    let m = (value-exactly Unit checks tt).0 e in
    ap (judge_share_in S F i (key_of S.group x) Y) (if-met (written_share S F i Y x w) out checks m)
    ∙ written-accepted S P k F l i Y x w (length out) (write-settled S F i Y x w (length out) m)

pub lent-share-kept : LentShareKept
unfolding write_share_in lent_after_share_in
lent-share-kept S F i Y x w out k e =
    let checks = write_share_checks S F i Y x w (length out) in
    if-unmet (written_share S F i Y x w) out checks k ((refused-exactly Unit checks tt k).0 e)

-- ---- over a table and a round: what is written over them, and judged over them or in a round of other numbers
module _ (T : List ℕ) (R : Round) (F : ShareForm) (i Y x w : ℕ) (out : List ℕ) (e : write_share_outcome T R F i Y x w (length out) ≡ Ok tt) where
  abbrev within : Setting
  within = setting_in T R

  abbrev key : ℕ
  key = key_of within.group x

  abbrev checks : Setting → List Check
  checks S = write_share_checks S F i Y x w (length out)

  settled : Met (round_checks T R) × Met (checks within)
  unfolding write_share_outcome
  settled = let s = (judged-exactly T R checks (λ S. tt) tt).0 e in (s.0, (value-exactly Unit (checks within) tt).0 s.1)

  share-written : lent_after_share T R F i Y x w out ≡ written_share within F i Y x w
  unfolding lent_after_share
  share-written =
      judged-else-in T R checks (λ S. written_share S F i Y x w) settled.0 out
      ∙ if-met (written_share within F i Y x w) out (checks within) settled.1

  judged-written : (Q : Round) → Met (round_checks T Q)
      → judge_share_outcome T Q F i key Y (lent_after_share T R F i Y x w out) ≡ judge_share_in (setting_in T Q) F i key Y (written_share within F i Y x w)
  unfolding judge_share_outcome judge_share_in
  judged-written Q m =
      let b = lent_after_share T R F i Y x w out in
      judged-in T Q (λ S. judge_share_checks S F i key Y b) (λ S. record { 0 = Z_of (record_in b) }) m
      ∙ ap (judge_share_in (setting_in T Q) F i key Y) share-written

  module _ (word : R.round < 2 ^ 32) (kind : F.kind < 2 ^ 32) where
    abbrev proper : ProperSetting within
    proper = round-proper T R settled.0

    abbrev figures : WritableShare within F i Y x w (length out)
    figures = write-settled within F i Y x w (length out) settled.1

    complete : judge_share_outcome T R F i key Y (lent_after_share T R F i Y x w out) ≡ Ok (record { 0 = share_of within.group Y x })
    complete = judged-written R settled.0 ∙ written-accepted within proper word F kind i Y x w (length out) figures

    for-other-round : (round first : ℕ) → (round ≡ R.round → ⊥)
        → judge_share_outcome T (with_numbers round first R) F i key Y (lent_after_share T R F i Y x w out) ≡ Err OtherRound
    unfolding round_checks round_figures
    for-other-round round first n =
        judged-written (with_numbers round first R) settled.0
        ∙ refused-elsewhere within proper word F kind i Y x w (length out) figures round n (takes_whole first round)

pub shares-by-round : SharesByRound
unfolding judge_share_outcome judge_share_in write_share_outcome write_share_in lent_after_share lent_after_share_in judged judged_else
shares-by-round T R =
    record {
      accepted = λ F i y Y b. judged-exactly T R (λ S. judge_share_checks S F i y Y b) (λ S. record { 0 = Z_of (record_in b) });
      written = λ F i Y x w room. judged-exactly T R (λ S. write_share_checks S F i Y x w room) (λ S. tt) tt;
      lent = λ F i Y x w out m. judged-else-in T R (λ S. write_share_checks S F i Y x w (length out)) (λ S. written_share S F i Y x w) m out;
      kept = λ F i Y x w out k e.
          let checks = round_checks T R ++ write_share_checks (setting_in T R) F i Y x w (length out) in
          if-unmet (written_share (setting_in T R) F i Y x w) out checks k ((refused-exactly Unit checks tt k).0 e);
      complete = λ k F l i Y x w out e. complete T R F i Y x w out e k l;
      for-other-round = λ k F l i Y x w out e. for-other-round T R F i Y x w out e k l;
      of-other-round = λ m F i y Y b before n.
          judged-in T R (λ S. judge_share_checks S F i y Y b) (λ S. record { 0 = Z_of (record_in b) }) m
          ∙ share-of-other-round (setting_in T R) F i y Y b before n;
    }
