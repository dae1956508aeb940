-- What the stages of a share settle, and back.
use mathlib.Core.Path.{◌≡◌, refl}
use mathlib.Core.Bool.{Bool, true, false}
use mathlib.Core.List.{List, ◌++◌}
use mathlib.Core.Logic.{◌↔◌}
use Prim.Native.Nat.{ℕ, ◌≤◌, ◌<◌}
use native.Mathlib.Omega.{arith}
use borrow.Author.Tests.{eqb-true, eq-eqb, leb-true, ltb-true}
use lib.Dec.{leb, eqb}
use lib.ListN.{length}
use Rattle.words.specs.Choice.{pick}
use Rattle.words.specs.Checks.{Met, outcome}
use Rattle.words.specs.Bytes.{record_in}
use Rattle.words.specs.declared.Record.{Record}
use Rattle.words.proofs.Tests.{and-true, true-and, equal-true, true-equal}
use Rattle.words.proofs.Stages.{both-met, met-both, stage-met}
use Rattle.group.specs.Element.{is_element, is_exponent}
use Rattle.group.proofs.Elements.{exponent-true, true-exponent}
use Rattle.sharing.specs.Setting.{is_member}
use Rattle.sharing.specs.declared.Setting.{Setting}
use Rattle.sharing.proofs.EachMember.{member-exactly}
use Rattle.records.specs.Layout.{added_kind, is_share_record, dealer_of, member_of, round_of, share_c, share_r}
use Rattle.records.specs.Keys.{is_key, is_secret_key}
use Rattle.share.specs.declared.ShareForm.{ShareForm}
use Rattle.share.specs.Share.{is_dealer, members_checks, write_share_checks, share_input_checks, share_form_checks, share_admission_checks, share_figure_checks}
use Rattle.std.specs.Prelude.{Ok}
use Rattle.share.specs.Claims.{NumbersByForm, AdmittedShare, ShareHolds, ShareUpToRound}

-- ---- dealer and member
pub numbers-by-form : NumbersByForm
unfolding members_checks is_dealer
numbers-by-form S i = record { opened = λ d. refl; added = refl }

members-exactly : (S : Setting) (F : ShareForm) (i : ℕ) → Met (members_checks S F i) ↔ ((is_dealer S.n F ≡ true) × ((1 ≤ i) × (i ≤ S.n)))
unfolding members_checks
members-exactly S F i = (
  λ m. let s = and-true (is_dealer S.n F) _ m.0 in (s.0, (member-exactly S.n i).0 s.1),
  λ s. (true-and (is_dealer S.n F) _ s.0 ((member-exactly S.n i).1 s.1), tt),
)

pub dealer-most : (n : ℕ) (F : ShareForm) → is_dealer n F ≡ true → F.dealer ≤ n
unfolding is_dealer
dealer-most n F = by_kind (eqb F.kind added_kind)
  where
    by_kind : (x : Bool) → pick x (eqb F.dealer 0) (is_member n F.dealer) ≡ true → F.dealer ≤ n
    by_kind true e = omega (arith, eqb-true F.dealer 0 e)
    by_kind false e = ((member-exactly n F.dealer).0 e).1

-- ---- all before the figures
module _ (S : Setting) (F : ShareForm) (i y Y : ℕ) (b : List ℕ) where
  -- the stages of it, but for the round
  pub admission-stages : AdmittedShare S F i y Y b (record_in b) → ShareUpToRound S F i y Y b
  unfolding share_input_checks
  admission-stages A =
      let r = record_in b in
      record {
        numbers = (members-exactly S F i).1 (A.dealer, A.member);
        inputs = (eq-eqb (length b) 32 A.size, (true-and (is_key S.group y) _ A.key A.Y-element, tt));
        form =
            true-and (is_share_record F.kind r) _ A.kind (true-equal (dealer_of r) F.dealer (member_of r) i A.dealer-word A.member-word);
      }

  pub admission-exactly : Met (share_admission_checks S F i y Y b) ↔ AdmittedShare S F i y Y b (record_in b)
  unfolding share_admission_checks share_input_checks share_form_checks
  admission-exactly =
      let r = record_in b in
      let numbers = members_checks S F i in
      let inputs = share_input_checks S.group y Y b in
      let form = share_form_checks S.round F i r in (
        λ m.
            let behind = met-both (numbers ++ inputs) form m in
            let front = met-both numbers inputs behind.0 in
            let within = (members-exactly S F i).0 front.0 in
            let elements = and-true (is_key S.group y) _ front.1.1.0 in
            let laid = and-true (is_share_record F.kind r) _ behind.1.0 in
            let posted = equal-true (dealer_of r) F.dealer (member_of r) i laid.1 in
            record {
              dealer = within.0;
              member = within.1;
              size = eqb-true (length b) 32 front.1.0;
              key = elements.0;
              Y-element = elements.1;
              kind = laid.0;
              dealer-word = posted.0;
              member-word = posted.1;
              round = eqb-true (round_of r) S.round behind.1.1.0;
            },
        λ A.
            let s = admission-stages A in
            both-met (numbers ++ inputs) form (both-met numbers inputs s.numbers s.inputs) (s.form, (eq-eqb (round_of r) S.round A.round, tt)),
      )

  pub admission-none : Ok tt ≡ outcome (share_admission_checks S F i y Y b) (tt {0}) → AdmittedShare S F i y Y b (record_in b)
  admission-none e = admission-exactly.0 (stage-met (share_admission_checks S F i y Y b) e)

-- ---- the figures
pub figures-exactly : (S : Setting) (F : ShareForm) (i y Y : ℕ) (r : Record) → Met (share_figure_checks S F i y Y r) ↔ ShareHolds S F i y Y r
unfolding share_figure_checks
figures-exactly S F i y Y r =
    let G = S.group in
    let c = share_c r in (
      λ m.
          let low = and-true (is_exponent G c) _ m.1.0 in
          record {
            Z-element = m.0;
            c-low = exponent-true G c low.0;
            r-low = exponent-true G (share_r r) low.1;
            challenge = eqb-true c _ m.1.1.0;
          },
      λ H.
          let low = true-and (is_exponent G c) _ (true-exponent G c H.c-low) (true-exponent G (share_r r) H.r-low) in
          (H.Z-element, (low, (eq-eqb c _ H.challenge, tt))),
    )

-- ---- what is asked of a share that is written
pub record WritableShare (S : Setting) (F : ShareForm) (i Y x w room : ℕ) : Type 0 where
  pub dealer : is_dealer S.n F ≡ true
  pub member : (1 ≤ i) × (i ≤ S.n)
  pub size : room ≡ 32
  pub Y-element : is_element S.group Y ≡ true
  pub x-some : 1 ≤ x
  pub x-low : x < S.group.q
  pub w-low : w < S.group.q

module _ (S : Setting) (F : ShareForm) (i Y x w room : ℕ) where
  pub write-settled : Met (write_share_checks S F i Y x w room) → WritableShare S F i Y x w room
  unfolding write_share_checks is_secret_key
  write-settled m =
      let s = met-both (members_checks S F i) _ m in
      let numbers = (members-exactly S F i).0 s.0 in
      let figures = s.1 in
      let low = and-true (is_secret_key S.group x) _ figures.1.1.0 in
      let secret = and-true (leb 1 x) _ low.0 in
      record {
        dealer = numbers.0;
        member = numbers.1;
        size = eqb-true room 32 figures.0;
        Y-element = figures.1.0;
        x-some = leb-true 1 x secret.0;
        x-low = ltb-true x S.group.q secret.1;
        w-low = exponent-true S.group w low.1;
      }
