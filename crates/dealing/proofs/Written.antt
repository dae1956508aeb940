-- A written dealing: it reads back line by line, its polynomial carries it, and it is accepted with the same keys.
-- Each line's response gives back the announcements of its nonce, so the challenge is recomputed over the same message.
use mathlib.Core.Path.{◌≡◌, sym, ap, ◌∙◌, subst}
use mathlib.Core.Bool.{Bool, true}
use mathlib.Core.List.{List, ◌++◌}
use Prim.Native.Nat.{ℕ, ◌*◌, ◌^◌, ◌≤◌, ◌<◌}
use native.Mathlib.Omega.{arith}
use lib.ListN.{length}
use Rattle.words.specs.Lists.{Below, entry}
use Rattle.words.specs.Checks.{Check, Met}
use Rattle.words.specs.Bytes.{record_words}
use Rattle.words.specs.declared.Record.{Record}
use Rattle.words.proofs.Lists.{map_same, up-length, entry-all}
use Rattle.words.proofs.Tests.{true-equal}
use Rattle.words.proofs.Checks.{if-met, if-unmet, value-exactly, refused-exactly}
use Rattle.field.specs.Polynomial.{value_at}
use Rattle.group.specs.Power.{pow}
use Rattle.group.specs.Element.{is_element}
use Rattle.group.specs.declared.Group.{Group}
use Rattle.group.proofs.Elements.{generator-element, power-element}
use Rattle.sharing.specs.Setting.{ProperSetting, takes_whole, setting_in, in_round, with_numbers, round_figures, round_checks, judged, judged_else, members}
use Rattle.sharing.specs.Carried.{powers_at, Carries}
use Rattle.sharing.specs.declared.Round.{Round}
use Rattle.sharing.specs.declared.Setting.{Setting}
use Rattle.sharing.proofs.Rounds.{round-proper, proper-in-round, judged-in, judged-else-in, judged-exactly, member-word, element-word, exponent-word}
use Rattle.sharing.proofs.Degree.{passed-product}
use Rattle.sharing.proofs.Theorems.{carried-passes}
use Rattle.records.specs.Layout.{is_line_record, dealer_of, member_of, round_of, v_of, Y_of, r_of, c_of, member_record}
use Rattle.records.specs.Keys.{is_key}
use Rattle.words.proofs.Records.{laid-agrees}
use Rattle.sharing.proofs.EachMember.{each-members, member-exactly}
use Rattle.records.proofs.Posted.{records-length, record-back}
use Rattle.records.proofs.ProperKeys.{key-element}
use Rattle.challenge.proofs.Challenges.{challenge-low, check-polynomial}
use Rattle.equality.specs.Equality.{announced}
use Rattle.equality.proofs.Equal.{response-low, announced-back}
use Rattle.lines.specs.Lines.{address_checks, line_checks, v_in, Y_in, r_in, c_in, vs_in}
use Rattle.dealing.specs.Dealing.{judge_size_checks, written_v, written_Y, written_c, written_r, written_line, written_dealing, write_dealing_checks, write_dealing_in, write_dealing_outcome, lent_dealing_in, lent_dealing, judge_dealing_checks, judge_dealing_in, judge_dealing_outcome, recomputed}
use Rattle.dealing.specs.Claims.{Line, DegreeEquation, AcceptedDealing, DealingComplete, WrittenForOtherRound, WrittenCarried, SameCommitments, LentDealing, LentDealingKept, DealingByRound}
use Rattle.dealing.proofs.Entries.{challenge-same}
use Rattle.dealing.proofs.Settled.{WritableDealing, writable}
use Rattle.dealing.proofs.Judged.{accepts-dealing, posted-formed, dealing-of-other-round}
use Rattle.std.specs.Prelude.{Ok, Err}
use Rattle.words.specs.declared.refusal.Refusal.TheVariants.{OtherRound}
use Rattle.words.specs.declared.refusal.Refusal.{Refusal}

pub value-writable : (S : Setting) (d : ℕ) (ys f ws : List ℕ) (room : ℕ) → write_dealing_in S d ys f ws room ≡ Ok tt → WritableDealing S d ys f ws
unfolding write_dealing_in
value-writable S d ys f ws room e =
    (writable S d ys f ws room ((value-exactly Unit (write_dealing_checks S d ys f ws room) tt).0 e)).0

module _ (S : Setting) (P : ProperSetting S) (word : S.round < 2 ^ 32) (d : ℕ) (ys f ws : List ℕ) (W : WritableDealing S d ys f ws) where
  abbrev G : Group
  G = S.group

  abbrev bytes : List ℕ
  bytes = written_dealing S d ys f ws

  abbrev c : ℕ
  c = written_c S d ys f ws

  abbrev line : ℕ → Record
  line = written_line S d ys f ws c

  -- ---- proper figures
  g-element : is_element G G.g.0 ≡ true
  g-element = generator-element G P.proper G.g.0 P.proper.g-generates

  y-element : (i : ℕ) → 1 ≤ i → i ≤ S.n → is_element G (entry ys i) ≡ true
  y-element i h l =
      key-element G (entry ys i) (entry-all (λ y. is_key G y ≡ true) ys W.keys.keys i h (omega (arith, W.keys-size)))

  v-element : (i : ℕ) → is_element G (written_v G f i) ≡ true
  unfolding written_v
  v-element i = power-element G P.proper G.g.0 (value_at G.q f i) g-element

  Y-element : (i : ℕ) → 1 ≤ i → i ≤ S.n → is_element G (written_Y G ys f i) ≡ true
  unfolding written_Y
  Y-element i h l = power-element G P.proper (entry ys i) (value_at G.q f i) (y-element i h l)

  r-low : (i : ℕ) → written_r G f ws c i < G.q
  unfolding written_r
  r-low i = response-low G P.proper (entry ws i) c (value_at G.q f i)

  c-low : c < G.q
  unfolding written_c
  c-low = challenge-low S P _

  -- ---- each line reads back
  line-words : (i : ℕ) → 1 ≤ i → i ≤ S.n → Below (2 ^ 32) (record_words (line i))
  unfolding written_line
  line-words i h l =
      let kind : 2 < 2 ^ 32 = omega arith in
      let dealer = member-word P d W.dealer.1 in
      let member = member-word P i l in
      let v = element-word P (written_v G f i) (v-element i) in
      let Y = element-word P (written_Y G ys f i) (Y-element i h l) in
      let r = exponent-word P (written_r G f ws c i) (r-low i) in
      let low = exponent-word P c c-low in
      (kind, (dealer, (member, (v, (Y, (r, (low, (word, tt))))))))

  module _ (i : ℕ) (h : 1 ≤ i) (l : i ≤ S.n) where
    line-is : member_record bytes i ≡ line i
    unfolding written_dealing
    line-is = record-back line S.n i h l (line-words i h l)

    v-is : v_in bytes i ≡ written_v G f i
    unfolding v_in written_line
    v-is = ap (λ (r : Record). v_of r) line-is

    pub Y-is : Y_in bytes i ≡ written_Y G ys f i
    unfolding Y_in written_line
    Y-is = ap (λ (r : Record). Y_of r) line-is

    r-is : r_in bytes i ≡ written_r G f ws c i
    unfolding r_in written_line
    r-is = ap (λ (r : Record). r_of r) line-is

    c-is : c_in bytes i ≡ c
    unfolding c_in written_line
    c-is = ap (λ (r : Record). c_of r) line-is

    pub line-proper : Line S d bytes i
    unfolding written_line
    line-proper =
        record {
          kind = ap (λ (r : Record). is_line_record r) line-is ∙ laid-agrees (line i);
          dealer = ap (λ (r : Record). dealer_of r) line-is;
          member = ap (λ (r : Record). member_of r) line-is;
          round = ap (λ (r : Record). round_of r) line-is;
          v-element = ap (is_element G) v-is ∙ v-element i;
          Y-element = ap (is_element G) Y-is ∙ Y-element i h l;
          r-low = subst (λ (x : ℕ). x < G.q) (sym r-is) (r-low i);
          c-low = subst (λ (x : ℕ). x < G.q) (sym c-is) c-low;
        }

    -- the announcements are those of the nonce
    a1-is : announced G G.g.0 (v_in bytes i) (c_in bytes i) (r_in bytes i) ≡ pow G.p G.g.0 (entry ws i)
    unfolding written_v written_r
    a1-is =
        (λ j. announced G G.g.0 (v-is j) (c-is j) (r-is j))
        ∙ announced-back G P.proper G.g.0 (entry ws i) c (value_at G.q f i) g-element

    a2-is : announced G (entry ys i) (Y_in bytes i) (c_in bytes i) (r_in bytes i) ≡ pow G.p (entry ys i) (entry ws i)
    unfolding written_Y written_r
    a2-is =
        (λ j. announced G (entry ys i) (Y-is j) (c-is j) (r-is j))
        ∙ announced-back G P.proper (entry ys i) (entry ws i) c (value_at G.q f i) (y-element i h l)

  recomputed-is : recomputed S d ys (v_in bytes) (Y_in bytes) (r_in bytes) (c_in bytes) ≡ c
  unfolding recomputed written_c
  recomputed-is = challenge-same S d (record { at = v-is }) (record { at = Y-is }) (record { at = a1-is }) (record { at = a2-is })

  -- ---- the polynomial carries it, so that every check polynomial passes
  pub carries : Carries S f (vs_in S.n bytes)
  unfolding vs_in powers_at written_v
  carries =
      record {
        polynomial = W.polynomial;
        powers =
            map_same (v_in bytes) (written_v G f) (members S.n) (each-members (λ i. v_in bytes i ≡ written_v G f i) S.n v-is);
      }

  degree : DegreeEquation S d bytes
  degree =
      passed-product S (vs_in S.n bytes) _
      ((carried-passes S P f (vs_in S.n bytes) carries).1 _ (check-polynomial S P d (v_in bytes) (Y_in bytes)))

  size : length bytes ≡ 32 * S.n
  unfolding written_dealing
  size = records-length line (members S.n) ∙ ap (λ (n : ℕ). 32 * n) (up-length 1 S.n)

  written-accepted : AcceptedDealing S d ys bytes
  written-accepted =
      record {
        posted = record {
          dealer = W.dealer;
          keys-size = W.keys-size;
          keys = W.keys;
          size = size;
          lines = line-proper;
        };
        degree = degree;
        challenge = λ i h l. c-is i h l ∙ sym recomputed-is;
      }

  -- in the round of another number, under either rule
  pub refused-elsewhere : (round : ℕ) → (round ≡ S.round → ⊥) → (whole : Bool) → judge_dealing_in (in_round round whole S) d ys bytes ≡ Err OtherRound
  unfolding address_checks judge_size_checks line_checks
  refused-elsewhere round n whole =
      let some = P.n-positive in
      let F = posted-formed S d ys bytes written-accepted.posted in
      let sizes = true-equal (length ys) S.n (length bytes) (32 * S.n) F.keys-size F.size in
      dealing-of-other-round (in_round round whole S) d ys bytes
      (record { front = ((member-exactly S.n d).1 F.dealer, (sizes, tt)); keys = F.keys; form = F.lines.0 })
      1 (omega arith) (omega arith) (λ e. n (sym e ∙ (line-proper 1 (omega arith) (omega arith)).round))

  pub accepted : judge_dealing_in S d ys bytes ≡ Ok tt
  accepted = accepts-dealing S d ys bytes written-accepted

pub dealing-complete : DealingComplete
dealing-complete S P k d ys f ws e = accepted S P k d ys f ws (value-writable S d ys f ws _ e)

pub written-for-other-round : WrittenForOtherRound
written-for-other-round S P k d ys f ws e = refused-elsewhere S P k d ys f ws (value-writable S d ys f ws _ e)

pub written-carried : WrittenCarried
written-carried S P k d ys f ws e = carries S P k d ys f ws (value-writable S d ys f ws _ e)

pub same-commitments : SameCommitments
same-commitments S P k d ys f ws e round h whole us g =
    (written-carried S P k d ys f ws e).powers ∙ sym (written-carried (in_round round whole S) (proper-in-round round whole P) h d ys f us g).powers

-- ---- the lent bytes
pub lent-dealing : LentDealing
unfolding write_dealing_in lent_dealing_in
lent-dealing S P k d ys f ws out e =
    let checks = write_dealing_checks S d ys f ws (length out) in
    ap (judge_dealing_in S d ys) (if-met (written_dealing S d ys f ws) out checks ((value-exactly Unit checks tt).0 e))
    ∙ accepted S P k d ys f ws (value-writable S d ys f ws (length out) e)

pub lent-dealing-kept : LentDealingKept
unfolding write_dealing_in lent_dealing_in
lent-dealing-kept S d ys f ws out k e =
    let checks = write_dealing_checks S d ys f ws (length out) in
    if-unmet (written_dealing S d ys f ws) out checks k ((refused-exactly Unit checks tt k).0 e)

-- ---- over a round
-- a refusal over a round leaves the lent bytes
refused-kept : (T : List ℕ) (R : Round) (checks : Setting → List Check) (new : Setting → List ℕ) (old : List ℕ) (k : Refusal)
    → judged T R checks (λ S. tt {0}) ≡ Err k → judged_else T R checks new old ≡ old
unfolding judged judged_else
refused-kept T R checks new old k e =
    let cs = round_checks T R ++ checks (setting_in T R) in
    if-unmet (new (setting_in T R)) old cs k ((refused-exactly Unit cs tt k).0 e)

-- what is written over a table and a round, and judged over them or in a round of other numbers
module _ (T : List ℕ) (R : Round) (d : ℕ) (ys f ws out : List ℕ) (e : write_dealing_outcome T R d ys f ws (length out) ≡ Ok tt) where
  abbrev within : Setting
  within = setting_in T R

  abbrev checks : Setting → List Check
  checks S = write_dealing_checks S d ys f ws (length out)

  settled : Met (round_checks T R) × (write_dealing_in within d ys f ws (length out) ≡ Ok tt)
  unfolding write_dealing_outcome write_dealing_in
  settled = (judged-exactly T R checks (λ S. tt) tt).0 e

  lines-written : lent_dealing T R d ys f ws out ≡ written_dealing within d ys f ws
  unfolding write_dealing_in lent_dealing
  lines-written =
      judged-else-in T R checks (λ S. written_dealing S d ys f ws) settled.0 out
      ∙ if-met (written_dealing within d ys f ws) out (checks within) ((value-exactly Unit (checks within) tt).0 settled.1)

  judged-lines : (Q : Round) → Met (round_checks T Q)
      → judge_dealing_outcome T Q d ys (lent_dealing T R d ys f ws out) ≡ judge_dealing_in (setting_in T Q) d ys (written_dealing within d ys f ws)
  unfolding judge_dealing_outcome judge_dealing_in
  judged-lines Q m =
      judged-in T Q (λ S. judge_dealing_checks S d ys (lent_dealing T R d ys f ws out)) (λ S. tt) m
      ∙ ap (judge_dealing_in (setting_in T Q) d ys) lines-written

  module _ (k : R.round < 2 ^ 32) where
    abbrev proper : ProperSetting within
    proper = round-proper T R settled.0

    abbrev figures : WritableDealing within d ys f ws
    figures = value-writable within d ys f ws (length out) settled.1

    complete : judge_dealing_outcome T R d ys (lent_dealing T R d ys f ws out) ≡ Ok tt
    complete = judged-lines R settled.0 ∙ accepted within proper k d ys f ws figures

    for-other-round : (round first : ℕ) → (round ≡ R.round → ⊥)
        → judge_dealing_outcome T (with_numbers round first R) d ys (lent_dealing T R d ys f ws out) ≡ Err OtherRound
    unfolding round_checks round_figures
    for-other-round round first n =
        judged-lines (with_numbers round first R) settled.0
        ∙ refused-elsewhere within proper k d ys f ws figures round n (takes_whole first round)

    commitments-are : vs_in R.n (lent_dealing T R d ys f ws out) ≡ powers_at within.group within.group.g.0 f (members R.n)
    commitments-are = ap (vs_in R.n) lines-written ∙ (carries within proper k d ys f ws figures).powers

pub dealing-by-round : DealingByRound
unfolding judge_dealing_outcome judge_dealing_in write_dealing_outcome write_dealing_in lent_dealing lent_dealing_in
dealing-by-round T R =
    record {
      judged-met = λ d ys b e. ((judged-exactly T R (λ S. judge_dealing_checks S d ys b) (λ S. tt) tt).0 e).0;
      written-met = λ d ys f ws room e. ((judged-exactly T R (λ S. write_dealing_checks S d ys f ws room) (λ S. tt) tt).0 e).0;
      kept = λ d ys f ws out k e. refused-kept T R (λ S. write_dealing_checks S d ys f ws (length out)) (λ S. written_dealing S d ys f ws) out k e;
      proper = round-proper T R;
      judged-in = λ m d ys b. judged-in T R (λ S. judge_dealing_checks S d ys b) (λ S. tt) m;
      written_in = λ m d ys f ws room. judged-in T R (λ S. write_dealing_checks S d ys f ws room) (λ S. tt) m;
      lent-in = λ m d ys f ws out. judged-else-in T R (λ S. write_dealing_checks S d ys f ws (length out)) (λ S. written_dealing S d ys f ws) m out;
      complete = λ k d ys f ws out e. complete T R d ys f ws out e k;
      for-other-round = λ k d ys f ws out e. for-other-round T R d ys f ws out e k;
      of-other-round = λ m d ys b before i h l n.
          judged-in T R (λ S. judge_dealing_checks S d ys b) (λ S. tt) m ∙ dealing-of-other-round (setting_in T R) d ys b before i h l n;
      same-commitments = λ k d ys f ws out e round first l us other g.
          commitments-are T R d ys f ws out e k ∙ sym (commitments-are T (with_numbers round first R) d ys f us other g l);
    }
