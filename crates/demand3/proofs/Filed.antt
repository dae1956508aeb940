-- Boards filed before records had a round's number: the checks of the scope paper differ from those of round 0 in the refusal of a test that
-- holds where word 7 is 0, and the messages and their exponents are the same, so both answer the same, and so do the verdicts. Without
-- records of kind 5 the scope paper's table is the same, and a stuck dealing is the end, so the draw is the same too. With equal keys 22
-- stands behind all that the scope paper tested before the verdicts.
use mathlib.Core.Path.{◌≡◌, refl, sym, ap, ◌∙◌}
use mathlib.Core.Bool.{Bool, true, false, not, ◌&&◌}
use mathlib.Core.List.{List, [], ◌∷◌, ◌++◌}
use Prim.Native.Nat.{ℕ, zero, suc, ◌+◌, ◌-◌, ◌≤◌, ◌<◌}
use native.Mathlib.Omega.{arith}
use borrow.Author.Tests.{eq-eqb, ne_eqb, lt-leb}
use lib.ListN.{length}
use lib.Dec.{leb, eqb}
use Rattle.words.specs.Choice.{pick}
use Rattle.words.specs.Lists.{Distinct, all, map, none_twice, up_from, entry}
use Rattle.words.specs.Checks.{Check, ◌unless◌, outcome, Met, FirstUnmet}
use Rattle.words.specs.Bytes.{record_in, records_in, record_at, agrees}
use Rattle.words.specs.declared.Record.{Record}
use Rattle.words.specs.declared.refusal.Refusal.TheVariants.{BadLength, BadForm, NoElement, NoExponent, DegreeFails, ProofFails, Incomplete, StillStuck, TooFew, OtherRound, SameKey}
use Rattle.words.proofs.Tests.{false-true, true-distinct}
use Rattle.words.proofs.Stages.{both-met, met-both, rest-first, settled-outcome}
use Rattle.words.proofs.Alike.{Alike, alike-behind, alike-before, alike-outcome}
use Rattle.words.proofs.RefuseAlike.{met-too, same-behind}
use Rattle.group.specs.Element.{is_element, is_exponent}
use Rattle.group.specs.declared.Element.{Element}
use Rattle.sharing.specs.Setting.{ProperSetting, takes_whole, setting_in, round_checks, is_member, members}
use Rattle.sharing.specs.Answer.{degree_product}
use Rattle.sharing.specs.declared.Setting.{Setting}
use Rattle.sharing.proofs.Rounds.{round-proper}
use Rattle.sharing.proofs.Theorems.{rule}
use Rattle.sharing.proofs.EachMember.{members-exactly}
use Rattle.records.specs.Layout.{share_kind, added_kind, is_key_record, is_line_record, is_opening_record, is_share_record}
use Rattle.records.specs.Layout.{dealer_of, member_of, Z_of, share_c, share_r, set_layout, set_group, set_n, set_t, member_record}
use Rattle.records.specs.Keys.{key_checks}
use Rattle.records.specs.Claims.{KeyTwice, filed_key_checks}
use Rattle.records.proofs.ProperKeys.{keys-proper}
use Rattle.challenge.specs.Message.{share_tag, challenge_of, check_polynomial}
use Rattle.challenge.proofs.Challenges.{challenge-by-rule, round-zero}
use Rattle.equality.specs.Equality.{announced}
use Rattle.lines.specs.Lines.{address_checks, v_in, Y_in, r_in, c_in, vs_in, line_checks}
use Rattle.dealing.specs.Dealing.{judge_size_checks, dealing_form_checks, recomputed, range_checks, equation_checks, line_figure_checks, judge_dealing_in}
use Rattle.dealing.proofs.DistinctKeys.{judged-distinct}
use Rattle.share.specs.Share.{opened_form, added_form, is_dealer, members_checks, share_input_checks, share_form_checks, share_admission_checks, share_recomputed, share_figure_checks, judge_share_in}
use Rattle.board.specs.Board.{is_shaped, record_checks, length_checks, form_checks, has_key, keys_in, board_key_checks, board_checks, lines_of}
use Rattle.board.proofs.KeyRecords.{board-key-twice}
use Rattle.board.proofs.Order.{reached}
use Rattle.board.proofs.LineRun.{line-record}
use Rattle.verdicts.specs.Shares.{Judges, judges, share_answer}
use Rattle.verdicts.specs.Verdict.{verdict_on, verdicts_on}
use Rattle.verdicts.specs.Added.{multiplied, added_by}
use Rattle.verdicts.specs.Draw.{count_accepted, any_stuck, secrets_product, draw_checks, draw_value, draw_in}
use Rattle.verdicts.proofs.ShareAnswers.{none-of-kind}
use Rattle.demand3.specs.Filed.{filed_shaped, filed_end_checks, filed_record_checks, filed_board_checks, filed_exponent, filed_line_checks, filed_equation_checks, filed_dealing, filed_share_checks, filed_share_figures, filed_share, filed_judges, filed_board, filed_draw, OfThen, DistinctOrRefused, FiledAsBefore, FiledOverRound, FiledSet, FiledKeyTwice, FiledTwiceOverRound}
use Rattle.demand3.proofs.Endings.{refused-before}
use Rattle.demand3.proofs.SameJudges.{same-verdict}
use Rattle.demand3.proofs.Rounds.{first-refusal, answered-by-setting}

-- ---- round 0
-- the test of word 7, which holds
word-alike : (S : Setting) → S.round ≡ 0 → (x : ℕ) → x ≡ 0 → (eqb x S.round ≡ eqb x 0) × (eqb x 0 ≡ false → OtherRound ≡ BadForm)
word-alike S z x e = (ap (eqb x) z, λ f. absurd (false-true (sym f ∙ eq-eqb x 0 e)))

module _ (S : Setting) (z : S.round ≡ 0) (o : S.whole_digest ≡ false) where
  -- the exponent of a message that is one of the scope paper's
  filed-exponent : {m n : List ℕ} → m ≡ n → challenge_of S m ≡ filed_exponent S n
  filed-exponent {m} {n} e = ap (challenge_of S) e ∙ (challenge-by-rule S n).old o

  -- the figures, whose messages are those of the scope paper
  filed-equations : (d : ℕ) (ys b : List ℕ) → equation_checks S d ys (v_in b) (Y_in b) (r_in b) (c_in b) ≡ filed_equation_checks S d ys b
  unfolding equation_checks recomputed check_polynomial vs_in
  filed-equations d ys b = λ j.
      let G = S.group in
      let m = round-zero S z d in
      let ds = map (λ k. filed-exponent (m.coefficient (v_in b) (Y_in b) k) j) (up_from 0 (S.n - S.t)) in
      let a1 : ℕ → ℕ = λ i. announced G G.g.0 (v_in b i) (c_in b i) (r_in b i) in
      let a2 : ℕ → ℕ = λ i. announced G (entry ys i) (Y_in b i) (c_in b i) (r_in b i) in
      DegreeFails unless eqb (degree_product S (map (v_in b) (members S.n)) ds) 1
      ∷ ProofFails unless all (λ i. eqb (c_in b i) (filed-exponent (m.dealing (v_in b) (Y_in b) a1 a2) j)) (members S.n)
      ∷ []

  filed-figures : (d i y Y : ℕ) (r : Record) → share_figure_checks S (opened_form d) i y Y r ≡ filed_share_figures S d i y Y r
  unfolding share_figure_checks share_recomputed
  filed-figures d i y Y r = λ j.
      let G = S.group in
      let a1 = announced G G.h.0 y (share_c r) (share_r r) in
      let a2 = announced G (Z_of r) Y (share_c r) (share_r r) in
      NoElement unless is_element G (Z_of r)
      ∷ NoExponent unless (is_exponent G (share_c r) && is_exponent G (share_r r))
      ∷ ProofFails unless eqb (share_c r) (filed-exponent ((round-zero S z d).share share_tag i y Y (Z_of r) a1 a2) j)
      ∷ []

  filed-dealing : (d : ℕ) (ys b : List ℕ) → Distinct ys → ((i : ℕ) → 1 ≤ i → i ≤ S.n → (member_record b i).w7 ≡ 0) → judge_dealing_in S d ys b ≡ filed_dealing S d ys b
  unfolding dealing_form_checks line_checks key_checks address_checks judge_size_checks range_checks equation_checks
  filed-dealing d ys b n w =
      let front = address_checks S d ++ judge_size_checks S ys b in
      let keys = filed_key_checks S.group ys in
      let figures = line_figure_checks S d ys b in
      let met : all (λ i. eqb (member_record b i).w7 0) (members S.n) ≡ true =
      (members-exactly (λ i. eqb (member_record b i).w7 0) S.n).1 (λ i h l. eq-eqb (member_record b i).w7 0 (w i h l)) in
      let lines : Alike (line_checks S d b) (filed_line_checks S.n d b) =
      (refl, λ e. refl, (ap (λ (r : ℕ). all (λ i. eqb (member_record b i).w7 r) (members S.n)) z, λ f. absurd (false-true (sym f ∙ met)), tt)) in
      let own = front ++ (keys ++ line_checks S d b) in
      let filed = front ++ (keys ++ filed_line_checks S.n d b) in
      let form = alike-behind front (keys ++ line_checks S d b) (keys ++ filed_line_checks S.n d b)
      (alike-behind keys (line_checks S d b) (filed_line_checks S.n d b) lines) in
      judged-distinct S d ys b n
      ∙ alike-outcome (own ++ figures) (filed ++ figures) tt (alike-before own filed figures form)
      ∙ ap (λ (es : List Check). outcome (filed ++ (range_checks S (v_in b) (Y_in b) (r_in b) (c_in b) ++ es)) tt) (filed-equations d ys b)

  filed-share : (d i y Y : ℕ) (b : List ℕ) → (record_in b).w7 ≡ 0 → judge_share_in S (opened_form d) i y Y b ≡ filed_share S d i y Y b
  unfolding judge_share_in share_admission_checks share_form_checks members_checks is_dealer
  filed-share d i y Y b w =
      let front = members_checks S (opened_form d) i ++ share_input_checks S.group y Y b in
      let figures = share_figure_checks S (opened_form d) i y Y (record_in b) in
      let k = word-alike S z (record_in b).w7 w in
      let own = share_form_checks S.round (opened_form d) i (record_in b) in
      let filed = filed_share_checks d i (record_in b) in
      alike-outcome ((front ++ own) ++ figures) ((front ++ filed) ++ figures) (record { 0 = Z_of (record_in b) })
      (alike-before (front ++ own) (front ++ filed) figures (alike-behind front own filed (refl, λ e. refl, (k.0, k.1, tt))))
      ∙ ap (λ (es : List Check). outcome ((front ++ filed) ++ es) (record { 0 = Z_of (record_in b) })) (filed-figures d i y Y (record_in b))

-- ---- without records of kind 5
and-false : (x y : Bool) → x ≡ false → x && y ≡ false
and-false x y e = ap (λ (t : Bool). t && y) e

-- the scope paper's table has the record, if any
shaped-same : (n : ℕ) (r : Record) → (r.w0 ≡ added_kind → ⊥) → is_shaped n r ≡ filed_shaped n r
unfolding is_shaped agrees
shaped-same n r h =
    ap
    (λ (x : Bool).
    pick (is_key_record r) (is_member n (member_of r))
    (pick (is_line_record r) (is_member n (dealer_of r) && is_member n (member_of r))
    (pick (is_opening_record r) (is_member n (dealer_of r))
    (pick (is_share_record share_kind r) (is_member n (dealer_of r) && is_member n (member_of r))
    (pick x (eqb (dealer_of r) 0 && is_member n (member_of r)) false)))))
    (and-false (eqb r.w0 added_kind) _ (ne_eqb r.w0 added_kind h))

-- a stuck dealing is the end, whatever there would be
end_same : (c stuck : Bool) (u v : Element)
    → outcome (TooFew unless c ∷ StillStuck unless pick stuck false true ∷ []) (pick stuck u v)
    ≡ outcome (TooFew unless c ∷ StillStuck unless not stuck ∷ []) v
end_same c true u v = refl
end_same c false u v = refl

module _ (J : Judges) (S : Setting) (b : List ℕ) (h : (i : ℕ) → i < records_in b → (record_at b i).w0 ≡ added_kind → ⊥) where
  end-without : 1 ≤ S.t
      → outcome (draw_checks J S b) (draw_value J S b)
      ≡ outcome (filed_end_checks S.t (verdicts_on J S b)) (record { 0 = secrets_product S.group.p (verdicts_on J S b) })
  end-without l =
      let vs = verdicts_on J S b in
      let few : leb S.t (length (added_by J S b)) ≡ false =
      ap (λ (is : List ℕ). leb S.t (length is)) (none-of-kind J S b added_form (multiplied J S b Y_in) h) ∙ lt-leb S.t 0 l in
      ap (λ (x : Bool). outcome (TooFew unless leb S.t (count_accepted vs) ∷ StillStuck unless pick (any_stuck vs) x true ∷ []) (draw_value J S b)) few
      ∙ end_same (leb S.t (count_accepted vs)) (any_stuck vs) _ _

-- ---- a filed board
module _ (S : Setting) (z : S.round ≡ 0) (b : List ℕ) (w : OfThen b) where
  records-alike : (i m : ℕ) → i + m ≤ records_in b → Alike (record_checks S b i m) (filed_record_checks S.n b i m)
  records-alike i zero h = tt
  records-alike i (suc m) h =
      let k = word-alike S z (record_at b i).w7 (w i (omega arith)).0 in
      (shaped-same S.n (record_at b i) (w i (omega arith)).1, λ e. refl, (k.0, k.1, (refl, λ e. refl, records-alike (suc i) m (omega arith))))

  -- the stages of the scope paper before the verdicts: form and order, and keys
  abbrev form : List Check
  form = length_checks b ++ filed_record_checks S.n b 0 (records_in b)

  abbrev keys : List Check
  keys = Incomplete unless all (has_key b) (members S.n) ∷ filed_key_checks S.group (keys_in S.n b)

  form-same : outcome (form_checks S b) tt ≡ outcome form (tt {0})
  unfolding form_checks
  form-same =
      let m = records_in b in
      alike-outcome (form_checks S b) form tt
      (alike-behind (length_checks b) (record_checks S b 0 m) (filed_record_checks S.n b 0 m) (records-alike 0 m (omega arith)))

  -- 22 stands behind them, and changes nothing where the keys are distinct
  filed_before : DistinctOrRefused S b → outcome (board_checks S b) tt ≡ outcome (filed_board_checks S b) (tt {0})
  unfolding board_checks board_key_checks key_checks
  filed_before n =
      same-behind (form_checks S b) form form-same (board_key_checks S b) keys tt tt
      (λ m. settled-outcome keys (SameKey unless none_twice (keys_in S.n b)) [] tt
      (λ k. true-distinct (keys_in S.n b) (n (both-met form keys (met-too (form_checks S b) form form-same m) k))))

  -- and is the first to refuse where the scope paper let two equal ones through
  filed-twice : Met (filed_board_checks S b) → KeyTwice S.group (keys_in S.n b) → FirstUnmet SameKey (board_checks S b)
  filed-twice m =
      let s = met-both form keys m in
      board-key-twice S b (met-too form (form_checks S b) (sym form-same) s.0) s.1.0

module _ (S : Setting) (P : ProperSetting S) (z : S.round ≡ 0) (o : S.whole_digest ≡ false) (b : List ℕ) (w : OfThen b) where
  filed-verdict : Met (board_checks S b) → (d : ℕ) → verdict_on judges S b d ≡ verdict_on filed_judges S b d
  unfolding share_answer record_at
  filed-verdict m d =
      let r = reached S b m in
      same-verdict judges filed_judges S b d (λ i h. filed-share S z o d _ _ _ _ (w i h).0)
      (λ c. filed-dealing S z o d _ (lines_of b d) ((keys-proper S.group (keys_in S.n b)).0 r.proper).distinct
      (λ i h l. (line-record S b P r.form d (i - 1) (omega arith)).3 ∙ z))

  filed-draw : DistinctOrRefused S b → draw_in judges S b ≡ filed_draw S b
  unfolding draw_in
  filed-draw n =
      same-behind (board_checks S b) (filed_board_checks S b) (filed_before S z b w n) _ _ _ _
      (λ m.
      end-without judges S b (λ i h. (w i h).1) P.t-positive
      ∙ (λ j.
      let vs = map (λ d. filed-verdict m d j) (members S.n) in
      outcome (filed_end_checks S.t vs) (record { 0 = secrets_product S.group.p vs })))

pub filed-as-before : FiledAsBefore
filed-as-before S P z o b w n =
    record { before = filed_before S z b w n; verdict = filed-verdict S P z o b w; draw = filed-draw S P z o b w n }

pub filed-key-twice : FiledKeyTwice
filed-key-twice S z b w m T = refused-before judges S b SameKey (filed-twice S z b w m T)

-- ---- over a table and a round
pub filed-over-round : FiledOverRound
filed-over-round T R z b w n =
    let old = ap (takes_whole R.first_new_round) z ∙ (rule R.first_new_round 0).in-round-zero in
    answered-by-setting filed_board T R b (λ m. filed-as-before (setting_in T R) (round-proper T R m) z old b w n)

pub filed-set : FiledSet
filed-set s z f = λ j.
    let r = record_in s in
    BadLength unless eqb (length s) 32 ∷ BadForm unless agrees r (set_layout (set_group r) (set_n r) (set_t r) (z j) (f j)) ∷ []

pub filed-twice-over-round : FiledTwiceOverRound
filed-twice-over-round T R m z b w k t =
    first-refusal judges T R b SameKey
    (rest-first (round_checks T R) (board_checks (setting_in T R) b) SameKey m (filed-twice (setting_in T R) z b w k t))
