-- What filed boards were judged by: the scope paper, from which the base was built before any change was requested. There word 7 is a
-- spare word like the others, refused by 4, the messages have nothing of the round in them, their digests give exponents by 8 bytes, the
-- last kind is 4, two members may have one key, and a stuck dealing is the end. In round 0 every board that was filed with zero in each
-- word 7 and no record of kind 5 is judged as it was then, unless two of its keys are equal.
use Rattle.std.specs.Prelude.{◌≡◌, Bool, false, not, ◌&&◌, List, [], ◌∷◌, ◌++◌, ℕ, zero, suc, ◌-◌, ◌%◌, ◌<◌, length, take, leb, eqb, Err}
use Rattle.words.specs.Choice.{pick}
use Rattle.words.specs.Lists.{Distinct, all, map, up_from, entry}
use Rattle.words.specs.Checks.{Check, ◌unless◌, Outcome, outcome, Met}
use Rattle.words.specs.Bytes.{big_endian, record_in, records_in, record_at, agrees}
use Rattle.words.specs.declared.Record.{Record}
use Rattle.words.specs.declared.refusal.Refusal.TheVariants.{BadLength, BadForm, OutOfOrder, NoElement, NoExponent, NoMember, DegreeFails, ProofFails, Incomplete, StillStuck, TooFew, SameKey}
use Rattle.sha256.specs.Hash.{hash}
use Rattle.group.specs.Element.{is_element, is_exponent}
use Rattle.group.specs.declared.Element.{Element}
use Rattle.sharing.specs.Setting.{ProperSetting, setting_in, round_checks, is_member, members}
use Rattle.sharing.specs.Answer.{degree_product}
use Rattle.sharing.specs.declared.Round.{Round}
use Rattle.sharing.specs.declared.Setting.{Setting}
use Rattle.records.specs.Layout.{share_kind, added_kind, is_key_record, is_line_record, is_opening_record, is_share_record, dealer_of, member_of, Z_of, share_c, share_r, member_record}
use Rattle.records.specs.Layout.{set_layout, set_group, set_n, set_t, set_round, set_first}
use Rattle.records.specs.Claims.{KeyTwice, filed_key_checks}
use Rattle.challenge.specs.Message.{dealing_tag, share_tag, coefficient_tag, dealing_figures, share_figures, coefficient_figures, roundless_message}
use Rattle.equality.specs.Equality.{announced}
use Rattle.lines.specs.Lines.{address_checks, is_line_of, v_in, Y_in, r_in, c_in, vs_in}
use Rattle.dealing.specs.Dealing.{judge_size_checks, range_checks}
use Rattle.share.specs.Share.{opened_form, share_input_checks, is_share_for}
use Rattle.board.specs.Board.{in_order, length_checks, has_key, keys_in}
use Rattle.verdicts.specs.Shares.{Judges, judges}
use Rattle.verdicts.specs.Verdict.{verdict_on, verdicts_on}
use Rattle.verdicts.specs.Draw.{count_accepted, any_stuck, secrets_product, draw_in}
use Rattle.verdicts.specs.declared.Verdict.{Verdict}
use Rattle.rulings.specs.Files.{set_checks}
use Rattle.demand3.specs.Rounds.{RefusedOver, BoardJudge, draw_by, JudgedAs, AnsweredAs}

-- ---- the checks of the scope paper
-- a record of its table, whose last kind is 4
abbrev pub filed_shaped : ℕ → Record → Bool
filed_shaped n r =
    pick (is_key_record r) (is_member n (member_of r))
    (pick (is_line_record r) (is_member n (dealer_of r) && is_member n (member_of r))
    (pick (is_opening_record r) (is_member n (dealer_of r))
    (pick (is_share_record share_kind r) (is_member n (dealer_of r) && is_member n (member_of r)) false)))

abbrev pub filed_record_checks : ℕ → List ℕ → ℕ → ℕ → List Check
filed_record_checks n b i zero = []
filed_record_checks n b i (suc m) =
    BadForm unless filed_shaped n (record_at b i)
    ∷ BadForm unless eqb (record_at b i).w7 0
    ∷ OutOfOrder unless in_order b i
    ∷ filed_record_checks n b (suc i) m

abbrev pub filed_board_checks : Setting → List ℕ → List Check
filed_board_checks S b =
    (length_checks b ++ filed_record_checks S.n b 0 (records_in b))
    ++ (Incomplete unless all (has_key b) (members S.n) ∷ filed_key_checks S.group (keys_in S.n b))

abbrev pub filed_line_checks : ℕ → ℕ → List ℕ → List Check
filed_line_checks n d b = BadForm unless all (is_line_of d b) (members n) ∷ BadForm unless all (λ i. eqb (member_record b i).w7 0) (members n) ∷ []

-- the challenge of a message: the first 8 digest bytes as a number, modulo q
abbrev pub filed_exponent : Setting → List ℕ → ℕ
filed_exponent S m = big_endian 0 (take 8 (hash m)) % S.group.q

-- the judge's own check polynomial, and the challenge that the lines give
abbrev pub filed_polynomial : Setting → ℕ → List ℕ → List ℕ
filed_polynomial S d b =
    map (λ k. filed_exponent S (roundless_message coefficient_tag S d (coefficient_figures S.n (v_in b) (Y_in b) k))) (up_from 0 (S.n - S.t))

abbrev pub filed_challenge : Setting → ℕ → List ℕ → List ℕ → ℕ
filed_challenge S d ys b =
    let G = S.group in
    filed_exponent S
    (roundless_message dealing_tag S d
    (dealing_figures S.n (v_in b) (Y_in b)
    (λ i. announced G G.g.0 (v_in b i) (c_in b i) (r_in b i)) (λ i. announced G (entry ys i) (Y_in b i) (c_in b i) (r_in b i))))

abbrev pub filed_equation_checks : Setting → ℕ → List ℕ → List ℕ → List Check
filed_equation_checks S d ys b =
    DegreeFails unless eqb (degree_product S (vs_in S.n b) (filed_polynomial S d b)) 1
    ∷ ProofFails unless all (λ i. eqb (c_in b i) (filed_challenge S d ys b)) (members S.n)
    ∷ []

abbrev pub filed_dealing : Setting → ℕ → List ℕ → List ℕ → Outcome (Unit {0})
filed_dealing S d ys b =
    outcome
    (((address_checks S d ++ judge_size_checks S ys b) ++ (filed_key_checks S.group ys ++ filed_line_checks S.n d b))
    ++ (range_checks S (v_in b) (Y_in b) (r_in b) (c_in b) ++ filed_equation_checks S d ys b))
    tt

abbrev pub filed_share_checks : ℕ → ℕ → Record → List Check
filed_share_checks d i r = BadForm unless is_share_for (opened_form d) i r ∷ BadForm unless eqb r.w7 0 ∷ []

abbrev pub filed_share_figures : Setting → ℕ → ℕ → ℕ → ℕ → Record → List Check
filed_share_figures S d i y Y r =
    let G = S.group in
    let a1 = announced G G.h.0 y (share_c r) (share_r r) in
    let a2 = announced G (Z_of r) Y (share_c r) (share_r r) in
    NoElement unless is_element G (Z_of r)
    ∷ NoExponent unless (is_exponent G (share_c r) && is_exponent G (share_r r))
    ∷ ProofFails unless eqb (share_c r) (filed_exponent S (roundless_message share_tag S d (share_figures i y Y (Z_of r) a1 a2)))
    ∷ []

abbrev pub filed_share : Setting → ℕ → ℕ → ℕ → ℕ → List ℕ → Outcome Element
filed_share S d i y Y b =
    let r = record_in b in
    outcome
    (((NoMember unless (is_member S.n d && is_member S.n i) ∷ []) ++ share_input_checks S.group y Y b ++ filed_share_checks d i r) ++ filed_share_figures S d i y Y r)
    (record { 0 = Z_of r })

abbrev pub filed_judges : Judges
filed_judges = record { dealing = filed_dealing; share = λ S F. filed_share S F.dealer }

-- the end: 14 fewer than t accepted, then 13 a stuck dealing
abbrev pub filed_end_checks : ℕ → List Verdict → List Check
filed_end_checks t vs = TooFew unless leb t (count_accepted vs) ∷ StillStuck unless not (any_stuck vs) ∷ []

abbrev pub filed_board : BoardJudge
filed_board =
    record {
      before = filed_board_checks;
      verdict = verdict_on filed_judges;
      end = λ S b. filed_end_checks S.t (verdicts_on filed_judges S b);
      drawn = λ S b. record { 0 = secrets_product S.group.p (verdicts_on filed_judges S b) };
    }

abbrev pub filed_draw : Setting → List ℕ → Outcome Element
filed_draw S b = draw_by filed_board S b

-- round.set: one record of kind 9 with group, n and t, and zeros behind them
abbrev pub filed_set_checks : List ℕ → List Check
filed_set_checks s =
    let r = record_in s in
    BadLength unless eqb (length s) 32 ∷ BadForm unless agrees r (set_layout (set_group r) (set_n r) (set_t r) 0 0) ∷ []

-- ---- the claims
-- a board of then: zero in each word 7, and no record of kind 5
abbrev pub OfThen : List ℕ → Type 0
OfThen b = (i : ℕ) → i < records_in b → ((record_at b i).w7 ≡ 0) × ((record_at b i).w0 ≡ added_kind → ⊥)

-- its keys are distinct, or the scope paper refused it before the verdicts
abbrev pub DistinctOrRefused : Setting → List ℕ → Type 0
DistinctOrRefused S b = Met (filed_board_checks S b) → Distinct (keys_in S.n b)

-- such a board is judged as it was then, under the old rule
abbrev pub FiledAsBefore : Type 0
FiledAsBefore =
    (S : Setting) → ProperSetting S → S.round ≡ 0 → S.whole_digest ≡ false → (b : List ℕ) → OfThen b → DistinctOrRefused S b
    → JudgedAs filed_board S b

-- over a table and a round 0 the rule is the old one, whatever the first round under the new one is: all answers of the board judge, and
-- the text that `draw` prints where round.set names round 0, are those of then
abbrev pub FiledOverRound : Type 0
FiledOverRound =
    (T : List ℕ) (R : Round) → R.round ≡ 0 → (b : List ℕ) → OfThen b → DistinctOrRefused (setting_in T R) b → AnsweredAs filed_board T R b

-- a round.set of then names round 0 and no first round; what refuses such a file is what refused it then
abbrev pub FiledSet : Type 0
FiledSet = (s : List ℕ) → set_round (record_in s) ≡ 0 → set_first (record_in s) ≡ 0 → set_checks s ≡ filed_set_checks s

-- every other board of then, which has two equal keys and was let through to the verdicts, is refused by 22: in a setting, and over a table
-- and a round
abbrev pub FiledKeyTwice : Type 0
FiledKeyTwice =
    (S : Setting) → S.round ≡ 0 → (b : List ℕ) → OfThen b → Met (filed_board_checks S b) → KeyTwice S.group (keys_in S.n b)
    → draw_in judges S b ≡ Err SameKey

abbrev pub FiledTwiceOverRound : Type 0
FiledTwiceOverRound =
    (T : List ℕ) (R : Round) → Met (round_checks T R) → R.round ≡ 0 → (b : List ℕ) → OfThen b → Met (filed_board_checks (setting_in T R) b)
    → KeyTwice (setting_in T R).group (keys_in R.n b) → RefusedOver judges T R b SameKey
