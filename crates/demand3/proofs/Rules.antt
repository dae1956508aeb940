-- Judged under the other rule: all that comes before the equations has no challenge in it, and is the same under both.
use mathlib.Core.Path.{◌≡◌, refl, sym, ap, ◌∙◌}
use mathlib.Core.Bool.{Bool, ◌&&◌}
use mathlib.Core.List.{List, [], ◌∷◌, ◌++◌}
use Prim.Native.Nat.{ℕ, zero, suc}
use borrow.Author.Tests.{eq-eqb}
use lib.Dec.{eqb}
use Rattle.std.specs.Prelude.{Ok, Err}
use Rattle.words.specs.Lists.{all}
use Rattle.words.specs.Checks.{Check, ◌unless◌, outcome, Met}
use Rattle.words.specs.Bytes.{record_in, records_in}
use Rattle.words.specs.declared.refusal.Refusal.TheVariants.{DegreeFails, NoElement, NoExponent, NoMember, ProofFails}
use Rattle.words.proofs.Tests.{pick_true}
use Rattle.words.proofs.Checks.{value-met}
use Rattle.words.proofs.Stages.{met-both, rest-outcome}
use Rattle.group.specs.Element.{is_element, is_exponent}
use Rattle.group.specs.declared.Element.{Element}
use Rattle.sharing.specs.Setting.{ProperSetting, is_member, members}
use Rattle.sharing.specs.Answer.{degree_product}
use Rattle.sharing.specs.Carried.{Carries}
use Rattle.sharing.specs.declared.Setting.{Setting}
use Rattle.sharing.proofs.Rounds.{proper-in-round, carries-in-round}
use Rattle.sharing.proofs.Degree.{passed-product}
use Rattle.sharing.proofs.Theorems.{carried-passes}
use Rattle.records.specs.Layout.{Z_of, share_c, share_r}
use Rattle.challenge.specs.Message.{check_polynomial}
use Rattle.challenge.proofs.Challenges.{check-polynomial}
use Rattle.lines.specs.Lines.{address_checks, line_checks, v_in, Y_in, r_in, c_in, vs_in}
use Rattle.dealing.specs.Dealing.{judge_size_checks, recomputed, dealing_form_checks, range_checks, equation_checks, judge_dealing_in}
use Rattle.share.specs.Share.{members_checks, share_admission_checks, share_recomputed, share_figure_checks, judge_share_in}
use Rattle.share.specs.declared.ShareForm.{ShareForm}
use Rattle.board.specs.Board.{one_record_checks, record_checks, length_checks, form_checks, board_key_checks, board_checks, lines_checks}
use Rattle.demand3.specs.Rules.{under_rule, UnderOtherRule}

-- of checks in three stages that are all met: with other checks in the third, these alone decide
last-decides : {A : Type 0} (front ranges own other : List Check) → Met (front ++ (ranges ++ own)) → (a : A)
    → outcome (front ++ (ranges ++ other)) a ≡ outcome other a
last-decides front ranges own other m a =
    let s = met-both front (ranges ++ own) m in
    sym (rest-outcome ranges other (met-both ranges own s.1).0 a ∙ rest-outcome front (ranges ++ other) s.0 a)

module _ (S : Setting) (whole : Bool) where
  abbrev T : Setting
  T = under_rule whole S

  module _ (b : List ℕ) where
    records-same : (i m : ℕ) → record_checks T b i m ≡ record_checks S b i m
    records-same i zero = refl
    records-same i (suc m) = ap (λ (cs : List Check). one_record_checks S b i ++ cs) (records-same (suc i) m)

    form-same : form_checks T b ≡ form_checks S b
    unfolding form_checks
    form-same = ap (λ (cs : List Check). length_checks b ++ cs) (records-same 0 (records_in b))

    lines_same : (d : ℕ) → lines_checks T d b ≡ lines_checks S d b
    unfolding lines_checks
    lines_same d = ap (λ (cs : List Check). NoMember unless is_member S.n d ∷ cs) form-same

    board-same : board_checks T b ≡ board_checks S b
    unfolding board_checks board_key_checks
    board-same = ap (λ (cs : List Check). cs ++ board_key_checks S b) form-same

  module _ (d : ℕ) (ys b : List ℕ) (e : judge_dealing_in S d ys b ≡ Ok tt) where
    by-equations : judge_dealing_in T d ys b ≡ outcome (equation_checks T d ys (v_in b) (Y_in b) (r_in b) (c_in b)) tt
    unfolding judge_dealing_in dealing_form_checks address_checks judge_size_checks line_checks range_checks
    by-equations =
        let form = dealing_form_checks S d ys b in
        let ranges = range_checks S (v_in b) (Y_in b) (r_in b) (c_in b) in
        let equations : Setting → List Check = λ R. equation_checks R d ys (v_in b) (Y_in b) (r_in b) (c_in b) in
        last-decides form ranges (equations S) (equations T) (value-met (form ++ (ranges ++ equations S)) tt tt e).0 tt

    by-challenges : ProperSetting S → (f : List ℕ) → Carries S f (vs_in S.n b)
        → judge_dealing_in T d ys b
        ≡ outcome (ProofFails unless all (λ i. eqb (c_in b i) (recomputed T d ys (v_in b) (Y_in b) (r_in b) (c_in b))) (members S.n) ∷ []) tt
    unfolding equation_checks vs_in
    by-challenges P f K =
        let vs = vs_in S.n b in
        let ds = check_polynomial T d (v_in b) (Y_in b) in
        let P' = proper-in-round S.round whole P in
        let K' : Carries T f vs = carries-in-round S.round S.whole_digest K in
        let nine = passed-product T vs ds ((carried-passes T P' f vs K').1 ds (check-polynomial T P' d (v_in b) (Y_in b))) in
        by-equations ∙ pick_true (eqb (degree_product T vs ds) 1) _ (Err DegreeFails) (eq-eqb _ 1 nine)

  module _ (F : ShareForm) (i y Y : ℕ) (b : List ℕ) (Z : Element) (e : judge_share_in S F i y Y b ≡ Ok Z) where
    by-challenge : judge_share_in T F i y Y b ≡ outcome (ProofFails unless eqb (share_c (record_in b)) (share_recomputed T F i y Y (record_in b)) ∷ []) Z
    unfolding judge_share_in share_admission_checks members_checks share_figure_checks
    by-challenge =
        let r = record_in b in
        let front = share_admission_checks S F i y Y b in
        let ranges : List Check =
        NoElement unless is_element S.group (Z_of r) ∷ NoExponent unless (is_exponent S.group (share_c r) && is_exponent S.group (share_r r)) ∷ [] in
        let equation : Setting → List Check = λ R. ProofFails unless eqb (share_c r) (share_recomputed R F i y Y r) ∷ [] in
        let v = value-met (front ++ (ranges ++ equation S)) (record { 0 = Z_of r }) Z e in
        last-decides front ranges (equation S) (equation T) v.0 (record { 0 = Z_of r }) ∙ ap (outcome (equation T)) v.1

pub under-other-rule : UnderOtherRule
under-other-rule S P whole =
    record {
      lines = λ d b. lines_same S whole b d;
      board = board-same S whole;
      dealing = by-equations S whole;
      carried = λ d ys b f K e. by-challenges S whole d ys b e P f K;
      share = by-challenge S whole;
    }
