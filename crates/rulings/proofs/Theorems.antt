-- Proofs of what specs/Claims.antt states.
use mathlib.Core.Path.{◌≡◌, refl, sym, ap, ◌∙◌, subst}
use mathlib.Core.List.{List, ◌++◌, append_assoc}
use Prim.Native.Nat.{ℕ}
use Rattle.std.specs.Prelude.{Ok, Err}
use Rattle.words.specs.Checks.{Check, outcome, Met, FirstUnmet}
use Rattle.words.specs.declared.refusal.Refusal.{Refusal}
use Rattle.words.proofs.Checks.{if-met, if-unmet, met-unmet, refused-exactly}
use Rattle.words.proofs.Stages.{met-both, both-met, rest-outcome, front-outcome, behind-outcome}
use Rattle.words.proofs.RefuseAlike.{met-too}
use Rattle.group.specs.Table.{groups_of, table_checks}
use Rattle.sharing.specs.Setting.{ProperSetting, setting_in, round_figures, round_checks, judged, judged_else}
use Rattle.sharing.specs.declared.Round.{Round}
use Rattle.sharing.specs.declared.Setting.{Setting}
use Rattle.sharing.proofs.Theorems.{groups-alone}
use Rattle.board.specs.Board.{board_checks}
use Rattle.verdicts.specs.Shares.{Judges}
use Rattle.verdicts.specs.Draw.{draw_checks, draw_value, reached_draw, draw_outcome, JudgementIn}
use Rattle.rulings.specs.Files.{set_checks, round_in, file_checks, setting_checks}
use Rattle.rulings.specs.Ruling.{RulingOf, RulingMet, ruling_checks, judgement_checks}
use Rattle.rulings.specs.Claims.{RulingReached, RulingSettled, RulingRefused, RulingEmpty, RulingJudged, RulingByGroups, JudgementExactly}
use Rattle.rulings.proofs.Settings.{checked-round, checked-proper}

pub ruling-reached : RulingReached
ruling-reached J T s b (Ok A) I = (λ m. (A, refl, I.setting), λ w. I.met)
ruling-reached J T s b (Err k) I = (λ m. absurd (met-unmet (ruling_checks T s b) k m I), λ w. let e = w.1 in cc)

pub ruling-settled : RulingSettled
ruling-settled J T s b o I A e =
    let m : RulingMet J T s b A = subst (RulingOf J T s b) e I in
    let p = met-both (setting_checks T s) (board_checks (setting_in T (round_in s)) b) m.met in
    record {
      setting = m.setting;
      proper = subst ProperSetting (sym m.setting) (checked-proper T s p.0);
      reached = subst (λ (S : Setting). Met (board_checks S b)) (sym m.setting) p.1;
      judgement = subst (λ (S : Setting). JudgementIn J S b A.judgement) (sym m.setting) m.judgement;
    }

pub ruling-refused : RulingRefused
ruling-refused J T s b (Ok A) I k = (λ u. absurd (met-unmet (ruling_checks T s b) k I.met u), λ e. cc)
ruling-refused J T s b (Err i) I k = (
  λ u.
      let p = (refused-exactly Unit (ruling_checks T s b) tt i).1 I in
      let q = (refused-exactly Unit (ruling_checks T s b) tt k).1 u in
      let e : i ≡ k = cc in ap Err e,
  λ e. let f : i ≡ k = cc in subst (λ j. FirstUnmet j (ruling_checks T s b)) f I,
)

pub ruling-empty : RulingEmpty
ruling-empty J T s b (Ok A) I k e = absurd (cc)
ruling-empty J T s b (Err i) I k e = let f : i ≡ k = cc in record { verdicts = refl; accepted = refl; draw = ap Err f }

module _ (T s b : List ℕ) where
  abbrev S : Setting
  S = setting_in T (round_in s)

  abbrev figures : List Check
  figures = round_figures (groups_of T) (round_in s)

  -- where the table is accepted the rest decides
  behind-table : {A : Type 0} (a : A) → Met (table_checks T) → outcome ((set_checks s ++ figures) ++ board_checks S b) a ≡ outcome (ruling_checks T s b) a
  behind-table a m =
      rest-outcome (table_checks T) ((set_checks s ++ figures) ++ board_checks S b) m a
      ∙ ap (λ (l : List Check). outcome l a)
      (sym (append_assoc (table_checks T) (set_checks s ++ figures) (board_checks S b))
      ∙ ap (λ (l : List Check). l ++ board_checks S b) (sym (append_assoc (table_checks T) (set_checks s) figures)))

  -- where the set is accepted too, the checks over the table and the round do
  over-round : (k : Refusal) → Met (file_checks T s) → FirstUnmet k (ruling_checks T s b) → FirstUnmet k (judgement_checks T (round_in s) b)
  unfolding round_checks
  over-round k m u =
      (refused-exactly Unit (judgement_checks T (round_in s) b) tt k).0
      (sym (behind-outcome (table_checks T) figures (board_checks S b) (met-both (table_checks T) (set_checks s) m).0 tt)
      ∙ behind-outcome (file_checks T s) figures (board_checks S b) m tt
      ∙ (refused-exactly Unit (ruling_checks T s b) tt k).1 u)

pub ruling-judged : RulingJudged
ruling-judged J T s b (Ok A) I m =
    let S = setting_in T (round_in s) in
    let p = met-both (setting_checks T s) (board_checks S b) I.met in
    (both-met (round_checks T (round_in s)) (board_checks S b) (checked-round T s p.0) p.1, I.judgement)
ruling-judged J T s b (Err k) I m = over-round T s b k m I

module _ (T₁ T₂ s b : List ℕ) (m₁ : Met (table_checks T₁)) (m₂ : Met (table_checks T₂)) (e : groups_of T₁ ≡ groups_of T₂) where
  same-setting : setting_in T₁ (round_in s) ≡ setting_in T₂ (round_in s)
  same-setting = (groups-alone T₁ T₂ (round_in s) m₁ m₂ e).setting

  same-ruling : outcome (ruling_checks T₁ s b) (tt {0}) ≡ outcome (ruling_checks T₂ s b) (tt {0})
  same-ruling =
      sym (behind-table T₁ s b tt m₁)
      ∙ (λ j. outcome ((set_checks s ++ round_figures (e j) (round_in s)) ++ board_checks (same-setting j) b) tt)
      ∙ behind-table T₂ s b tt m₂

pub ruling-by-groups : RulingByGroups
ruling-by-groups J T₁ T₂ s b (Ok A) m₁ m₂ e I =
    let S = same-setting T₁ T₂ s b m₁ m₂ e in
    record {
      met = met-too _ _ (same-ruling T₁ T₂ s b m₁ m₂ e) I.met;
      setting = I.setting ∙ S;
      judgement = subst (λ (R : Setting). JudgementIn J R b A.judgement) S I.judgement;
    }
ruling-by-groups J T₁ T₂ s b (Err k) m₁ m₂ e I =
    (refused-exactly Unit (ruling_checks T₂ s b) tt k).0
    (sym (same-ruling T₁ T₂ s b m₁ m₂ e) ∙ (refused-exactly Unit (ruling_checks T₁ s b) tt k).1 I)

-- ---- what judge_board answers
module _ (J : Judges) (T : List ℕ) (R : Round) (b : List ℕ) where
  abbrev P : Setting
  P = setting_in T R

  -- the draw's checks come behind those before the verdicts
  drawn : outcome (judgement_checks T R b ++ draw_checks J P b) (draw_value J P b) ≡ draw_outcome J T R b
  unfolding draw_outcome judged
  drawn = ap (λ (l : List Check). outcome l (draw_value J P b)) (append_assoc (round_checks T R) (board_checks P b) (draw_checks J P b))

pub judgement-exactly : JudgementExactly
unfolding reached_draw judged_else
judgement-exactly J T R b (Ok A) I =
    let checks = judgement_checks T R b in
    let S = setting_in T R in
    record {
      verdicts = I.1.verdicts ∙ sym (if-met _ _ checks I.0);
      accepted = I.1.accepted ∙ sym (if-met _ 0 checks I.0);
      draw = I.1.draw ∙ rest-outcome checks (draw_checks J S b) I.0 (draw_value J S b) ∙ drawn J T R b;
    }
judgement-exactly J T R b (Err k) u =
    let checks = judgement_checks T R b in
    let S = setting_in T R in
    record {
      verdicts = sym (if-unmet _ _ checks k u);
      accepted = sym (if-unmet _ 0 checks k u);
      draw = front-outcome checks (draw_checks J S b) k u (draw_value J S b) ∙ drawn J T R b;
    }
