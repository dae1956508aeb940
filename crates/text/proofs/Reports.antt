-- What is written from the ruling on a board is its text: the report where verdicts are reached, and else the refusal's line.
use mathlib.Core.Path.{◌≡◌, sym, ap, ◌∙◌}
use mathlib.Core.List.{List, ◌++◌, append_assoc}
use mathlib.Core.Logic.{⊎_elim}
use Prim.Native.Nat.{ℕ, suc, ◌≤◌}
use native.Mathlib.Omega.{arith}
use borrow.Author.Tests.{le-leb}
use lib.Dec.{leb}
use Rattle.words.specs.Lists.{map, up_from}
use Rattle.std.specs.Prelude.{Ok, Err}
use Rattle.words.specs.Checks.{Check, Outcome, outcome, Met, FirstUnmet}
use Rattle.words.specs.declared.refusal.Refusal.{Refusal}
use Rattle.words.proofs.Lists.{All-to, take-map, map_same, up-take, up-within}
use Rattle.words.proofs.Tests.{pick_true}
use Rattle.words.proofs.Checks.{decided, value-exactly, refused-exactly}
use Rattle.words.proofs.Stages.{met-both, rest-outcome, behind-outcome, front-outcome}
use Rattle.group.specs.Table.{groups_of, table_checks}
use Rattle.sharing.specs.Setting.{setting_in, round_figures, round_checks, judged, members}
use Rattle.sharing.specs.declared.Setting.{Setting}
use Rattle.sharing.proofs.Theorems.{groups-alone}
use Rattle.board.specs.Board.{board_checks}
use Rattle.verdicts.specs.Shares.{Judges}
use Rattle.verdicts.specs.Verdict.{verdict_on, verdicts_on}
use Rattle.verdicts.specs.Draw.{draw_checks, draw_value, reached_draw, draw_in, place_for, verdict_places, JudgementIn}
use Rattle.verdicts.specs.declared.Verdict.{Verdict}
use Rattle.verdicts.specs.declared.Verdict.TheVariants.{None}
use Rattle.verdicts.specs.declared.Judgement.{Judgement}
use Rattle.rulings.specs.Files.{set_checks, round_in, file_checks}
use Rattle.rulings.specs.Ruling.{RulingOf, ruling_checks}
use Rattle.rulings.specs.declared.Ruling.{Ruling}
use Rattle.rulings.proofs.Theorems.{ruling-reached, ruling-settled, ruling-refused}
use Rattle.text.specs.Text.{dealer_lines, refused_line, draw_line, round_line, accepted_line, text_of, report, board_text, draw_text}
use Rattle.text.specs.Claims.{TextRefused, TableFirst, TextByGroups}
use Rattle.text.specs.Report.{verdicts_at, report_from}

-- the first n of the verdicts in the array
places-verdicts : (w : ℕ → Verdict) (n : ℕ) → n ≤ 31 → verdicts_at n (verdict_places w n) ≡ map w (members n)
unfolding verdict_places
places-verdicts w n h =
    take-map (place_for w n) n (up_from 1 31)
    ∙ ap (map (place_for w n)) (up-take 1 n 31 h)
    ∙ map_same (place_for w n) w (members n)
    (All-to (members n) (λ d s. pick_true (leb d n) (w d) None (le-leb d n (omega (arith, s.1)))) (up-within 1 n (suc n) (omega arith)))

-- ---- the report
report-same : (J : Judges) (S : Setting) (b : List ℕ) (A : Judgement) → S.n ≤ 31 → Met (board_checks S b) → JudgementIn J S b A
    → report_from S A ≡ report J S b
unfolding report_from report reached_draw draw_in
report-same J S b A h m a =
    let vs : verdicts_at S.n A.verdicts ≡ verdicts_on J S b =
    ap (verdicts_at S.n) a.verdicts ∙ places-verdicts (verdict_on J S b) S.n h in
    let e : A.draw ≡ draw_in J S b =
    a.draw ∙ rest-outcome (board_checks S b) (draw_checks J S b) m (draw_value J S b) in
    λ j. round_line S ++ (dealer_lines 1 (vs j) ++ (accepted_line (a.accepted j) ++ draw_line (e j)))

-- ---- the text by what is refused
module _ (cs : List Check) (t : List ℕ) where
  unmet-text : (k : Refusal) → FirstUnmet k cs → text_of (outcome cs t) ≡ refused_line k
  unmet-text k u = ap text_of ((refused-exactly (List ℕ) cs t k).1 u)

  pub text-passed : Met cs → text_of (outcome cs t) ≡ t
  text-passed m = ap text_of ((value-exactly (List ℕ) cs t).1 m)

-- all checks before the verdicts decide it
pub text-ruled : (J : Judges) (T s b : List ℕ) → draw_text J T s b ≡ text_of (outcome (ruling_checks T s b) (report J (setting_in T (round_in s)) b))
unfolding draw_text board_text judged round_checks
text-ruled J T s b =
    let fs = file_checks T s in
    let rs = round_figures (groups_of T) (round_in s) in
    let bs = board_checks (setting_in T (round_in s)) b in
    let t = report J (setting_in T (round_in s)) b in
    ⊎_elim
    (λ m.
    text-passed fs (board_text J T (round_in s) b) m
    ∙ ap text_of (sym (behind-outcome (table_checks T) rs bs (met-both (table_checks T) (set_checks s) m).0 t) ∙ behind-outcome fs rs bs m t))
    (λ u.
    unmet-text fs (board_text J T (round_in s) b) u.0 u.1
    ∙ ap text_of (front-outcome fs (rs ++ bs) u.0 u.1 t ∙ ap (λ (l : List Check). outcome l t) (sym (append_assoc fs rs bs))))
    (decided fs)

pub text-refused : TextRefused
text-refused J T s b k u = text-ruled J T s b ∙ unmet-text (ruling_checks T s b) _ k u

-- ---- the text by the ruling
module _ (J : Judges) (T s b : List ℕ) (o : Outcome Ruling) (I : RulingOf J T s b o) where
  pub refused-text : (k : Refusal) → o ≡ Err k → draw_text J T s b ≡ refused_line k
  refused-text k f = text-ruled J T s b ∙ unmet-text (ruling_checks T s b) _ k ((ruling-refused J T s b o I k).1 f)

  pub reported-text : (A : Ruling) → o ≡ Ok A → draw_text J T s b ≡ report_from A.setting A.judgement
  reported-text A f =
      let w = ruling-settled J T s b o I A f in
      text-ruled J T s b
      ∙ text-passed (ruling_checks T s b) _ ((ruling-reached J T s b o I).1 (A, f, w.setting))
      ∙ ap (λ (X : Setting). report J X b) (sym w.setting)
      ∙ sym (report-same J A.setting b A.judgement w.proper.n-most w.reached w.judgement)

-- ---- the table
pub table-first : TableFirst
unfolding draw_text
table-first J T s b k u = sym (ap text_of (front-outcome (table_checks T) (set_checks s) k u (board_text J T (round_in s) b)))

pub text-by-groups : TextByGroups
unfolding board_text draw_text
text-by-groups J T₁ T₂ s b m₁ m₂ e =
    let board : board_text J T₁ (round_in s) b ≡ board_text J T₂ (round_in s) b =
    ap text_of ((groups-alone T₁ T₂ (round_in s) m₁ m₂ e).answer (λ S. board_checks S b) (λ S. report J S b)) in
    ap text_of
    (sym (rest-outcome (table_checks T₁) (set_checks s) m₁ (board_text J T₁ (round_in s) b))
    ∙ ap (outcome (set_checks s)) board
    ∙ rest-outcome (table_checks T₂) (set_checks s) m₂ (board_text J T₂ (round_in s) b))
