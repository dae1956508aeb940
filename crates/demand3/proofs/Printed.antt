-- The text of `draw` where verdicts are reached, by its lines; then with records of kind 5 and without them.
use mathlib.Core.Path.{◌≡◌, sym, ap, ◌∙◌}
use mathlib.Core.List.{List, ◌++◌, append_assoc}
use mathlib.Core.Logic.{inl, inr, ⊎_elim}
use Prim.Native.Nat.{ℕ}
use Rattle.words.specs.Checks.{Outcome, Met}
use Rattle.words.proofs.Lists.{All-each, map_same}
use Rattle.words.proofs.Stages.{met-both, both-met}
use Rattle.group.specs.Table.{groups_of, table_checks}
use Rattle.group.specs.declared.Element.{Element}
use Rattle.sharing.specs.Setting.{setting_in, round_figures, round_checks, members}
use Rattle.sharing.specs.declared.Round.{Round}
use Rattle.sharing.specs.declared.Setting.{Setting}
use Rattle.sharing.proofs.Rounds.{round-proper}
use Rattle.board.specs.Board.{board_checks}
use Rattle.verdicts.specs.Shares.{Judges}
use Rattle.verdicts.specs.Verdict.{verdict_on, verdicts_on}
use Rattle.verdicts.specs.Draw.{count_accepted, draw_in, draw_outcome}
use Rattle.rulings.specs.Files.{set_checks, round_in, file_checks, setting_checks}
use Rattle.rulings.specs.Ruling.{ruling_checks}
use Rattle.text.specs.Text.{round_line, dealer_lines, accepted_line, draw_line, report, draw_text}
use Rattle.text.proofs.Reports.{text-passed, text-ruled}
use Rattle.demand3.specs.KindFive.{without_added, SameButEnd}
use Rattle.demand3.specs.Printed.{lines_before, AddedPrinted}
use Rattle.demand3.proofs.TwoBoards.{draw-by-round}
use Rattle.demand3.proofs.FrontDraw.{added-at-end}

module _ (J : Judges) (T s b : List ℕ) where
  abbrev R : Round
  R = round_in s

  abbrev S : Setting
  S = setting_in T R

  -- the report by its lines
  in_lines : report J S b ≡ lines_before J T s b ++ draw_line (draw_in J S b)
  unfolding report lines_before
  in_lines =
      let vs = verdicts_on J S b in
      let count = accepted_line (count_accepted vs) in
      let last = draw_line (draw_in J S b) in
      ap (λ (t : List ℕ). round_line S ++ t) (sym (append_assoc (dealer_lines 1 vs) count last))
      ∙ sym (append_assoc (round_line S) (dealer_lines 1 vs ++ count) last)

  reached : Met (ruling_checks T s b) → Met (round_checks T R) × Met (board_checks S b)
  unfolding round_checks
  reached m =
      let figures = round_figures (groups_of T) R in
      let a = met-both (setting_checks T s) (board_checks S b) m in
      let f = met-both (file_checks T s) figures a.0 in
      (both-met (table_checks T) figures (met-both (table_checks T) (set_checks s) f.0).0 f.1, a.1)

  printed : Met (ruling_checks T s b) → draw_text J T s b ≡ lines_before J T s b ++ draw_line (draw_outcome J T R b)
  printed m =
      text-ruled J T s b
      ∙ text-passed (ruling_checks T s b) (report J S b) m
      ∙ in_lines
      ∙ ap (λ (o : Outcome Element). lines_before J T s b ++ draw_line o) (sym ((draw-by-round J T R).draw-in (reached m).0 b))

-- ---- with records of kind 5 and without them
lines_same : (J : Judges) (T s b : List ℕ) → SameButEnd J (setting_in T (round_in s)) b
    → lines_before J T s (without_added b) ≡ lines_before J T s b
unfolding lines_before
lines_same J T s b E =
    let S = setting_in T (round_in s) in
    let vs : verdicts_on J S (without_added b) ≡ verdicts_on J S b =
    map_same (verdict_on J S (without_added b)) (verdict_on J S b) (members S.n) (All-each (members S.n) (λ d. sym (E.verdict d))) in
    λ j. round_line S ++ (dealer_lines 1 (vs j) ++ accepted_line (count_accepted (vs j)))

pub added-printed : AddedPrinted
added-printed J T s b m =
    let R = round_in s in
    let S = setting_in T R in
    let c = without_added b in
    let met = reached J T s b m in
    let E = added-at-end J S (round-proper T R met.0) b met.1 in
    let n = both-met (setting_checks T s) (board_checks S c) (met-both (setting_checks T s) (board_checks S b) m).0 E.reached in
    let draw = (draw-by-round J T R).draw-in met.0 in
    record {
      with-added = printed J T s b m;
      without-added = printed J T s c n ∙ ap (λ (t : List ℕ). t ++ draw_line (draw_outcome J T R c)) (lines_same J T s b E);
      last =
          ⊎_elim
          (λ e. inl (draw b ∙ e ∙ sym (draw c)))
          (λ e. inr (draw c ∙ e.0, (e.1.0, draw b ∙ e.1.1)))
          E.end;
    }
