-- How a board ends with its records of kind 5 and without them. The verdicts are the same, so only the count of accepted added shares may
-- differ: without them it is 0, which is below t, and it is asked for only where the board is stuck.
use mathlib.Core.Path.{◌≡◌, refl, sym, ap, ◌∙◌}
use mathlib.Core.Bool.{Bool, true, false}
use mathlib.Core.List.{List, [], ◌∷◌}
use mathlib.Core.Logic.{◌⊎◌, inl, inr, ⊎_elim}
use Prim.Native.Nat.{ℕ}
use native.Mathlib.Omega.{arith}
use borrow.Author.Tests.{lt-leb}
use lib.ListN.{length, take}
use lib.Dec.{leb}
use Rattle.std.specs.Prelude.{Ok, Err}
use Rattle.words.specs.Choice.{pick}
use Rattle.words.specs.Checks.{◌unless◌, Outcome, outcome, Met}
use Rattle.words.specs.declared.Record.{Record}
use Rattle.words.specs.declared.refusal.Refusal.TheVariants.{StillStuck, TooFew}
use Rattle.words.proofs.Lists.{All-each, map_same}
use Rattle.words.proofs.Stages.{rest-outcome}
use Rattle.group.specs.declared.Element.{Element}
use Rattle.sharing.specs.Setting.{ProperSetting, members}
use Rattle.sharing.specs.declared.Setting.{Setting}
use Rattle.lines.specs.Lines.{Y_in}
use Rattle.share.specs.Share.{added_form}
use Rattle.board.specs.Board.{board_checks}
use Rattle.board.proofs.Order.{reached}
use Rattle.verdicts.specs.Shares.{Judges, recovered_from}
use Rattle.verdicts.specs.Verdict.{verdict_on, verdicts_on}
use Rattle.verdicts.specs.Added.{multiplied, added_by}
use Rattle.verdicts.specs.Draw.{count_accepted, any_stuck, secrets_product, draw_checks, draw_value, draw_in}
use Rattle.verdicts.specs.declared.Verdict.{Verdict}
use Rattle.verdicts.proofs.ShareAnswers.{none-of-kind}
use Rattle.demand3.specs.KindFive.{AddedAtEnd}
use Rattle.demand3.proofs.Front.{Front, front_of, record_same}
use Rattle.demand3.proofs.Found.{reached-front}
use Rattle.demand3.proofs.FrontVerdicts.{accepted-same, verdict-same}

-- ---- an end by its tests: enough dealings, a stuck one, enough added shares; by what the added shares recover, and by the product
abbrev ending : Bool → Bool → Bool → Element → Element → Outcome Element
ending enough stuck shares v w = outcome (TooFew unless enough ∷ StillStuck unless pick stuck shares true ∷ []) (pick stuck v w)

ends : (enough stuck shares : Bool) (v u w : Element)
    → (ending enough stuck shares v w ≡ ending enough stuck false u w)
    ⊎ ((ending enough stuck false u w ≡ Err StillStuck) × ((x : Element) × (ending enough stuck shares v w ≡ Ok x)))
ends false stuck shares v u w = inl refl
ends true false shares v u w = inl refl
ends true true true v u w = inr (refl, (v, refl))
ends true true false v u w = inl refl

-- ---- reached verdicts decide
module _ (J : Judges) (S : Setting) (b : List ℕ) where
  abbrev ending_by : List Verdict → Bool → Outcome Element
  ending_by vs shares =
      ending (leb S.t (count_accepted vs)) (any_stuck vs) shares
      (record { 0 = recovered_from S.group b (take S.t (added_by J S b)) })
      (record { 0 = secrets_product S.group.p vs })

  draw-is : Met (board_checks S b) → draw_in J S b ≡ ending_by (verdicts_on J S b) (leb S.t (length (added_by J S b)))
  unfolding draw_in
  draw-is met = sym (rest-outcome (board_checks S b) (draw_checks J S b) met (draw_value J S b))

module _ (J : Judges) (S : Setting) (P : ProperSetting S) {b c : List ℕ} (F : Front b c) (met : Met (board_checks S b)) where
  -- ---- no added share on the front
  none-added : added_by J S c ≡ []
  none-added =
      none-of-kind J S c added_form (multiplied J S c Y_in)
      (λ i h k. omega (arith, F.below i h, k, ap (λ (x : Record). x.w0) (record_same F i h)))

  too-few : leb S.t (length (added_by J S c)) ≡ false
  too-few =
      let z : length (added_by J S c) ≡ 0 = ap length none-added in
      lt-leb S.t (length (added_by J S c)) (omega (arith, P.t-positive))

  -- ---- the same verdicts
  pub verdicts-same : verdicts_on J S c ≡ verdicts_on J S b
  verdicts-same =
      map_same (verdict_on J S c) (verdict_on J S b) (members S.n) (All-each (members S.n) (λ d. verdict-same J S F met d))

  front-draw : draw_in J S c ≡ ending_by J S c (verdicts_on J S b) false
  front-draw =
      draw-is J S c (reached-front F S met) ∙ (λ j. ending_by J S c (verdicts-same j) (too-few j))

  -- ---- the end
  pub end_same : (draw_in J S b ≡ draw_in J S c) ⊎ ((draw_in J S c ≡ Err StillStuck) × ((v : Element) × (draw_in J S b ≡ Ok v)))
  end_same =
      let vs = verdicts_on J S b in
      ⊎_elim
      (λ e. inl (draw-is J S b met ∙ e ∙ sym front-draw))
      (λ e. inr (front-draw ∙ e.0, (e.1.0, draw-is J S b met ∙ e.1.1)))
      (ends (leb S.t (count_accepted vs)) (any_stuck vs) (leb S.t (length (added_by J S b)))
      (record { 0 = recovered_from S.group b (take S.t (added_by J S b)) })
      (record { 0 = recovered_from S.group c (take S.t (added_by J S c)) })
      (record { 0 = secrets_product S.group.p vs }))

pub added-at-end : AddedAtEnd
added-at-end J S P b met =
    let F = front_of S b (reached S b met).form in
    record {
      reached = reached-front F S met;
      verdict = λ d. sym (verdict-same J S F met d);
      accepted = λ d. sym (accepted-same J S F met d);
      count = ap count_accepted (sym (verdicts-same J S P F met));
      end = end_same J S P F met;
    }
