-- What is judged in the same round under the other rule. Before the verdicts a board is refused by the same number; and nothing can refuse
-- a dealing or a share that is accepted under the one rule but the equations that have challenges in them, by 9 or 10.
use Rattle.std.specs.Prelude.{◌≡◌, Bool, List, [], ◌∷◌, ℕ, eqb, Ok}
use Rattle.words.specs.Lists.{all}
use Rattle.words.specs.Checks.{◌unless◌, outcome}
use Rattle.words.specs.Bytes.{record_in}
use Rattle.words.specs.declared.refusal.Refusal.TheVariants.{ProofFails}
use Rattle.group.specs.declared.Element.{Element}
use Rattle.sharing.specs.Setting.{ProperSetting, in_round, members}
use Rattle.sharing.specs.Carried.{Carries}
use Rattle.sharing.specs.declared.Setting.{Setting}
use Rattle.records.specs.Layout.{share_c}
use Rattle.lines.specs.Lines.{v_in, Y_in, r_in, c_in, vs_in}
use Rattle.dealing.specs.Dealing.{recomputed, equation_checks, judge_dealing_in}
use Rattle.share.specs.Share.{share_recomputed, judge_share_in}
use Rattle.share.specs.declared.ShareForm.{ShareForm}
use Rattle.board.specs.Board.{board_checks, lines_checks}

-- the same setting under a rule
abbrev pub under_rule : Bool → Setting → Setting
under_rule whole S = in_round S.round whole S

pub record UnderRule (S : Setting) (whole : Bool) : Type 0 where
  -- a dealer's lines, and all that is refused before the verdicts
  pub lines : (d : ℕ) (b : List ℕ) → lines_checks (under_rule whole S) d b ≡ lines_checks S d b
  pub board : (b : List ℕ) → board_checks (under_rule whole S) b ≡ board_checks S b
  -- a dealing: 9 if the judge's own check polynomial does not pass now, then 10 if a challenge is not the recomputed one
  pub dealing : (d : ℕ) (ys b : List ℕ) → judge_dealing_in S d ys b ≡ Ok tt
      → judge_dealing_in (under_rule whole S) d ys b ≡ outcome (equation_checks (under_rule whole S) d ys (v_in b) (Y_in b) (r_in b) (c_in b)) tt
  -- a dealing that a polynomial of degree below t carries: 10 alone
  pub carried : (d : ℕ) (ys b f : List ℕ) → Carries S f (vs_in S.n b) → judge_dealing_in S d ys b ≡ Ok tt
      → judge_dealing_in (under_rule whole S) d ys b
      ≡ outcome (ProofFails unless all (λ i. eqb (c_in b i) (recomputed (under_rule whole S) d ys (v_in b) (Y_in b) (r_in b) (c_in b))) (members S.n) ∷ []) tt
  -- a share in any form: 10 alone, and the same Z
  pub share : (F : ShareForm) (i y Y : ℕ) (b : List ℕ) (Z : Element) → judge_share_in S F i y Y b ≡ Ok Z
      → judge_share_in (under_rule whole S) F i y Y b
      ≡ outcome (ProofFails unless eqb (share_c (record_in b)) (share_recomputed (under_rule whole S) F i y Y (record_in b)) ∷ []) Z

abbrev pub UnderOtherRule : Type 0
UnderOtherRule = (S : Setting) → ProperSetting S → (whole : Bool) → UnderRule S whole
