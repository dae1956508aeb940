-- What a board answers lies in its group: every secret, opened or recovered, and the draw value, from secrets or from added shares. So
-- picking plots and extending a chain take a draw value as the board judge answers it, and never refuse it by 6.
use Rattle.std.specs.Prelude.{◌≡◌, true, ◌&&◌, List, [], ◌∷◌, ◌++◌, ◌⊎◌, ℕ, ltb, eqb, Ok, Err}
use Rattle.words.specs.Lists.{All}
use Rattle.words.specs.Checks.{Check, ◌unless◌, Outcome, outcome, Met}
use Rattle.words.specs.Bytes.{record_in}
use Rattle.words.specs.declared.refusal.Refusal.TheVariants.{BadLength, NoElement}
use Rattle.group.specs.Element.{is_element}
use Rattle.group.specs.declared.Element.{Element}
use Rattle.group.specs.declared.Group.{Group}
use Rattle.sharing.specs.Setting.{ProperSetting, setting_in}
use Rattle.sharing.specs.declared.Round.{Round}
use Rattle.sharing.specs.declared.Setting.{Setting}
use Rattle.records.specs.Layout.{Z_of}
use Rattle.share.specs.declared.ShareForm.{ShareForm}
use Rattle.board.specs.Board.{board_checks}
use Rattle.verdicts.specs.Shares.{Judges, judges}
use Rattle.verdicts.specs.Verdict.{verdict_on}
use Rattle.verdicts.specs.Draw.{draw_in, draw_outcome}
use Rattle.verdicts.specs.declared.Judgement.{Judgement}
use Rattle.verdicts.specs.declared.Secret.TheVariants.{Opened, Recovered}
use Rattle.verdicts.specs.declared.Verdict.{Verdict}
use Rattle.verdicts.specs.declared.Verdict.TheVariants.{Accepted}
use Rattle.rulings.specs.Ruling.{JudgementOf, verdicts_of}
use Rattle.plots.specs.Picked.{plot_checks, pick_outcome}
use Rattle.chain.specs.Chain.{links_in, chain_checks, chain_outcome, extend_outcome}

-- ---- words of the claims
-- the secret of a verdict, opened or recovered, is an element; the other verdicts have none
abbrev pub SecretElement : Group → Verdict → Type 0
SecretElement G w = (v : Element) → (w ≡ Accepted (Opened v)) ⊎ (w ≡ Accepted (Recovered v)) → is_element G v.0 ≡ true

-- the judge of shares accepts no record whose Z is not an element
abbrev pub TakesElements : Judges → Type 0
TakesElements J =
    (S : Setting) (F : ShareForm) (i y Y : ℕ) (b : List ℕ) (Z : Element) → J.share S F i y Y b ≡ Ok Z
    → is_element S.group (Z_of (record_in b)) ≡ true

-- ---- secrets and draws
pub record ElementsOn (J : Judges) (S : Setting) (b : List ℕ) : Type 0 where
  pub secret : (d : ℕ) → SecretElement S.group (verdict_on J S b d)
  pub draw : (v : Element) → draw_in J S b ≡ Ok v → is_element S.group v.0 ≡ true

-- on every board whose verdicts are reached, by any judges of whom the one of shares takes elements only
abbrev pub BoardElements : Type 0
BoardElements =
    (J : Judges) → TakesElements J → (S : Setting) → ProperSetting S → (b : List ℕ) → Met (board_checks S b) → ElementsOn J S b

-- as does that of this repository
abbrev pub JudgesTakeElements : Type 0
JudgesTakeElements = TakesElements judges

-- so whatever the board judge answers over a table and a round lies in the round's group
pub record ElementsAnswered (T : List ℕ) (R : Round) (b : List ℕ) : Type 0 where
  pub secrets : (o : Outcome Judgement) → JudgementOf judges T R b o → All (SecretElement (setting_in T R).group) (verdicts_of o)
  pub draw : (v : Element) → draw_outcome judges T R b ≡ Ok v → is_element (setting_in T R).group v.0 ≡ true

abbrev pub AnswersElements : Type 0
AnswersElements = (T : List ℕ) (R : Round) (b : List ℕ) → ElementsAnswered T R b

-- ---- the draw value handed on, by the same table and under the number of the same group
-- picking plots by it answers what the radius, N, k and the length of the list decide: by 15, 16 or 3 it may be refused, by no other number
pub record PicksDraw (T : List ℕ) (number : ℕ) (v : Element) (radius N k room : ℕ) : Type 0 where
  pub answer : pick_outcome T number v radius N k room ≡ outcome (plot_checks radius N k room) tt
  pub not-by-6 : pick_outcome T number v radius N k room ≡ Err NoElement → ⊥

abbrev pub DrawPicks : Type 0
DrawPicks =
    (T : List ℕ) (R : Round) (b : List ℕ) (v : Element) → draw_outcome judges T R b ≡ Ok v
    → (radius N k room : ℕ) → PicksDraw T R.group v radius N k room

-- what extending a chain tests beside the chain and the draw value: that it is not full, and room for one link
abbrev pub link_room : List ℕ → ℕ → List Check
link_room c room = BadLength unless (ltb (links_in c) 1024 && eqb room 64) ∷ []

-- extending by it is refused by the chain's own number where the chain is refused, and else by that 3 alone. So 6 can only come from a link
-- that stands in the chain already, and never where the table accepts the chain
pub record ExtendsByDraw (T : List ℕ) (number v : ℕ) (c : List ℕ) (room : ℕ) : Type 0 where
  pub answer : extend_outcome T c number v room ≡ outcome (chain_checks T c ++ link_room c room) tt
  pub accepted : chain_outcome T c ≡ Ok tt → extend_outcome T c number v room ≡ outcome (link_room c room) tt
  pub not-by-6 : chain_outcome T c ≡ Ok tt → extend_outcome T c number v room ≡ Err NoElement → ⊥

abbrev pub DrawExtends : Type 0
DrawExtends =
    (T : List ℕ) (R : Round) (b : List ℕ) (v : Element) → draw_outcome judges T R b ≡ Ok v
    → (c : List ℕ) (room : ℕ) → ExtendsByDraw T R.group v.0 c room
