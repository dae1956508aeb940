-- What is judged in the setting of a round is judged over the table and the round.
use mathlib.Core.Path.{◌≡◌, sym, ◌∙◌, subst}
use mathlib.Core.List.{List}
use Prim.Native.Nat.{ℕ}
use Rattle.std.specs.Prelude.{Ok, Err}
use Rattle.words.specs.Checks.{Outcome, Met, FirstUnmet}
use Rattle.words.specs.declared.refusal.Refusal.{Refusal}
use Rattle.words.proofs.Checks.{value-met, refused-exactly}
use Rattle.words.proofs.Stages.{both-met, rest-first, front-first}
use Rattle.sharing.specs.Setting.{setting_in, round_checks, setting_outcome}
use Rattle.sharing.specs.declared.Round.{Round}
use Rattle.sharing.specs.declared.Setting.{Setting}
use Rattle.board.specs.Board.{board_checks}
use Rattle.verdicts.specs.Shares.{Judges}
use Rattle.verdicts.specs.declared.Judgement.{Judgement}
use Rattle.rulings.specs.Ruling.{JudgedIn, JudgementOf, judgement_checks}

module _ (J : Judges) (T : List ℕ) (R : Round) (b : List ℕ) where
  abbrev S : Setting
  S = setting_in T R

  pub judged-behind : Met (round_checks T R) → (o : Outcome Judgement) → JudgedIn J S b o → JudgementOf J T R b o
  judged-behind m (Ok A) j = (both-met (round_checks T R) (board_checks S b) m j.0, j.1)
  judged-behind m (Err k) u = rest-first (round_checks T R) (board_checks S b) k m u

  -- by the answer r of the function that gives the setting
  module _ {r : Outcome Setting} (e : r ≡ setting_outcome T R) where
    pub round-refused : {k : Refusal} → r ≡ Err k → FirstUnmet k (judgement_checks T R b)
    unfolding setting_outcome
    round-refused {k} f =
        front-first (round_checks T R) (board_checks S b) k ((refused-exactly Setting (round_checks T R) S k).0 (sym e ∙ f))

    pub judged-round : {P : Setting} → r ≡ Ok P → (o : Outcome Judgement) → JudgedIn J P b o → JudgementOf J T R b o
    unfolding setting_outcome
    judged-round {P} f o j =
        let v = value-met (round_checks T R) S P (sym e ∙ f) in
        judged-behind v.0 o (subst (λ (Q : Setting). JudgedIn J Q b o) (sym v.1) j)
