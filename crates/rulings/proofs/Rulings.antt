-- What is judged in the setting of the files is their ruling.
use mathlib.Core.Path.{◌≡◌, sym, ◌∙◌, subst}
use mathlib.Core.List.{List}
use Prim.Native.Nat.{ℕ}
use Rattle.std.specs.Prelude.{Ok, Err}
use Rattle.words.specs.Checks.{Outcome, FirstUnmet}
use Rattle.words.specs.declared.refusal.Refusal.{Refusal}
use Rattle.words.proofs.Checks.{refused-exactly}
use Rattle.words.proofs.Stages.{both-met, rest-first, front-first}
use Rattle.sharing.specs.Setting.{setting_in}
use Rattle.sharing.specs.declared.Setting.{Setting}
use Rattle.board.specs.Board.{board_checks}
use Rattle.verdicts.specs.Shares.{Judges}
use Rattle.verdicts.specs.declared.Judgement.{Judgement}
use Rattle.rulings.specs.Files.{round_in, setting_checks, files_outcome}
use Rattle.rulings.specs.Ruling.{JudgedIn, RulingMet, ruling_checks}
use Rattle.rulings.proofs.Settings.{files-value}

-- by the answer r of the function that gives the setting
module _ (J : Judges) (T s b : List ℕ) {r : Outcome Setting} (e : r ≡ files_outcome T s) where
  abbrev S : Setting
  S = setting_in T (round_in s)

  pub files-refused : {k : Refusal} → r ≡ Err k → FirstUnmet k (ruling_checks T s b)
  unfolding files_outcome
  files-refused {k} f =
      front-first (setting_checks T s) (board_checks S b) k ((refused-exactly Setting (setting_checks T s) S k).0 (sym e ∙ f))

  module _ {P : Setting} (f : r ≡ Ok P) where
    pub board-refused : (k : Refusal) → JudgedIn J P b (Err k) → FirstUnmet k (ruling_checks T s b)
    board-refused k u =
        let v = files-value T s e f in
        rest-first (setting_checks T s) (board_checks S b) k v.0 (subst (λ (Q : Setting). FirstUnmet k (board_checks Q b)) (sym v.1) u)

    pub ruled : {A : Judgement} → JudgedIn J P b (Ok A) → RulingMet J T s b (record { setting = P; judgement = A })
    ruled {A} j =
        let v = files-value T s e f in
        let h : JudgedIn J S b (Ok A) = subst (λ (Q : Setting). JudgedIn J Q b (Ok A)) (sym v.1) j in
        record { met = both-met (setting_checks T s) (board_checks S b) v.0 h.0; setting = sym v.1; judgement = h.1 }
