-- The count of accepted dealings, the draw value, and the answer where verdicts are reached.
use Rattle.std.specs.Prelude.{◌≡◌, Bool, true, false, List, [], ◌∷◌, ◌++◌, ℕ, ◌+◌, length, take, replicate, leb}
use Rattle.words.specs.Choice.{pick}
use Rattle.words.specs.Lists.{map, up_from}
use Rattle.words.specs.Checks.{Check, ◌unless◌, Outcome, outcome}
use Rattle.field.specs.Residue.{mul}
use Rattle.group.specs.declared.Element.{Element}
use Rattle.sharing.specs.Setting.{judged}
use Rattle.sharing.specs.declared.Round.{Round}
use Rattle.sharing.specs.declared.Setting.{Setting}
use Rattle.board.specs.Board.{board_checks}
use Rattle.verdicts.specs.Shares.{Judges, recovered_from}
use Rattle.verdicts.specs.Verdict.{is_stuck, verdict_on, verdicts_on}
use Rattle.verdicts.specs.Added.{added_by}
use Rattle.verdicts.specs.declared.Secret.{Secret}
use Rattle.verdicts.specs.declared.Secret.TheVariants.{Opened, Recovered, Stuck}
use Rattle.verdicts.specs.declared.Verdict.{Verdict}
use Rattle.verdicts.specs.declared.Verdict.TheVariants.{None, Refused, Accepted}
use Rattle.verdicts.specs.declared.Judgement.{Judgement}
use Rattle.words.specs.declared.refusal.Refusal.TheVariants.{StillStuck, TooFew}

-- ---- over the verdicts
-- 1 for an accepted dealing, stuck or not
abbrev pub count_one : Verdict → ℕ
count_one None = 0
count_one (Refused k) = 0
count_one (Accepted s) = 1

abbrev pub count_accepted : List Verdict → ℕ
count_accepted [] = 0
count_accepted (v ∷ vs) = count_one v + count_accepted vs

abbrev pub any_stuck : List Verdict → Bool
any_stuck [] = false
any_stuck (v ∷ vs) = pick (is_stuck v) true (any_stuck vs)

-- a secret's value; a stuck one has none
abbrev pub secret_value : Secret → ℕ
secret_value (Opened v) = v.0
secret_value (Recovered v) = v.0
secret_value Stuck = 1

abbrev pub times_secret : ℕ → Verdict → ℕ → ℕ
times_secret p None x = x
times_secret p (Refused k) x = x
times_secret p (Accepted s) x = mul p (secret_value s) x

-- the product modulo p of the secrets of all accepted dealings
abbrev pub secrets_product : ℕ → List Verdict → ℕ
secrets_product p [] = 1
secrets_product p (v ∷ vs) = times_secret p v (secrets_product p vs)

-- ---- the draw
-- 14 fewer than t accepted, then 13 a stuck dealing where fewer than t added shares are accepted
abbrev pub end_checks : ℕ → ℕ → Bool → ℕ → List Check
end_checks t accepted stuck added = TooFew unless leb t accepted ∷ StillStuck unless pick stuck (leb t added) true ∷ []

abbrev pub draw_checks : Judges → Setting → List ℕ → List Check
draw_checks J S b = let vs = verdicts_on J S b in end_checks S.t (count_accepted vs) (any_stuck vs) (length (added_by J S b))

-- the product of the secrets or, where a dealing is stuck, what the t lowest members with accepted added shares recover
abbrev pub draw_value : Judges → Setting → List ℕ → Element
draw_value J S b =
    let vs = verdicts_on J S b in
    pick (any_stuck vs)
    (record { 0 = recovered_from S.group b (take S.t (added_by J S b)) })
    (record { 0 = secrets_product S.group.p vs })

unfoldable pub reached_draw : Judges → Setting → List ℕ → Outcome Element
reached_draw J S b = outcome (draw_checks J S b) (draw_value J S b)

-- the draw of a board: the checks before its verdicts come first
abbrev pub board_draw_checks : Judges → Setting → List ℕ → List Check
board_draw_checks J S b = board_checks S b ++ draw_checks J S b

unfoldable pub draw_in : Judges → Setting → List ℕ → Outcome Element
draw_in J S b = outcome (board_draw_checks J S b) (draw_value J S b)

unfoldable pub draw_outcome : Judges → List ℕ → Round → List ℕ → Outcome Element
draw_outcome J T R b = judged T R (λ S. board_draw_checks J S b) (λ S. draw_value J S b)

-- ---- the board judge's answer
-- the places of 31 dealers, of whom the first n have a verdict
abbrev pub place_for : (ℕ → Verdict) → ℕ → ℕ → Verdict
place_for w n d = pick (leb d n) (w d) None

unfoldable pub verdict_places : (ℕ → Verdict) → ℕ → List Verdict
verdict_places w n = map (place_for w n) (up_from 1 31)

-- no verdict
abbrev pub no_verdicts : List Verdict
no_verdicts = replicate 31 None

-- where verdicts are reached
pub record JudgementIn (J : Judges) (S : Setting) (b : List ℕ) (A : Judgement) : Type 0 where
  pub verdicts : A.verdicts ≡ verdict_places (verdict_on J S b) S.n
  pub accepted : A.accepted ≡ count_accepted (verdicts_on J S b)
  pub draw : A.draw ≡ reached_draw J S b
