-- What records of kind 5 may change in the text of `draw` for a board whose verdicts are reached: the last line alone.
use Rattle.std.specs.Prelude.{◌≡◌, List, ◌++◌, ◌⊎◌, ℕ, Ok, Err}
use Rattle.words.specs.Checks.{Met}
use Rattle.words.specs.declared.refusal.Refusal.TheVariants.{StillStuck}
use Rattle.group.specs.declared.Element.{Element}
use Rattle.sharing.specs.Setting.{setting_in}
use Rattle.verdicts.specs.Shares.{Judges}
use Rattle.verdicts.specs.Verdict.{verdicts_on}
use Rattle.verdicts.specs.Draw.{count_accepted, draw_outcome}
use Rattle.rulings.specs.Files.{round_in}
use Rattle.rulings.specs.Ruling.{ruling_checks}
use Rattle.text.specs.Text.{round_line, dealer_lines, accepted_line, draw_line, draw_text}
use Rattle.demand3.specs.KindFive.{without_added}

-- the lines before the last: the round, the verdict on each dealer, the count of accepted dealings
unfoldable pub lines_before : Judges → List ℕ → List ℕ → List ℕ → List ℕ
lines_before J T s b =
    let S = setting_in T (round_in s) in
    let vs = verdicts_on J S b in
    round_line S ++ (dealer_lines 1 vs ++ accepted_line (count_accepted vs))

-- the text for the board with its records of kind 5 and for the board without them: the lines before the last are the same, and so is the
-- last, but that it may be `draw V` with them where it is `refused 13` without them
pub record SameButLastLine (J : Judges) (T s b : List ℕ) : Type 0 where
  pub with-added : draw_text J T s b ≡ lines_before J T s b ++ draw_line (draw_outcome J T (round_in s) b)
  pub without-added : draw_text J T s (without_added b) ≡ lines_before J T s b ++ draw_line (draw_outcome J T (round_in s) (without_added b))
  pub last : (draw_outcome J T (round_in s) b ≡ draw_outcome J T (round_in s) (without_added b))
      ⊎ ((draw_outcome J T (round_in s) (without_added b) ≡ Err StillStuck) × ((v : Element) × (draw_outcome J T (round_in s) b ≡ Ok v)))

-- on every board whose verdicts are reached (of any other the refusal is the whole text: text-refused); nothing is asked of the judges
abbrev pub AddedPrinted : Type 0
AddedPrinted = (J : Judges) (T s b : List ℕ) → Met (ruling_checks T s b) → SameButLastLine J T s b
