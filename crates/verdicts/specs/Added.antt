-- Added shares: what they are shares of, and those that are accepted.
use Rattle.std.specs.Prelude.{List, ℕ}
use Rattle.words.specs.Lists.{map}
use Rattle.sharing.specs.Setting.{members}
use Rattle.sharing.specs.declared.Setting.{Setting}
use Rattle.sharing.specs.Sum.{product_of}
use Rattle.lines.specs.Lines.{Y_in}
use Rattle.share.specs.Share.{added_form}
use Rattle.board.specs.Search.{filter}
use Rattle.board.specs.Board.{lines_of}
use Rattle.verdicts.specs.Shares.{Judges, shares_in}
use Rattle.verdicts.specs.Verdict.{is_accepted}

-- the dealers whose dealings are accepted, however their secrets came
abbrev pub accepted_dealers : Judges → Setting → List ℕ → List ℕ
accepted_dealers J S b = filter (is_accepted J S b) (members S.n)

-- a figure of the lines for member i, v or Y, multiplied over the dealers ds
abbrev pub multiplied_at : ℕ → List ℕ → (List ℕ → ℕ → ℕ) → List ℕ → ℕ → ℕ
multiplied_at p b figure ds i = product_of p (map (λ d. figure (lines_of b d) i) ds)

-- and over all accepted dealings, member by member
unfoldable pub multiplied : Judges → Setting → List ℕ → (List ℕ → ℕ → ℕ) → List ℕ
multiplied J S b figure = map (multiplied_at S.group.p b figure (accepted_dealers J S b)) (members S.n)

-- the records of the accepted added shares, by ascending member: the judge of shares accepts them with the product of the Y
abbrev pub added_by : Judges → Setting → List ℕ → List ℕ
added_by J S b = shares_in J S b added_form (multiplied J S b Y_in)
