-- What the loops gather: the t lowest members with accepted shares in a form, as an array holds them, and one dealer's part of the
-- products of all.
use Rattle.std.specs.Prelude.{List, ℕ, ◌+◌, length, take, set}
use Rattle.words.specs.Choice.{pick}
use Rattle.words.specs.Lists.{map, filled}
use Rattle.words.specs.Bytes.{record_at}
use Rattle.field.specs.Residue.{mul}
use Rattle.sharing.specs.declared.Setting.{Setting}
use Rattle.records.specs.Layout.{member_of, Z_of}
use Rattle.lines.specs.Lines.{Y_in}
use Rattle.share.specs.declared.ShareForm.{ShareForm}
use Rattle.board.specs.Board.{lines_of}
use Rattle.verdicts.specs.Shares.{Judges, is_share_in, shares_in}
use Rattle.verdicts.specs.Verdict.{is_accepted}
use Rattle.verdicts.specs.declared.GatheredShares.{GatheredShares}

-- one more behind the others
abbrev pub pushed : ℕ → ℕ → GatheredShares → GatheredShares
pushed m z A = record { members = set A.members A.count m; shares = set A.shares A.count z; count = A.count + 1 }

-- one more, with its member and its share, where the record i is an accepted share
unfoldable pub with_share : Judges → Setting → List ℕ → ShareForm → List ℕ → ℕ → GatheredShares → GatheredShares
with_share J S b F Ys i A =
    pick (is_share_in J S b F Ys i) (pushed (member_of (record_at b i)) (Z_of (record_at b i)) A) A

-- the members and shares of records, in order, and 0 behind them
unfoldable pub held_of : List ℕ → List ℕ → GatheredShares
held_of b is =
    record { members = filled 31 (map (λ i. member_of (record_at b i)) is); shares = filled 31 (map (λ i. Z_of (record_at b i)) is); count = length is }

-- those of the first t records of accepted shares
unfoldable pub lowest_in : Judges → Setting → List ℕ → ShareForm → List ℕ → GatheredShares
lowest_in J S b F Ys = held_of b (take S.t (shares_in J S b F Ys))

-- the figures f of the members, times the Y in the lines of the dealer d where his dealing is accepted
abbrev pub times_accepted : Judges → Setting → List ℕ → ℕ → (ℕ → ℕ) → ℕ → ℕ
times_accepted J S b d f i = pick (is_accepted J S b d) (mul S.group.p (Y_in (lines_of b d) i) (f i)) (f i)
