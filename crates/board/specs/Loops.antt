-- What the loops over a board work with: one record behind another, and the keys as they are found.
use Rattle.std.specs.Prelude.{List, [], ◌∷◌, Option, Some, None, ℕ}
use Rattle.words.specs.Choice.{pick}
use Rattle.words.specs.Lists.{all, filled}
use Rattle.words.specs.Checks.{Check, ◌unless◌}
use Rattle.words.specs.declared.Record.{Record}
use Rattle.sharing.specs.Setting.{members}
use Rattle.sharing.specs.declared.Setting.{Setting}
use Rattle.records.specs.Layout.{is_of_round}
use Rattle.board.specs.Board.{is_shaped, is_above, has_key, keys_in}
use Rattle.words.specs.declared.refusal.Refusal.TheVariants.{BadForm, OutOfOrder, OtherRound}

-- the record r behind the record q: 4 a shape that is none of the table's, 17 another round, 5 not above q
abbrev pub next_record_checks : Setting → Record → Record → List Check
next_record_checks S q r =
    BadForm unless is_shaped S.n r ∷ OtherRound unless is_of_round S.round r ∷ OutOfOrder unless is_above q r ∷ []

-- the members' keys and 0 behind them, none where one is missing
unfoldable pub found_keys : ℕ → List ℕ → Option (List ℕ)
found_keys n b = pick (all (has_key b) (members n)) (Some (filled 31 (keys_in n b))) None
