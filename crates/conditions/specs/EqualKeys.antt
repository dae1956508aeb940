-- A board that the scope paper let through and that is refused now, in the round of the other boards: the keys of four members, of which
-- the first and the last are equal.
use Rattle.std.specs.Prelude.{◌≡◌, List, ◌++◌, ℕ, Err}
use Rattle.words.specs.Checks.{Met}
use Rattle.words.specs.Bytes.{record_bytes}
use Rattle.words.specs.declared.refusal.Refusal.TheVariants.{TooFew, SameKey}
use Rattle.sharing.specs.Figures.{small}
use Rattle.records.specs.Layout.{key_layout}
use Rattle.records.specs.Claims.{KeyTwice}
use Rattle.board.specs.Board.{keys_in}
use Rattle.verdicts.specs.Shares.{judges}
use Rattle.verdicts.specs.Draw.{draw_in}
use Rattle.demand3.specs.Filed.{OfThen, filed_board_checks, filed_draw}

abbrev pub equal_keys : List ℕ
equal_keys = record_bytes (key_layout 1 4 0) ++ (record_bytes (key_layout 2 9 0) ++ (record_bytes (key_layout 3 2 0) ++ record_bytes (key_layout 4 4 0)))

-- it meets what is asked of such a board; the scope paper let it through to the verdicts, and found too few dealings
pub record EqualKeysFiled : Type 0 where
  pub of-then : OfThen equal_keys
  pub let_through : Met (filed_board_checks small equal_keys)
  pub twice : KeyTwice small.group (keys_in small.n equal_keys)
  pub then : filed_draw small equal_keys ≡ Err TooFew
  pub now : draw_in judges small equal_keys ≡ Err SameKey
