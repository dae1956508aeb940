-- A board whose records ascend, as the functions that search by bisection ask for it.
use Rattle.std.specs.Prelude.{◌≡◌, true, List, ℕ, ◌<◌}
use Rattle.words.specs.Bytes.{records_in, record_at}
use Rattle.board.specs.Board.{is_above}

-- every record is above those before it
pub record Sorted (b : List ℕ) : Type 0 where
  pub ascends : (i j : ℕ) → i < j → j < records_in b → is_above (record_at b i) (record_at b j) ≡ true
