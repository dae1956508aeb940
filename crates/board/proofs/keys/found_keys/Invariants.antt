-- `found_keys` meets its contract. The loop's invariant: the members after the first i have keys exactly if all have, and the array holds
-- the keys of the first i.
use mathlib.Core.Path.{◌≡◌}
use lib.ListN.{drop}
use Rattle.words.specs.Lists.{all, filled}
use Rattle.sharing.specs.Setting.{members}
use Rattle.board.specs.Board.{has_key, keys_in}
use Rattle.board.proofs.keys.found_keys.Given as goal

abbrev pub invariant-loop-i : goal.invariant-loop-i
invariant-loop-i l =
    record {
      tested : all (has_key l.b) (members l.n) ≡ all (has_key l.b) (drop l.i (members l.n));
      found : l.ys ≡ filled 31 (keys_in l.i l.b);
    }
