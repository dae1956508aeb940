-- `check_records` meets its contract. The loop's invariant: the checks of the records from i on come to what those of all come to, and
-- `before` is the record before them.
use mathlib.Core.Path.{◌≡◌}
use Rattle.words.specs.Checks.{outcome}
use Rattle.words.specs.Bytes.{records_in}
use Rattle.board.specs.Board.{record_checks}
use Rattle.board.proofs.Steps.{record_before, outcome_from}
use Rattle.board.proofs.form.check_records.Given as goal

abbrev pub invariant-loop-i : goal.invariant-loop-i
invariant-loop-i l =
    record {
      before : l.before ≡ record_before l.b l.i;
      same : outcome (record_checks l.s l.b 0 (records_in l.b)) (tt {0}) ≡ outcome_from l.s l.b (records_in l.b) l.i;
    }
