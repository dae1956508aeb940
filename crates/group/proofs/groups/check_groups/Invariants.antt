-- `groups::check_groups` meets its contract. The loop's invariant: the checks of the groups from i on come to what those of all come to.
use mathlib.Core.Path.{◌≡◌}
use Rattle.words.specs.Checks.{outcome}
use Rattle.words.specs.Bytes.{records_in}
use Rattle.group.specs.Table.{groups_from, groups_checks}
use Rattle.group.proofs.Turns.{outcome_from}
use Rattle.group.proofs.groups.check_groups.Given as goal

abbrev pub invariant-loop-i : goal.invariant-loop-i
invariant-loop-i l =
    outcome (groups_checks (groups_from l.table 0 (records_in l.table))) (tt {0}) ≡ outcome_from l.table (records_in l.table) l.i
