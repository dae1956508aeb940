-- `groups::are_groups` meets its contract. The loop's invariant: the records from i on are of their forms exactly if all are.
use mathlib.Core.Path.{◌≡◌}
use Prim.Native.Nat.{◌-◌}
use Rattle.words.specs.Bytes.{records_in}
use Rattle.group.specs.Table.{are_groups}
use Rattle.group.proofs.groups.are_groups.Given as goal

abbrev pub invariant-loop-i : goal.invariant-loop-i
invariant-loop-i l = are_groups l.table 0 (records_in l.table) ≡ are_groups l.table l.i (records_in l.table - l.i)
