-- `put_lines` meets its contract. The loop's invariant: what is written, with the lines that are left, is all the lines.
use mathlib.Core.List.{◌++◌}
use mathlib.Core.Path.{◌≡◌}
use Prim.Native.Nat.{◌*◌}
use lib.ListN.{take, drop}
use Rattle.sharing.specs.Setting.{members}
use Rattle.records.specs.Layout.{records_bytes}
use Rattle.lines.specs.Columns.{line_from}
use Rattle.lines.proofs.figures.put_lines.Given as goal

abbrev pub invariant-loop-i : goal.invariant-loop-i
invariant-loop-i l =
    let is = members l.n in
    let line = line_from l.round l.d l.vs l.encrypted l.rs l.c.0 in
    records_bytes line is ≡ take (32 * l.i) l.out ++ records_bytes line (drop l.i is)
