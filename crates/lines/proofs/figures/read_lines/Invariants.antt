-- `read_lines` meets its contract. The loop's invariant: the arrays hold the figures of the first i members' lines, and 0 behind.
use mathlib.Core.Path.{◌≡◌}
use Rattle.words.specs.Lists.{map, filled}
use Rattle.sharing.specs.Setting.{members}
use Rattle.lines.specs.Lines.{v_in, Y_in, r_in, c_in}
use Rattle.lines.proofs.figures.read_lines.Given as goal

abbrev pub invariant-loop-i : goal.invariant-loop-i
invariant-loop-i l =
    let is = members l.i in
    (l.vs ≡ filled 31 (map (v_in l.lines) is)) × (l.encrypted ≡ filled 31 (map (Y_in l.lines) is))
    × (l.rs ≡ filled 31 (map (r_in l.lines) is)) × (l.cs ≡ filled 31 (map (c_in l.lines) is))
