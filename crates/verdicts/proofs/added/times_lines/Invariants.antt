-- `times_lines` meets its contract. The loop's invariant: the products of the first i members are multiplied, the others are as they were.
use mathlib.Core.Path.{◌≡◌}
use lib.ListN.{take, drop}
use Rattle.words.specs.Lists.{map, entry}
use Rattle.field.specs.Residue.{mul}
use Rattle.sharing.specs.Setting.{members}
use Rattle.lines.specs.Lines.{Y_in}
use Rattle.verdicts.proofs.added.times_lines.Given as goal

abbrev pub invariant-loop-i : goal.invariant-loop-i
invariant-loop-i l =
    record {
      done : take l.i l.products ≡ map (λ j. mul l.gr.p (Y_in l.lines j) (entry l.initial.products j)) (members l.i);
      rest : drop l.i l.products ≡ drop l.i l.initial.products;
    }
