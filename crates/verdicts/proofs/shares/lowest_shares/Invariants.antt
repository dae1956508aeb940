-- `lowest_shares` meets its contract. The loop's invariant: what is found is the first t that the form's shares before i give.
use mathlib.Core.Path.{◌≡◌}
use Prim.Native.Nat.{◌-◌}
use Rattle.verdicts.specs.Shares.{judges}
use Rattle.verdicts.proofs.Gathering.{held_at}
use Rattle.verdicts.proofs.shares.lowest_shares.Given as goal

abbrev pub invariant-loop-i : goal.invariant-loop-i
invariant-loop-i l = l.found ≡ held_at judges l.s l.b l.form l.encrypted l.start (l.i - l.start)
