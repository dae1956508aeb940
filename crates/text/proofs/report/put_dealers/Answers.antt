-- `put_dealers` meets its contract: after i turns the lines of the first i dealers are written.
use mathlib.Core.Path.{refl}
use native.Mathlib.Omega.{arith}
use Rattle.text.proofs.Writing.{written_none}
use Rattle.text.proofs.Dealers.{line-room, line-written}
use Rattle.text.proofs.report.put_dealers.Goals as goal

pub loop-i-init : goal.loop-i-init
loop-i-init c = let a = c.args in written_none a.at a.at a.out.now refl

pub put_dealer-next-requires : goal.put_dealer-next-requires
put_dealer-next-requires c =
    line-room c.args.at c.loop-i.i c.args.n c.args.verdicts _ c.requires.1 (omega arith) (omega arith) c.loop-i.invariant

pub loop-i-preserved : goal.loop-i-preserved
loop-i-preserved c =
    line-written c.args.at c.loop-i.i c.args.n c.args.verdicts _ c.requires.1 (omega arith) (omega arith) c.loop-i.invariant
    c.put_dealer-next.ensures
