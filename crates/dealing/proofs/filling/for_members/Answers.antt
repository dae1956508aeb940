-- `for_members` meets its contract. The loop's invariant: the same as the contract, of the first i members.
use native.Mathlib.Omega.{arith}
use Rattle.words.proofs.Lists.{filled_none}
use Rattle.sharing.proofs.EachMember.{members-next}
use Rattle.dealing.proofs.filling.for_members.Goals as goal

pub loop-i-init : goal.loop-i-init
loop-i-init g c = λ h e. filled_none 31

pub loop-i-preserved : goal.loop-i-preserved
loop-i-preserved g c =
    let l = c.loop-i in
    λ h e. members-next h l.i (l.invariant h e) (omega arith) (e l.i _ c.loop-i-test.true c.f.ensures)
