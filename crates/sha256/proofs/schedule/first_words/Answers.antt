-- `first_words` holds the first sixteen words of the schedule.
use Rattle.std.proofs.Common.{◌≡◌, refl, arith}
use Rattle.words.proofs.Lists.{filled_none}
use Rattle.sha256.specs.Hash.{schedule}
use Rattle.sha256.proofs.ScheduleWords.{first_next}
use Rattle.sha256.proofs.schedule.first_words.Goals as goal

pub loop-t-init : goal.loop-t-init
unfolding schedule
loop-t-init c = filled_none 64

pub loop-t-preserved : goal.loop-t-preserved
loop-t-preserved c =
    let l = c.loop-t in
    first_next _ l.w l.t l.invariant _ (omega arith) c.loop-t-test.true refl

pub returns : goal.returns
returns c = let e : c.loop-t.t ≡ 16 = omega arith in rw e at c.loop-t.invariant
