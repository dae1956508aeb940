-- `schedule` fills the array. Invariant: it holds the first t words of the definition, and 0 behind them.
use Rattle.std.proofs.Common.{arith}
use Rattle.sha256.proofs.ScheduleWords.{words-all, later-next}
use Rattle.sha256.proofs.schedule.schedule.Goals as goal

pub loop-t-preserved : goal.loop-t-preserved
loop-t-preserved c =
    let l = c.loop-t in
    later-next _ l.w l.t l.invariant _ c.loop-t-test.true (omega arith) c.later_word.ensures

pub returns : goal.returns
returns c =
    let l = c.loop-t in
    words-all _ l.w l.t l.invariant (omega arith)
