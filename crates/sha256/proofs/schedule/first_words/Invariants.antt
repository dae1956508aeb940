-- `first_words` holds the first sixteen words of the schedule.
-- Invariant: the array holds the first t words of the schedule, and 0 behind them.
use Rattle.std.proofs.Common.{◌≡◌}
use Rattle.words.specs.Lists.{filled}
use Rattle.sha256.specs.Hash.{schedule}
use Rattle.sha256.proofs.schedule.first_words.Given as goal

abbrev pub invariant-loop-t : goal.invariant-loop-t
invariant-loop-t l = l.w ≡ filled 64 (schedule l.m l.t)
