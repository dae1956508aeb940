-- `State::rounds` is the 64 rounds. Invariant: the working variables are those after two rounds for each turn.
use Rattle.std.proofs.Common.{◌≡◌, ◌*◌}
use Rattle.sha256.specs.Hash.{rounds}
use Rattle.sha256.proofs.state.State.rounds.Given as goal

abbrev pub invariant-loop-t : goal.invariant-loop-t
invariant-loop-t l = l.self ≡ rounds l.w l.initial.self (2 * l.t)
