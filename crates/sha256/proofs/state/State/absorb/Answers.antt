-- `State::absorb` is the schedule, the rounds, and the eight sums of the definition.
use Rattle.std.proofs.Common.{ap, ◌∙◌}
use Rattle.sha256.specs.Hash.{rounds, add_states, compress}
use Rattle.sha256.proofs.state.State.absorb.Goals as goal

pub returns : goal.returns
unfolding compress add_states
returns c =
    let s = c.args.self in
    ap (λ v. add_states v s) (c.rounds-v.ensures ∙ ap (λ w. rounds w s 64) c.schedule-w.ensures)
