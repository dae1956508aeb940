-- `State::round` is one round of the definition, sum by sum.
use Rattle.sha256.specs.Hash.{T₁, T₂, round}
use Rattle.sha256.proofs.state.State.round.Goals as goal

pub returns : goal.returns
unfolding round T₁ T₂
returns c = rw (c.big_sigma1.ensures, c.ch.ensures, c.big_sigma0.ensures, c.maj.ensures)
