-- `State::new` gives the initial hash value, word by word.
use Rattle.std.proofs.Common.{refl}
use Rattle.sha256.specs.Constants.{initial}
use Rattle.sha256.proofs.state.State.new.Goals as goal

pub returns : goal.returns
unfolding initial
returns c = refl
