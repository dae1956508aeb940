-- `later_word` adds the four words in the order of the definition.
use Rattle.sha256.specs.Hash.{later}
use Rattle.sha256.proofs.schedule.later_word.Goals as goal

pub returns : goal.returns
unfolding later
returns c = rw (c.small_sigma1.ensures, c.small_sigma0.ensures)
