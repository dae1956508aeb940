-- `agrees` meets its contract: what `==` tests of two records is the definition.
use Rattle.words.specs.Bytes.{agrees}
use Rattle.words.proofs.agrees.Goals as goal

pub returns : goal.returns
unfolding agrees
returns c = c.eq.ensures
