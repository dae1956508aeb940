-- `word_at` meets its contract: the definition's four bytes are those that are read.
use Rattle.words.specs.Bytes.{word_at}
use Rattle.words.proofs.word_at.Goals as goal

pub returns : goal.returns
unfolding word_at
returns c = c.from_be_bytes.ensures
