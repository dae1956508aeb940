-- `read_record` meets its contract: each of its eight words is the definition's.
use Rattle.words.specs.Bytes.{record_in}
use Rattle.words.proofs.read_record.Goals as goal

pub returns : goal.returns
unfolding record_in
returns c =
    λ j. record {
      w0 = c.word_at.ensures j;
      w1 = c.word_at-2.ensures j;
      w2 = c.word_at-3.ensures j;
      w3 = c.word_at-4.ensures j;
      w4 = c.word_at-5.ensures j;
      w5 = c.word_at-6.ensures j;
      w6 = c.word_at-7.ensures j;
      w7 = c.word_at-8.ensures j;
    }
