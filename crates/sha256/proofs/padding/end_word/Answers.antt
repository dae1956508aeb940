-- `end_word` puts four bytes together.
use Rattle.std.proofs.Common.{◌∙◌, arith}
use Rattle.words.specs.Bytes.{word, word_at}
use Rattle.sha256.proofs.Padded.{pad-length}
use Rattle.sha256.proofs.padding.end_word.Goals as goal

pub overflow_add-k : goal.overflow_add-k
overflow_add-k c = omega (arith, pad-length c.args.s.now)

pub overflow_add-k-2 : goal.overflow_add-k-2
overflow_add-k-2 c = omega (arith, pad-length c.args.s.now)

pub overflow_add-k-3 : goal.overflow_add-k-3
overflow_add-k-3 c = omega (arith, pad-length c.args.s.now)

pub returns : goal.returns
unfolding word_at
returns c =
    c.from_be_bytes.ensures
    ∙ (λ j. word (c.padded_byte.ensures j) (c.padded_byte-2.ensures j) (c.padded_byte-3.ensures j) (c.padded_byte-4.ensures j))
