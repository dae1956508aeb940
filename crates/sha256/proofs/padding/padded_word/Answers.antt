-- `padded_word` gives a word of the message, the word in which it ends, the length or a zero, by where it stands.
use Rattle.std.proofs.Common.{sym, ◌∙◌, arith, rules}
use Rattle.sha256.proofs.Padded.{pad-length, pad-blocks, pad-word-in, pad-word-zero, pad-word-last}
use Rattle.sha256.proofs.padding.padded_word.Goals as goal

pub overflow_mul-k : goal.overflow_mul-k
overflow_mul-k c = omega (arith, pad-blocks c.args.s.now)

pub overflow_add-k : goal.overflow_add-k
overflow_add-k c = omega (arith, pad-blocks c.args.s.now)

pub returns-then-k-s : goal.returns-then-k-s
returns-then-k-s c = c.word_at.ensures ∙ sym (pad-word-in _ _ c.if-k-s.true)

pub end_word-requires : goal.end_word-requires
end_word-requires c = (search rules, omega (arith, pad-length c.args.s.now))

pub overflow_add-j : goal.overflow_add-j
overflow_add-j c = omega (arith, pad-blocks c.args.s.now)

pub overflow_mul-blocks : goal.overflow_mul-blocks
overflow_mul-blocks c = omega (arith, pad-blocks c.args.s.now, c.blocks-else-k-s-2.ensures)

pub returns-then-j-blocks : goal.returns-then-j-blocks
returns-then-j-blocks c =
    let s = c.args.s.now in
    sym (pad-word-last s c.requires.0 _ (omega (arith, pad-length s, pad-blocks s)))

pub returns-else-j-blocks : goal.returns-else-j-blocks
returns-else-j-blocks c =
    let s = c.args.s.now in
    sym (pad-word-zero s c.requires.0 _ (omega arith) (omega (arith, pad-length s, pad-blocks s)))
