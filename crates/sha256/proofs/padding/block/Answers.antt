-- `block` gives the words of a block. Invariant: its first j words are those of the definition.
use Rattle.std.proofs.Common.{arith, rules}
use Rattle.sha256.proofs.Padded.{pad-blocks}
use Rattle.sha256.proofs.Blocks.{block-next, block-end}
use Rattle.sha256.proofs.padding.block.Goals as goal

pub overflow_mul-i : goal.overflow_mul-i
overflow_mul-i c = omega (arith, pad-blocks c.args.s.now)

pub overflow_add-i : goal.overflow_add-i
overflow_add-i c = omega (arith, pad-blocks c.args.s.now)

pub loop-j-preserved : goal.loop-j-preserved
loop-j-preserved c =
    let l = c.loop-j in
    (search rules, block-next _ _ l.m l.j l.invariant.1 _ c.loop-j-test.true (omega arith) c.padded_word.ensures)

pub returns : goal.returns
returns c =
    let l = c.loop-j in
    block-end _ _ l.m l.j l.invariant.1 l.invariant.0 c.loop-j-test.false
