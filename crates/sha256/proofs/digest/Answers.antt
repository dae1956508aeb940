-- `digest` refuses a message that is too long, and else absorbs its blocks.
-- Invariant: the state is the hash value after the first i blocks.
use Rattle.std.proofs.Common.{◌≡◌, ◌≤◌, length, ap, ◌∙◌, add-one, arith, le-leb}
use Rattle.sha256.specs.Padding.{pad, blocks}
use Rattle.sha256.specs.Hash.{compress, state_record, intermediate, hash_value}
use Rattle.sha256.proofs.digest.Goals as goal
use Rattle.std.specs.Prelude.{Ok}

pub loop-i-init : goal.loop-i-init
unfolding intermediate
loop-i-init c = c.new-state.ensures

pub loop-i-preserved : goal.loop-i-preserved
unfolding intermediate
loop-i-preserved c = rw add-one (c.absorb-state.ensures ∙ (λ j. compress (c.loop-i.invariant j) (c.block.ensures j)))

pub returns : goal.returns
unfolding hash_value
returns c =
    let a = c.args in
    let e : c.loop-i.i ≡ blocks (pad a.s.now) = omega arith in
    let r = c.hash_value.ensures ∙ (λ j. state_record ((c.loop-i.invariant ∙ ap (intermediate (pad a.s.now)) e) j)) in
    let short : length a.s.now ≤ 65536 = omega arith in
    rw (le-leb _ _ short) (ap Ok r)
