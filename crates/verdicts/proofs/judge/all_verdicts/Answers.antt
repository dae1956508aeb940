-- `all_verdicts` meets its contract. The loop's invariant: what is held is what the dealers above d give.
use mathlib.Core.Path.{◌≡◌, sym}
use native.Mathlib.Omega.{arith}
use borrow.Author.Rules.{rules}
use lib.ListN.{take}
use lib.Seq.{length-take-le}
use Rattle.board.specs.Board.{key_in, keys_in}
use Rattle.board.proofs.Order.{reached, sorted}
use Rattle.verdicts.specs.Shares.{judges}
use Rattle.verdicts.specs.Verdict.{verdict_on}
use Rattle.verdicts.proofs.Turns.{above-start, above-next, all-verdicts, count_most}
use Rattle.verdicts.proofs.Judgements.{above-judged}
use Rattle.sharing.proofs.EachMember.{members-front}
use Rattle.verdicts.proofs.judge.all_verdicts.Goals as goal

pub board_keys-ys-requires : goal.board_keys-ys-requires
board_keys-ys-requires c =
    let b = c.args.b.now in
    let r = reached c.args.s b c.requires.1 in
    (c.requires.0.n-most, r.keys, sorted c.args.s b r.form)

pub loop-d-init : goal.loop-d-init
loop-d-init c =
    let a = c.args in
    above-start (verdict_on judges a.s a.b.now) a.s.group.p a.s.n

pub slice_bounds-verdict-end : goal.slice_bounds-verdict-end
slice_bounds-verdict-end c = sym (length-take-le _ _ (search rules))

pub verdict-v-requires : goal.verdict-v-requires
verdict-v-requires c =
    let a = c.args in
    -- the first n places of the array are the members' keys
    let front : take a.s.n c.board_keys-ys.result ≡ keys_in a.s.n a.b.now = members-front (key_in a.b.now) a.s.n c.board_keys-ys.ensures in
    (c.requires.0, c.requires.1, front)

pub times_secret-product-requires : goal.times_secret-product-requires
times_secret-product-requires c = omega (arith, c.requires.0.proper.prime-p.above-one)

pub overflow_add-accepted : goal.overflow_add-accepted
overflow_add-accepted c = omega (arith, c.count_one-accepted.ensures, count_most c.verdict-v.result, c.loop-d.invariant.few, c.requires.0.n-most)

pub loop-d-preserved : goal.loop-d-preserved
loop-d-preserved c =
    let l = c.loop-d in
    above-next _ _ _ l.d l.verdicts l.accepted l.stuck l.product.0 l.invariant (omega arith) c.requires.0.n-most
    c.verdict-v.result c.count_one-accepted.result c.any_stuck-stuck.result c.times_secret-product.result.0
    c.verdict-v.ensures c.count_one-accepted.ensures c.any_stuck-stuck.ensures c.times_secret-product.ensures

pub draw_answer-requires : goal.draw_answer-requires
draw_answer-requires c =
    let l = c.loop-d in
    let a = c.args in
    (c.requires.0, c.requires.1, all-verdicts (verdict_on judges a.s a.b.now) _ a.s.n l.d l.verdicts l.accepted l.stuck l.product.0 l.invariant (omega arith))

pub returns : goal.returns
returns c =
    let l = c.loop-d in
    let a = c.args in
    above-judged judges a.s a.b.now l.d l.verdicts l.accepted l.stuck l.product l.invariant (omega arith) _ c.draw_answer.ensures
