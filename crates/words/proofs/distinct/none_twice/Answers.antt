-- `distinct::none_twice` meets its contract. The loop's invariant: no number stands twice exactly if none does from index i on.
use mathlib.Core.Path.{sym, ◌∙◌}
use Rattle.words.proofs.Tests.{twice-next, twice-stop}
use Rattle.words.proofs.distinct.none_twice.Goals as goal

pub returns-then-contains : goal.returns-then-contains
returns-then-contains c =
    let l = c.loop-i in
    sym (l.invariant ∙ twice-stop _ l.i c.loop-i-test.true c.contains.ensures.value c.if-contains.true)

pub loop-i-preserved : goal.loop-i-preserved
loop-i-preserved c =
    let l = c.loop-i in
    l.invariant ∙ twice-next _ l.i c.loop-i-test.true c.contains.ensures.value c.if-contains.false
