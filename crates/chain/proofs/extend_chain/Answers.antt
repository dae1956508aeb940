-- `extend_chain` meets its contract: what refuses is handed on, and where nothing does the next link is written.
use mathlib.Core.Path.{sym, ◌∙◌}
use borrow.Author.Tests.{ltb-true, eqb-true}
use lib.Dec.{ltb}
use lib.ListN.{length}
use Rattle.words.proofs.Tests.{and-true}
use Rattle.words.proofs.Checks.{if-met}
use Rattle.words.proofs.Stages.{met-both, stage-met, last-kept}
use Rattle.group.specs.Table.{groups_of}
use Rattle.chain.specs.Chain.{links_in, chain_checks, next_checks, extend_checks, lent_link}
use Rattle.chain.proofs.extend_chain.Goals as goal

pub returns-in_err-check_extension-clause-out_after : goal.returns-in_err-check_extension-clause-out_after
unfolding lent_link
returns-in_err-check_extension-clause-out_after c =
    let a = c.args in
    last-kept (extend_checks a.table.now a.b.now a.number a.value.0 (length a.out.now)) c.in_err-check_extension.ensures _ _

pub put_next-requires : goal.put_next-requires
unfolding extend_checks
put_next-requires c =
    let a = c.args in
    let T = a.table.now in
    let b = a.b.now in
    let room = length a.out.now in
    let cs = extend_checks T b a.number a.value.0 room in
    let m = met-both (chain_checks T b) (next_checks (groups_of T) b a.number a.value.0 room) (stage-met cs c.in_ok-check_extension.ensures) in
    let s = and-true (ltb (links_in b) 1024) _ m.1.0 in
    (ltb-true (links_in b) 1024 s.0, eqb-true room 64 s.1)

pub returns-clause-out_after : goal.returns-clause-out_after
unfolding lent_link
returns-clause-out_after c =
    let a = c.args in
    let cs = extend_checks a.table.now a.b.now a.number a.value.0 (length a.out.now) in
    c.put_next.ensures ∙ sym (if-met _ _ cs (stage-met cs c.in_ok-check_extension.ensures))
