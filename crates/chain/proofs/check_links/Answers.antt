-- `check_links` meets its contract: what refuses the link i is what refuses them all.
use mathlib.Core.Path.{◌≡◌}
use Rattle.std.proofs.Common.{rules}
use Rattle.std.specs.Prelude.{Err}
use Rattle.group.specs.Table.{groups_of}
use Rattle.chain.specs.Chain.{links_in}
use Rattle.chain.proofs.Steps.{outcome_from, link_refused}
use Rattle.chain.proofs.check_links.Goals as goal

pub returns-in_err-check_link : goal.returns-in_err-check_link
returns-in_err-check_link c =
    let Gs = groups_of c.args.table.now in
    let b = c.args.b.now in
    let l = c.loop-i in
    let h : Err c.in_err-check_link.field-0.0 ≡ outcome_from Gs b (links_in b) l.i =
    link_refused Gs b (links_in b) l.i (search rules) l.invariant.0 c.record_at.ensures c.record_at-digest.ensures c.in_err-check_link.ensures in
    search rules
