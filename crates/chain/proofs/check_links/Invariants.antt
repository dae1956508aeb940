-- `check_links` meets its contract. The loop's invariant: the checks of the links from i on come to what those of all come to, and `before`
-- is the digest before them.
use mathlib.Core.Path.{◌≡◌}
use Rattle.words.specs.Checks.{outcome}
use Rattle.group.specs.Table.{groups_of}
use Rattle.chain.specs.Chain.{links_in, digest_after, links_checks}
use Rattle.chain.proofs.Steps.{outcome_from}
use Rattle.chain.proofs.check_links.Given as goal

abbrev pub invariant-loop-i : goal.invariant-loop-i
invariant-loop-i l =
    let Gs = groups_of l.table in
    let n = links_in l.b in
    (l.before ≡ digest_after l.b l.i) × (outcome (links_checks Gs l.b 0 n) (tt {0}) ≡ outcome_from Gs l.b n l.i)
