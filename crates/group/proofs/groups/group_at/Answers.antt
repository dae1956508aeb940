-- `groups::group_at` meets its contract: the definition takes the same words of the record.
use mathlib.Core.Path.{ap}
use Rattle.words.specs.declared.Record.{Record}
use Rattle.group.specs.Table.{group, group_at}
use Rattle.group.proofs.groups.group_at.Goals as goal

pub returns : goal.returns
unfolding group_at
returns c = ap (λ (r : Record). group r.w2 r.w3 r.w4 r.w5) c.record_at-r.ensures
