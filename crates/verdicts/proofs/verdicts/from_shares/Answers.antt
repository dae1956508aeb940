-- `from_shares` meets its contract: each member has an encrypted share in the lines of d.
use Rattle.verdicts.proofs.Secrets.{lines_shares}
use Rattle.verdicts.proofs.verdicts.from_shares.Goals as goal

pub from_lowest-requires : goal.from_lowest-requires
from_lowest-requires c = lines_shares _ _ _ c.requires.0 c.opened_form.ensures c.requires.1
