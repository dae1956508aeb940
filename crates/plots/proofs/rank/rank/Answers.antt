-- `rank` meets its contract: the message is written whole, and the first word of its digest is the rank.
use Rattle.plots.proofs.Ranks.{rank-value, message-put}
use Rattle.plots.proofs.rank.rank.Goals as goal

pub returns : goal.returns
returns c =
    let a = c.args in
    rank-value a.value.0 a.radius a.plot (message-put a.value.0 a.radius a.plot c.put_word.ensures c.put_word-2.ensures) c.digest.ensures c.in-Ok.is
