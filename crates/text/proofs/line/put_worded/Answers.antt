-- `put_worded` meets its contract: the figure is written behind the word.
use Rattle.text.specs.Text.{figure}
use Rattle.text.proofs.Writing.{room-first, room-rest, both}
use Rattle.text.proofs.line.put_worded.Goals as goal

pub put_bytes-next-requires : goal.put_bytes-next-requires
put_bytes-next-requires c = room-first c.args.word.now (figure c.args.v) c.requires

pub put_figure-requires : goal.put_figure-requires
put_figure-requires c = room-rest c.args.word.now (figure c.args.v) c.requires c.put_bytes-next.ensures

pub returns : goal.returns
returns c = both c.args.word.now (figure c.args.v) c.requires c.put_bytes-next.ensures c.put_figure.ensures
